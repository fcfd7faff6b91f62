-- Every state that a part ever had in the main line was run and reported good. Assumes nothing.
use Rattle.std.proofs.Common.{◌≡◌, ℕ, zero, suc, ◌<◌, Bool, true, false, ◌&&◌, ◌||◌, eqb, List, [], ◌∷◌, ◌++◌, length, get_or, take, sym, refl, ap, ◌∙◌, subst, ap₂, true≢false, append_assoc, append-nil, arith}
use mathlib.Core.Bool.{or-true}
use Rattle.std.proofs.lemmas.Bool.{eqb-true}
use Rattle.std.proofs.ByRecursion.{All-push}
use Rattle.change.proofs.ChangeLaws.{line-append}
use Rattle.run.proofs.Compared.{same_run_refl}
use Rattle.change.specs.Change.{Change, has, line}
use Rattle.run.specs.Run.{Run, Verdict, same_run}
use Rattle.run.specs.State.{Config, Queue, empty}
use Rattle.serial.specs.Serial.{Bench, passes_on, passes}
use Rattle.plan.specs.Plan.{among, useful_in, planned}
use Rattle.queue.specs.Queue.{Event, submit, withdraw, report, no_run, recorded, decided, step, replayed}
use Rattle.promises.specs.Day.{blank, reported_by, logged, said_good}
use Rattle.promises.specs.Promises.{EveryStateTested}
use Rattle.promises.proofs.Basics.{both_left, both_right, line_with, all-kept}
use Rattle.promises.proofs.Pass.{Vouched, says, good-passes, pass_all}
use Rattle.promises.proofs.Days.{log-keeps}

-- each of the list passed on top of those before it
abbrev Grown : Bench → List Change → List Change → Type 0
Grown f pre [] = Unit {0}
Grown f pre (c ∷ cs) = (passes f pre c ≡ true) × Grown f (pre ++ c ∷ []) cs

grown_push : (f : Bench) (cs pre : List Change) (c : Change) → Grown f pre cs → passes f (pre ++ cs) c ≡ true → Grown f pre (cs ++ c ∷ [])
grown_push f [] pre c g e = (ap (λ (x : List Change). passes f x c) (sym (append-nil pre)) ∙ e, tt)
grown_push f (d ∷ cs) pre c g e = (g.0, grown_push f cs (pre ++ d ∷ []) c g.1 (ap (λ (x : List Change). passes f x c) (append_assoc pre (d ∷ []) cs) ∙ e))

-- a change that passes is good on each of its parts
passes_at : (f : Bench) (xs : List Change) (c : Change) (ps : List ℕ) → passes_on f xs c ps ≡ true → (p : ℕ) → has ps p ≡ true → f p (line p xs ++ c.number ∷ []) ≡ true
unfolding passes_on
passes_at f xs c [] e p h = absurd (true≢false (sym h))
passes_at f xs c (q ∷ ps) e p h = go (passes_at f xs c ps (both_right (f q (line q xs ++ c.number ∷ [])) (passes_on f xs c ps) e) p) (eqb q p) refl h
  where
    go : (has ps p ≡ true → f p (line p xs ++ c.number ∷ []) ≡ true) → (b : Bool) → eqb q p ≡ b → (b || has ps p) ≡ true → f p (line p xs ++ c.number ∷ []) ≡ true
    go ih true k j = subst (λ (x : ℕ). f x (line x xs ++ c.number ∷ []) ≡ true) (eqb-true q p k) (both_left (f q (line q xs ++ c.number ∷ [])) (passes_on f xs c ps) e)
    go ih false k j = ih j

-- so each prefix of the main line is good on the parts of its last change
grown-at : (f : Bench) (cs pre : List Change) → Grown f pre cs → (k p : ℕ) (c : Change) → k < length cs → has (get_or cs k c).parts p ≡ true →
    f p (line p (pre ++ take (suc k) cs)) ≡ true
unfolding passes
grown-at f [] pre g k p c l h = absurd (omega arith)
grown-at f (d ∷ cs) pre g zero p c l h =
    ap (f p) (ap (λ (x : List Change). line p (pre ++ d ∷ x)) (take_none cs) ∙ line-append p pre (d ∷ []) ∙ ap (λ (x : List ℕ). line p pre ++ x) (line_with p d h)) ∙ passes_at f pre d d.parts g.0 p h
  where
    take_none : (zs : List Change) → take zero zs ≡ []
    take_none [] = refl
    take_none (z ∷ zs) = refl
grown-at f (d ∷ cs) pre g (suc k) p c l h =
    ap (λ (x : List Change). f p (line p x)) (sym (append_assoc pre (d ∷ []) (take (suc k) cs))) ∙ grown-at f cs (pre ++ d ∷ []) g.1 k p c (omega arith) h

-- a report of the list stands in a longer one
said_left : (r : Run) (xs ys : List Verdict) → said_good r xs ≡ true → said_good r (xs ++ ys) ≡ true
said_left r [] ys e = absurd (true≢false (sym e))
said_left r (x ∷ xs) ys e = go (said_left r xs ys) (same_run r x.run && x.good) e
  where
    go : (said_good r xs ≡ true → said_good r (xs ++ ys) ≡ true) → (b : Bool) → (b || said_good r xs) ≡ true → (b || said_good r (xs ++ ys)) ≡ true
    go ih true h = refl
    go ih false h = ih h

said_right : (r : Run) (xs ys : List Verdict) → said_good r ys ≡ true → said_good r (xs ++ ys) ≡ true
said_right r [] ys e = e
said_right r (x ∷ xs) ys e = ap (◌||◌ (same_run r x.run && x.good)) (said_right r xs ys e) ∙ or-true (same_run r x.run && x.good)

-- what is known good is good on the bench, and each landed change passed on top of those before it
record Tested (f : Bench) (q : Queue) : Type 0 where
  pub vouched : Vouched f q.verdicts
  pub grown : Grown f [] q.landed

tested_decided : (f : Bench) (t : Config) (q : Queue) → Tested f q → Tested f (planned t (decided q))
unfolding planned decided passes
tested_decided f t q s = record {
  vouched = all-kept (λ v. v.good ≡ true → f v.run.part v.run.changes ≡ true) (λ v. among v.run (useful_in t (decided q))) q.verdicts s.vouched;
  grown = pass_all q.verdicts (λ L W B. Grown f [] L)
      (λ L W₁ c W₂ B e h. grown_push f L [] c h (good-passes f q.verdicts s.vouched L c c.parts e.runs))
      (λ L W₁ c W₂ B e h. h)
      q.landed q.waiting q.rejected s.grown;
}

-- the bench says good of all that these verdicts say good of
abbrev Agrees : Bench → List Verdict → Type 0
Agrees f vs = (r : Run) → said_good r vs ≡ true → says f r ≡ true

tested_recorded : (f : Bench) (q : Queue) (e : Event) → Agrees f (reported_by q e) → Tested f q → Tested f (recorded q e)
unfolding recorded
tested_recorded f q (submit c) a s = record { vouched = s.vouched; grown = s.grown }
tested_recorded f q (withdraw n) a s = record { vouched = s.vouched; grown = s.grown }
tested_recorded f q (report i g) a s = record {
  vouched = All-push (λ v. v.good ≡ true → f v.run.part v.run.changes ≡ true) q.verdicts (record { run = r; good = g }) s.vouched
      (λ e. a r (ap (λ (b : Bool). b || false) (ap₂ ◌&&◌ (same_run_refl r) e)));
  grown = s.grown;
}
  where
    r : Run
    r = get_or q.running i no_run

tested_day : (f : Bench) (t : Config) (es : List Event) → Agrees f (logged t es).reports → Tested f (replayed t empty es)
unfolding step
tested_day f t es = log-keeps t (λ q g. Agrees f g.reports → Tested f q)
    (λ q g e a h k. tested_decided f t (recorded q e)
    (tested_recorded f q e (λ r s. k r (said_right r g.reports (reported_by q e) s)) (h (λ r s. k r (said_left r g.reports (reported_by q e) s)))))
    es empty blank (λ k. record { vouched = tt; grown = tt })

-- by the bench that says good of what was reported good, and bad of all else
pub every_state_tested : EveryStateTested
every_state_tested t es k p c l h = grown-at f (replayed t empty es).landed [] (tested_day f t es (λ r e. e)).grown k p c l h
  where
    f : Bench
    f x w = said_good (record { part = x; changes = w }) (logged t es).reports
