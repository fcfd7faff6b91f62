-- The main promise: the decisions are those of serial testing. Assumes nothing.
use Rattle.std.proofs.Common.{◌≡◌, ℕ, true, false, ◌||◌, eqb, List, [], ◌∷◌, ◌++◌, get_or, sym, refl, ap, ◌∙◌, subst, ap₂, append-nil}
use Rattle.std.proofs.lemmas.Bool.{or_from}
use Rattle.std.specs.List.{AllByRecursion}
use Rattle.std.proofs.ByRecursion.{All-push}
use Rattle.change.specs.Change.{Change, line, numbered, dropped}
use Rattle.run.specs.Run.{Verdict}
use Rattle.run.specs.State.{Config, Queue, empty}
use Rattle.serial.specs.Serial.{Bench, passes, serial_landed, serial_rejected}
use Rattle.plan.specs.Plan.{among, useful_in, planned}
use Rattle.queue.specs.Queue.{Event, submit, withdraw, report, used, accepts, no_run, recorded, decided, step, replayed}
use Rattle.promises.specs.Day.{blank, arrivals_with, reported_by, logged, Truthful, not_waiting}
use Rattle.promises.specs.Promises.{SerialEquivalence}
use Rattle.promises.proofs.Basics.{neither_left, neither_right, numbered_push, all_both, all-kept}
use Rattle.promises.proofs.Serial.{Alike, passes_same, Loose, alike_push}
use Rattle.promises.proofs.Pass.{truthful-vouched, bad_fails, good-passes, WhyReject, Lands, Rejects, pass_all}
use Rattle.promises.proofs.Marks.{Mark, wait, land, reject, arrived, waits, ended, lands, rejects, Split, split, arrived-append, waits-append, lands-append, rejects-append, Falls, Sound, serial_landed_is, serial_rejected_is, sound-after, sound-join, numbered-place, sound_gone, sound-land, passes-later, line-place, Distinct, numbers_split, numbers-ended, numbers_apart, not_waiting_is, distinct_push, sound-wait, leave, waits-leave, lands-leave, rejects-leave, arrived-leave, sound-leave, distinct-dropped}
use Rattle.promises.proofs.Days.{log-keeps, fresh-number}

-- C arrived, L has landed, W waits, B was rejected: the marks of the arrivals say so
record Matches (f : Bench) (C L W B : List Change) : Type 0 where
  pub marks : List Mark
  pub arrived_is : arrived marks ≡ C
  pub wait_is : waits marks ≡ W
  pub sound : Sound f [] [] marks
  pub lines : Alike L (lands marks)
  pub numbers : (n : ℕ) → numbered n L ≡ numbered n (lands marks)
  pub rejections : (n : ℕ) → numbered n B ≡ numbered n (rejects marks)

-- a waiting change at its place among the marks
record Place (f : Bench) (C L W₁ : List Change) (c : Change) (W₂ B : List Change) : Type 0 where
  pub m₁ : List Mark
  pub m₂ : List Mark
  pub arrived_is : arrived m₁ ++ c ∷ arrived m₂ ≡ C
  pub w₁ : waits m₁ ≡ W₁
  pub w₂ : waits m₂ ≡ W₂
  pub sound : Sound f [] [] (m₁ ++ wait c ∷ m₂)
  pub lines : Alike L (lands m₁ ++ lands m₂)
  pub numbers : (n : ℕ) → numbered n L ≡ numbered n (lands m₁ ++ lands m₂)
  pub rejections : (n : ℕ) → numbered n B ≡ numbered n (rejects m₁ ++ rejects m₂)

-- every change that waits has such a place
place : (f : Bench) (C L W₁ : List Change) (c : Change) (W₂ B : List Change) → Matches f C L (W₁ ++ c ∷ W₂) B → Place f C L W₁ c W₂ B
place f C L W₁ c W₂ B g = go (split g.marks W₁ c W₂ g.wait_is)
  where
    go : Split g.marks W₁ c W₂ → Place f C L W₁ c W₂ B
    go s = record {
      m₁ = s.m₁;
      m₂ = s.m₂;
      arrived_is = sym (arrived-append s.m₁ (wait c ∷ s.m₂)) ∙ ap arrived (sym s.is) ∙ g.arrived_is;
      w₁ = s.w₁;
      w₂ = s.w₂;
      sound = subst (Sound f [] []) s.is g.sound;
      lines = λ p. g.lines p ∙ ap (line p) (ap lands s.is ∙ lands-append s.m₁ (wait c ∷ s.m₂));
      numbers = λ n. g.numbers n ∙ ap (numbered n) (ap lands s.is ∙ lands-append s.m₁ (wait c ∷ s.m₂));
      rejections = λ n. g.rejections n ∙ ap (numbered n) (ap rejects s.is ∙ rejects-append s.m₁ (wait c ∷ s.m₂));
    }

rest-sound : (f : Bench) (C L W₁ : List Change) (c : Change) (W₂ B : List Change) (s : Place f C L W₁ c W₂ B) → Sound f (lands s.m₁) (waits s.m₁ ++ c ∷ []) s.m₂
rest-sound f C L W₁ c W₂ B s = sound-after f s.m₁ (wait c ∷ s.m₂) [] [] s.sound

-- whether it passes in its place is whether it passes on top of what has landed
passes-place : (f : Bench) (C L W₁ : List Change) (c : Change) (W₂ B : List Change) (s : Place f C L W₁ c W₂ B) → passes f (lands s.m₁) c ≡ passes f L c
passes-place f C L W₁ c W₂ B s =
    sym (passes-later f s.m₂ (lands s.m₁) (waits s.m₁) c [] (rest-sound f C L W₁ c W₂ B s))
    ∙ sym (passes_same f c L (lands s.m₁ ++ lands s.m₂) (λ p h. s.lines p))

-- a decision keeps the marks
land-keeps : (f : Bench) (ks : List Verdict) (C : List Change) → Truthful f ks → Lands ks (Matches f C)
unfolding passes
land-keeps f ks C t L W₁ c W₂ B y g = go (place f C L W₁ c W₂ B g)
  where
    good : passes f L c ≡ true
    good = good-passes f ks (truthful-vouched f ks t) L c c.parts y.runs

    go : Place f C L W₁ c W₂ B → Matches f C (L ++ c ∷ []) (W₁ ++ W₂) B
    go s = record {
      marks = s.m₁ ++ land c ∷ s.m₂;
      arrived_is = arrived-append s.m₁ (land c ∷ s.m₂) ∙ s.arrived_is;
      wait_is = waits-append s.m₁ (land c ∷ s.m₂) ∙ ap₂ ◌++◌ s.w₁ s.w₂;
      sound = sound-join f s.m₁ (wait c ∷ s.m₂) (land c ∷ s.m₂) [] [] s.sound (
        record {
          clear = subst (AllByRecursion (Loose c)) (sym s.w₁) y.apart;
          passing = passes-place f C L W₁ c W₂ B s ∙ good;
        },
        subst (λ (v : List Change). Sound f (lands s.m₁ ++ c ∷ []) v s.m₂) (append-nil (waits s.m₁))
            (sound-land f s.m₂ (lands s.m₁) [] (waits s.m₁) c [] (subst (λ (a : List Change). Sound f a (waits s.m₁ ++ c ∷ []) s.m₂) (sym (append-nil (lands s.m₁))) (rest-sound f C L W₁ c W₂ B s))),
      );
      lines = λ p. alike_push c L (lands s.m₁ ++ lands s.m₂) s.lines p
          ∙ line-place f s.m₂ (lands s.m₁) (waits s.m₁) c [] (rest-sound f C L W₁ c W₂ B s) (lands s.m₁) p
          ∙ sym (ap (line p) (lands-append s.m₁ (land c ∷ s.m₂)));
      numbers = λ n. numbered_push n L c ∙ ap (◌||◌ (eqb c.number n)) (s.numbers n) ∙ sym (numbered-place n (lands s.m₁) c (lands s.m₂)) ∙ sym (ap (numbered n) (lands-append s.m₁ (land c ∷ s.m₂)));
      rejections = λ n. s.rejections n ∙ sym (ap (numbered n) (rejects-append s.m₁ (land c ∷ s.m₂)));
    }

reject-keeps : (f : Bench) (ks : List Verdict) (C : List Change) → Truthful f ks → Rejects ks (Matches f C)
unfolding passes
reject-keeps f ks C t L W₁ c W₂ B y g = go (place f C L W₁ c W₂ B g)
  where
    falls : (s : Place f C L W₁ c W₂ B) → WhyReject ks L W₁ c → Falls f (lands s.m₁) (waits s.m₁) c
    falls s w = record { clear = subst (AllByRecursion (Loose c)) (sym s.w₁) w.apart; failing = passes-place f C L W₁ c W₂ B s ∙ bad_fails f ks t L c c.parts w.bad }

    go : Place f C L W₁ c W₂ B → Matches f C L (W₁ ++ W₂) (B ++ c ∷ [])
    go s = record {
      marks = s.m₁ ++ reject c ∷ s.m₂;
      arrived_is = arrived-append s.m₁ (reject c ∷ s.m₂) ∙ s.arrived_is;
      wait_is = waits-append s.m₁ (reject c ∷ s.m₂) ∙ ap₂ ◌++◌ s.w₁ s.w₂;
      sound = sound-join f s.m₁ (wait c ∷ s.m₂) (reject c ∷ s.m₂) [] [] s.sound (
        falls s y,
        subst (λ (v : List Change). Sound f (lands s.m₁) v s.m₂) (append-nil (waits s.m₁)) (sound_gone f s.m₂ (lands s.m₁) (waits s.m₁) c [] (rest-sound f C L W₁ c W₂ B s)),
      );
      lines = λ p. s.lines p ∙ sym (ap (line p) (lands-append s.m₁ (reject c ∷ s.m₂)));
      numbers = λ n. s.numbers n ∙ sym (ap (numbered n) (lands-append s.m₁ (reject c ∷ s.m₂)));
      rejections = λ n. numbered_push n B c ∙ ap (◌||◌ (eqb c.number n)) (s.rejections n) ∙ sym (numbered-place n (rejects s.m₁) c (rejects s.m₂)) ∙ sym (ap (numbered n) (rejects-append s.m₁ (reject c ∷ s.m₂)));
    }

-- the queue's decisions are those of the marks, and all that is known is what the bench says
record Inv (f : Bench) (C : List Change) (q : Queue) : Type 0 where
  pub matches : Matches f C q.landed q.waiting q.rejected
  pub distinct : Distinct C
  pub truthful : Truthful f q.verdicts

-- deciding and requesting keep it
inv_decided : (f : Bench) (t : Config) (C : List Change) (q : Queue) → Inv f C q → Inv f C (planned t (decided q))
unfolding planned decided
inv_decided f t C q i = record {
  matches = pass_all q.verdicts (Matches f C) (land-keeps f q.verdicts C i.truthful) (reject-keeps f q.verdicts C i.truthful) q.landed q.waiting q.rejected i.matches;
  distinct = i.distinct;
  truthful = all-kept (λ v. v.good ≡ f v.run.part v.run.changes) (λ v. among v.run (useful_in t (decided q))) q.verdicts i.truthful;
}

-- so does recording an event: other marks, with the same decisions
same-matches : (f : Bench) (C L W B C' W' : List Change) (g : Matches f C L W B) (M : List Mark) → arrived M ≡ C' → waits M ≡ W' → Sound f [] [] M →
    lands M ≡ lands g.marks → rejects M ≡ rejects g.marks → Matches f C' L W' B
same-matches f C L W B C' W' g M x y z i t = record {
  marks = M;
  arrived_is = x;
  wait_is = y;
  sound = z;
  lines = λ p. g.lines p ∙ sym (ap (line p) i);
  numbers = λ n. g.numbers n ∙ sym (ap (numbered n) i);
  rejections = λ n. g.rejections n ∙ sym (ap (numbered n) t);
}

-- a number that the queue does not use did not arrive
new-number : (f : Bench) (C : List Change) (q : Queue) (n : ℕ) → used n q.landed q.waiting q.rejected ≡ false → Inv f C q → numbered n C ≡ false
new-number f C q n e i =
    ap (numbered n) (sym g.arrived_is) ∙ numbers_split n m
    ∙ or_from (numbered n (waits m)) (numbered n (ended m)) (ap (numbered n) g.wait_is ∙ neither_left (numbered n q.waiting) (numbered n q.rejected) behind)
    (numbers-ended n m ∙ or_from (numbered n (lands m)) (numbered n (rejects m)) (sym (g.numbers n) ∙ neither_left (numbered n q.landed) (numbered n q.waiting || numbered n q.rejected) e)
    (sym (g.rejections n) ∙ neither_right (numbered n q.waiting) (numbered n q.rejected) behind))
  where
    g : Matches f C q.landed q.waiting q.rejected
    g = i.matches

    m : List Mark
    m = g.marks

    behind : (numbered n q.waiting || numbered n q.rejected) ≡ false
    behind = neither_right (numbered n q.landed) (numbered n q.waiting || numbered n q.rejected) e

-- a submission waits behind all, a withdrawal leaves its place, a report is true
inv_recorded : (f : Bench) (t : Config) (C : List Change) (q : Queue) (e : Event) → accepts t q e ≡ true → Truthful f (reported_by q e) → Inv f C q →
    Inv f (arrivals_with e C) (recorded q e)
unfolding accepts recorded
inv_recorded f t C q (submit c) a r i = record {
  matches = same-matches f C q.landed q.waiting q.rejected (C ++ c ∷ []) (q.waiting ++ c ∷ []) g (m ++ wait c ∷ [])
      (arrived-append m (wait c ∷ []) ∙ ap (λ (cs : List Change). cs ++ c ∷ []) g.arrived_is)
      (waits-append m (wait c ∷ []) ∙ ap (λ (cs : List Change). cs ++ c ∷ []) g.wait_is)
      (sound-wait f m c [] [] g.sound)
      (lands-append m (wait c ∷ []) ∙ append-nil (lands m))
      (rejects-append m (wait c ∷ []) ∙ append-nil (rejects m));
  distinct = distinct_push C c i.distinct (new-number f C q c.number (fresh-number t q c a) i);
  truthful = i.truthful;
}
  where
    g : Matches f C q.landed q.waiting q.rejected
    g = i.matches

    m : List Mark
    m = g.marks
inv_recorded f t C q (withdraw n) a r i = record {
  matches = same-matches f C q.landed q.waiting q.rejected (dropped n C) (dropped n q.waiting) g (leave n m)
      (arrived-leave n m (numbers_apart m (subst Distinct (sym g.arrived_is) i.distinct) n (ap (numbered n) g.wait_is ∙ a)) ∙ ap (dropped n) g.arrived_is)
      (waits-leave n m ∙ ap (dropped n) g.wait_is) (sound-leave f n m [] [] g.sound) (lands-leave n m) (rejects-leave n m);
  distinct = distinct-dropped n C i.distinct;
  truthful = i.truthful;
}
  where
    g : Matches f C q.landed q.waiting q.rejected
    g = i.matches

    m : List Mark
    m = g.marks
inv_recorded f t C q (report k b) a r i = record {
  matches = i.matches;
  distinct = i.distinct;
  truthful = All-push (λ v. v.good ≡ f v.run.part v.run.changes) q.verdicts (record { run = get_or q.running k no_run; good = b }) i.truthful r.0;
}

-- whatever the events, it holds after the day if the reports that were taken are what the bench says
inv_day : (f : Bench) (t : Config) (es : List Event) → Truthful f (logged t es).reports → Inv f (logged t es).arrivals (replayed t empty es)
unfolding step
inv_day f t es = log-keeps t (λ q g. Truthful f g.reports → Inv f g.arrivals q)
    (λ q g e a h r. let both = all_both (λ v. v.good ≡ f v.run.part v.run.changes) g.reports (reported_by q e) r in
    inv_decided f t (arrivals_with e g.arrivals) (recorded q e) (inv_recorded f t g.arrivals q e a both.1 (h both.0)))
    es empty blank
    (λ r. record { matches = record { marks = []; arrived_is = refl; wait_is = refl; sound = tt; lines = λ p. refl; numbers = λ n. refl; rejections = λ n. refl }; distinct = tt; truthful = tt })

-- so the decided arrivals, tested one at a time, land and are rejected as the marks say
pub serial_equivalence : SerialEquivalence
serial_equivalence f t es r = (
  λ p. i.matches.lines p ∙ sym (ap (line p) landed_is),
  λ n. i.matches.numbers n ∙ sym (ap (numbered n) landed_is),
  λ n. i.matches.rejections n ∙ sym (ap (numbered n) (ap (serial_rejected f []) those ∙ serial_rejected_is f m [] [] i.matches.sound)),
)
  where
    i : Inv f (logged t es).arrivals (replayed t empty es)
    i = inv_day f t es r

    m : List Mark
    m = i.matches.marks

    those : not_waiting (logged t es).arrivals (replayed t empty es).waiting ≡ ended m
    those = ap₂ not_waiting (sym i.matches.arrived_is) (sym i.matches.wait_is) ∙ not_waiting_is m (subst Distinct (sym i.matches.arrived_is) i.distinct)

    landed_is : serial_landed f [] (not_waiting (logged t es).arrivals (replayed t empty es).waiting) ≡ lands m
    landed_is = ap (serial_landed f []) those ∙ serial_landed_is f m [] [] i.matches.sound
