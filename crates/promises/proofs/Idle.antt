-- A change waits for its own runs only, every useful run is requested while a bench is free, and so no bench idles while a change waits. Assumes nothing.
use Rattle.std.proofs.Common.{◌≡◌, ℕ, zero, suc, ◌<◌, Bool, true, false, cond, ◌&&◌, ◌⊎◌, List, [], ◌∷◌, ◌++◌, length, sym, refl, ap, ◌∙◌, subst, subst₂, inl, inr, true≢false, append_assoc, append-nil, arith}
use mathlib.Core.Bool.{and-false}
use Rattle.std.proofs.lemmas.Bool.{not-true, or_from, and_cases}
use Rattle.std.specs.List.{AllByRecursion}
use Rattle.run.specs.declared.known.Known.{Known}
use Rattle.run.specs.declared.known.Known.TheVariants.{Nothing, Good, Bad}
use Rattle.run.proofs.Compared.{same_run_true}
use Rattle.change.specs.Change.{Change, has, share}
use Rattle.run.specs.Run.{Run, Verdict, same_run, heard, is_good, is_bad, is_unknown, run_on, runs_on}
use Rattle.run.specs.State.{Config, Queue, empty}
use Rattle.decide.specs.Decide.{any_bad, all_good, shares_any, pass}
use Rattle.plan.specs.Plan.{useful, among, still_running, still_known, useful_in, planned}
use Rattle.queue.specs.Queue.{Event, recorded, decided, step, replayed}
use Rattle.promises.specs.Day.{held}
use Rattle.promises.specs.Promises.{NeverIdle, FullyBooked, DecidedWhenKnown}
use Rattle.promises.proofs.Basics.{clash, neither_left, neither_right, Off, off_sym, line_off, has_head, has_tail}
use Rattle.promises.proofs.Serial.{Loose, Apart}
use Rattle.promises.proofs.Pass.{shares_apart, WhyWait, for_parts, for_runs, pass_by}
use Rattle.promises.proofs.Marks.{no_cons}
use Rattle.promises.proofs.Days.{day_keeps}
use Rattle.promises.proofs.Runs.{among-left, among_cases, Sub, all_from}
use Rattle.promises.proofs.Useful.{runs_alike, among-runs}
use Rattle.promises.proofs.Held.{known, unknown_is, booked}

-- WHY A CHANGE WAITS. No run on top of landed is known bad, and not all are known good.
abbrev Open : List Verdict → List Change → Change → Type 0
Open ks L c = (any_bad (runs_on L c.number c.parts) ks ≡ false) × (all_good (runs_on L c.number c.parts) ks ≡ false)

-- changes that have no part in common do not share one, by the test
off_share : (ps qs : List ℕ) → Off ps qs → share ps qs ≡ false
off_share [] qs o = refl
off_share (p ∷ ps) qs o = or_from (has qs p) (share ps qs) (o p (has_head p ps)) (off_share ps qs (λ q h. o q (has_tail p ps q h)))

apart_shares : (c : Change) (ws : List Change) → Apart c ws → shares_any c ws ≡ false
apart_shares c [] a = refl
apart_shares c (w ∷ ws) a = or_from (share c.parts w.parts) (shares_any c ws) (off_share c.parts w.parts a.0) (apart_shares c ws a.1)

-- a change that waits, and shares no part with one before it, is open
waits_open : (ks : List Verdict) (L H : List Change) (c : Change) → WhyWait ks L H c → Apart c H → Open ks L c
waits_open ks L H c (for_parts e) a = clash e (apart_shares c H a)
waits_open ks L H c (for_runs i j) a = (i, j)

-- it stays open when a change lands that shares no part with it
open_land : (ks : List Verdict) (L : List Change) (d w : Change) → Loose d w → Open ks L w → Open ks (L ++ d ∷ []) w
open_land ks L d w o = subst (λ (rs : List Run). (any_bad rs ks ≡ false) × (all_good rs ks ≡ false))
    (runs_alike w.number L (L ++ d ∷ []) w.parts (λ p h. sym (line_off p L d (off_sym d.parts w.parts o p h))))

-- what holds of each of a list and those before it
abbrev Row : (List Change → Change → Type 0) → List Change → List Change → Type 0
Row Q pre [] = Unit {0}
Row Q pre (w ∷ ws) = Q pre w × Row Q (pre ++ w ∷ []) ws

-- such rows grow at their end, are read at any place, and change with what they say
row_push : (Q : List Change → Change → Type 0) (pre ws : List Change) (c : Change) → Row Q pre ws → Q (pre ++ ws) c → Row Q pre (ws ++ c ∷ [])
row_push Q pre [] c r q = (subst (λ (x : List Change). Q x c) (append-nil pre) q, tt)
row_push Q pre (w ∷ ws) c r q = (r.0, row_push Q (pre ++ w ∷ []) ws c r.1 (subst (λ (x : List Change). Q x c) (sym (append_assoc pre (w ∷ []) ws)) q))

row_at : (Q : List Change → Change → Type 0) (pre before : List Change) (c : Change) (rest : List Change) → Row Q pre (before ++ c ∷ rest) → Q (pre ++ before) c
row_at Q pre [] c rest r = subst (λ (x : List Change). Q x c) (sym (append-nil pre)) r.0
row_at Q pre (b ∷ before) c rest r = subst (λ (x : List Change). Q x c) (append_assoc pre (b ∷ []) before) (row_at Q (pre ++ b ∷ []) before c rest r.1)

row-map : (T : Change → Type 0) (Q R : List Change → Change → Type 0) → ((pre : List Change) (w : Change) → T w → Q pre w → R pre w) → (pre ws : List Change) → AllByRecursion T ws →
    Row Q pre ws → Row R pre ws
row-map T Q R k pre [] a r = tt
row-map T Q R k pre (w ∷ ws) a r = (k pre w a.0 r.0, row-map T Q R k (pre ++ w ∷ []) ws a.1 r.1)

-- each change that waits after the pass is open if it shares no part with those before it
abbrev OpenIf : List Verdict → List Change → List Change → Change → Type 0
OpenIf ks L pre w = Apart w pre → Open ks L w

pass_open : (ks : List Verdict) (L W B : List Change) → Row (OpenIf ks (pass ks [] L B W).landed) [] (pass ks [] L B W).waiting
pass_open ks L W B = pass_by ks (λ L H R B. Row (OpenIf ks L) [] H)
    (λ L H c R B y q. row_push (OpenIf ks L) [] H c q (waits_open ks L H c y))
    (λ L H c R B y q. row-map (Loose c) (OpenIf ks L) (OpenIf ks (L ++ c ∷ [])) (λ pre w o k a. open_land ks L c w o (k a)) [] H y.apart q)
    (λ L H c R B y q. q)
    W L [] B tt

-- of a run that is not useful nothing is known any more
heard_still : (us : List Run) (r : Run) (vs : List Verdict) → heard r (still_known us vs) ≡ cond (among r us) (heard r vs) Nothing
heard_still us r [] = none (among r us)
  where
    none : (b : Bool) → Nothing ≡ cond b Nothing Nothing
    none true = refl
    none false = refl
heard_still us r (v ∷ vs) = go (heard_still us r vs) (same_run r v.run) refl (among v.run us) refl
  where
    said : Known
    said = cond v.good Good Bad

    go : heard r (still_known us vs) ≡ cond (among r us) (heard r vs) Nothing → (b : Bool) → same_run r v.run ≡ b → (m : Bool) → among v.run us ≡ m →
        heard r (cond m (v ∷ still_known us vs) (still_known us vs)) ≡ cond (among r us) (cond b said (heard r vs)) Nothing
    go ih true k true j = ap (λ (x : Bool). cond x said (heard r (still_known us vs))) k ∙ sym (ap (λ (x : Bool). cond x said Nothing) (ap (λ (s : Run). among s us) (same_run_true r v.run k) ∙ j))
    go ih true k false j =
        let gone : among r us ≡ false = ap (λ (s : Run). among s us) (same_run_true r v.run k) ∙ j in
        ih ∙ ap (λ (x : Bool). cond x (heard r vs) Nothing) gone ∙ sym (ap (λ (x : Bool). cond x said Nothing) gone)
    go ih false k true j = ap (λ (x : Bool). cond x said (heard r (still_known us vs))) k ∙ ih
    go ih false k false j = ih

-- so dropping verdicts makes no run bad and no run good
any_bad_still : (us rs : List Run) (vs : List Verdict) → any_bad rs vs ≡ false → any_bad rs (still_known us vs) ≡ false
any_bad_still us [] vs e = refl
any_bad_still us (r ∷ rs) vs e =
    or_from (is_bad (heard r (still_known us vs))) (any_bad rs (still_known us vs)) (ap is_bad (heard_still us r vs) ∙ go (among r us)) (any_bad_still us rs vs (neither_right (is_bad (heard r vs)) (any_bad rs vs) e))
  where
    go : (b : Bool) → is_bad (cond b (heard r vs) Nothing) ≡ false
    go true = neither_left (is_bad (heard r vs)) (any_bad rs vs) e
    go false = refl

all_good_still : (us rs : List Run) (vs : List Verdict) → all_good rs vs ≡ false → all_good rs (still_known us vs) ≡ false
all_good_still us [] vs e = e
all_good_still us (r ∷ rs) vs e = go (all_good_still us rs vs) (and_cases (is_good (heard r vs)) (all_good rs vs) e)
  where
    not_good : is_good (heard r vs) ≡ false → (b : Bool) → is_good (cond b (heard r vs) Nothing) ≡ false
    not_good k true = k
    not_good k false = refl

    go : (all_good rs vs ≡ false → all_good rs (still_known us vs) ≡ false) → (is_good (heard r vs) ≡ false) ⊎ (all_good rs vs ≡ false) →
        (is_good (heard r (still_known us vs)) && all_good rs (still_known us vs)) ≡ false
    go ih (inl k) = ap (λ (b : Bool). b && all_good rs (still_known us vs)) (ap is_good (heard_still us r vs) ∙ not_good k (among r us))
    go ih (inr k) = ap (◌&&◌ (is_good (heard r (still_known us vs)))) (ih k) ∙ and-false (is_good (heard r (still_known us vs)))

abbrev OpenIn : Queue → Type 0
OpenIn q = (before : List Change) (c : Change) (rest : List Change) → q.waiting ≡ before ++ c ∷ rest → Apart c before → Open q.verdicts q.landed c

-- so every change that waits after an event is open if it shares no part with one before it
open_step : (t : Config) (q : Queue) (e : Event) → OpenIn (step t q e)
unfolding step planned decided
open_step t q e before c rest w a = (any_bad_still us rs p.verdicts k.0, all_good_still us rs p.verdicts k.1)
  where
    p : Queue
    p = recorded q e

    us : List Run
    us = useful_in t (decided p)

    rs : List Run
    rs = runs_on (decided p).landed c.number c.parts

    k : Open p.verdicts (decided p).landed c
    k = row_at (OpenIf p.verdicts (decided p).landed) [] before c rest (subst (Row (OpenIf p.verdicts (decided p).landed) []) w (pass_open p.verdicts p.landed p.waiting p.rejected)) a

open_day : (t : Config) (es : List Event) → OpenIn (replayed t empty es)
open_day t es = day_keeps t OpenIn (λ q e a h. open_step t q e) es empty (λ before c rest e a. absurd (no_cons before c rest e))

-- of an open change's runs, one is unknown
unknown-from : (k : Known) → is_bad k ≡ false → is_good k ≡ false → k ≡ Nothing
unknown-from Nothing i j = refl
unknown-from Good i j = absurd (true≢false j)
unknown-from Bad i j = absurd (true≢false i)

abbrev Lacks : List Verdict → List Change → ℕ → List ℕ → Type 0
Lacks ks L n ps = (p : ℕ) × (has ps p ≡ true) × (heard (run_on L n p) ks ≡ Nothing)

lacks-at : (ks : List Verdict) (L : List Change) (n : ℕ) (ps : List ℕ) → any_bad (runs_on L n ps) ks ≡ false → all_good (runs_on L n ps) ks ≡ false → Lacks ks L n ps
lacks-at ks L n [] i j = absurd (true≢false j)
lacks-at ks L n (p ∷ ps) i j = go (lacks-at ks L n ps (neither_right (is_bad (heard r ks)) (any_bad (runs_on L n ps) ks) i)) (is_good (heard r ks)) refl j
  where
    r : Run
    r = run_on L n p

    go : (all_good (runs_on L n ps) ks ≡ false → Lacks ks L n ps) → (b : Bool) → is_good (heard r ks) ≡ b → (b && all_good (runs_on L n ps) ks) ≡ false →
        Lacks ks L n (p ∷ ps)
    go ih true k h = let m = ih h in (m.0, has_tail p ps m.0 m.1, m.2)
    go ih false k h = (p, has_head p ps, unknown-from (heard r ks) (neither_left (is_bad (heard r ks)) (any_bad (runs_on L n ps) ks) i) k)

pub decided_when_known : DecidedWhenKnown
decided_when_known t es before c rest e s =
    let q = replayed t empty es in
    let k = open_day t es before c rest e (shares_apart c before s) in
    (lacks-at q.verdicts q.landed c.number c.parts k.0 k.1, k.0)

-- FREE BENCHES
pub useful_none : (n : ℕ) (xs : List Change) → useful n xs [] ≡ []
unfolding useful
useful_none zero xs = refl
useful_none (suc n) xs = refl

abbrev Booked : Config → Queue → Type 0
Booked t q = length q.running < t.benches → Sub (useful_in t q) (held q)

-- after every event a bench is free only if every useful run is held
booked_step : (t : Config) (q : Queue) (e : Event) → Booked t (step t q e)
unfolding step planned
booked_step t q e l =
    let p = decided (recorded q e) in
    let us = useful_in t p in
    (booked t.benches (still_known us p.verdicts) us (still_running us p.running) l).1

booked_day : (t : Config) (es : List Event) → Booked t (replayed t empty es)
booked_day t es = day_keeps t (Booked t) (λ q e a h. booked_step t q e) es empty (λ l r e. clash e (ap (among r) (useful_none t.depth [])))

pub fully_booked : FullyBooked
fully_booked t es l = all_from (λ r. among r (held (replayed t empty es)) ≡ true) (useful_in t (replayed t empty es)) (booked_day t es l)

-- the first change that waits has a run that is useful and not known
pub record NextRun (t : Config) (q : Queue) : Type 0 where
  pub run : Run
  pub useful : among run (useful_in t q) ≡ true
  pub unknown : among run (known q.verdicts) ≡ false

pub next_run : (t : Config) (es : List Event) → 0 < t.depth → 0 < length (replayed t empty es).waiting → NextRun t (replayed t empty es)
unfolding useful
next_run t es d w = go t.depth refl q.waiting refl
  where
    q : Queue
    q = replayed t empty es

    go : (n : ℕ) → t.depth ≡ n → (ws : List Change) → q.waiting ≡ ws → NextRun t q
    go zero e ws k = absurd (omega arith)
    go (suc n) e [] k = absurd (omega (arith, ap length k))
    go (suc n) e (c ∷ ws) k =
        let l = (decided_when_known t es [] c ws k refl).0 in
        let r = run_on q.landed c.number l.0 in
        record {
          run = r;
          useful = subst₂ (λ (m : ℕ) (vs : List Change). among r (useful m q.landed vs) ≡ true) (sym e) (sym k)
              (among-left r (runs_on q.landed c.number c.parts) (useful n (q.landed ++ c ∷ []) ws) (among-runs q.landed c.number c.parts l.0 l.1));
          unknown = not-true (among r (known q.verdicts)) (sym (unknown_is r q.verdicts) ∙ ap is_unknown l.2);
        }

among-some : (r : Run) (rs : List Run) → among r rs ≡ true → 0 < length rs
among-some r [] e = absurd (true≢false (sym e))
among-some r (s ∷ rs) e = omega arith

-- if no run ran, that run would have been requested
pub never_idle : NeverIdle
never_idle t es b d w = go (replayed t empty es).running refl
  where
    q : Queue
    q = replayed t empty es

    go : (rs : List Run) → q.running ≡ rs → 0 < length q.running
    go (r ∷ rs) e = omega (arith, ap length e)
    go [] e =
        let n = next_run t es d w in
        elim (among_cases n.run (known q.verdicts) q.running (booked_day t es (omega (arith, ap length e, b)) n.run n.useful)) [
          | inl k ↦ clash k n.unknown
          | inr k ↦ among-some n.run q.running k
        ]
