-- Each event that is taken and submits nothing makes the measure fall. Assumes nothing.
use Rattle.std.proofs.Common.{◌≡◌, ℕ, suc, ◌+◌, ◌-◌, ◌*◌, ◌<◌, ◌≤◌, Bool, true, false, cond, ◌||◌, eqb, ◌⊎◌, List, [], ◌∷◌, ◌++◌, length, get_or, sym, refl, ap, ◌∙◌, subst, ap₂, inl, inr, true≢false, arith, length-append}
use Rattle.std.proofs.lemmas.Bool.{ltb-true, lt-ltb}
use Rattle.std.specs.List.{AllByRecursion}
use Rattle.std.proofs.lemmas.List.{length_push, length-map}
use Rattle.change.specs.Change.{most_parts, Change, numbered, dropped, without}
use Rattle.run.specs.Run.{Run, Verdict}
use Rattle.run.specs.State.{Config, Queue, empty}
use Rattle.plan.specs.Plan.{useful, among, still_known, useful_in, planned}
use Rattle.queue.specs.Queue.{Event, submit, withdraw, report, accepts, no_run, recorded, decided, step, after, replayed}
use Rattle.promises.specs.Day.{held, measure, NotSubmit, AllTaken}
use Rattle.promises.specs.Promises.{Progress}
use Rattle.promises.proofs.Basics.{kept-all, length-place}
use Rattle.promises.proofs.Pass.{pass_all}
use Rattle.promises.proofs.Days.{after_taken}
use Rattle.promises.proofs.Runs.{among-left, all_from, pigeons}
use Rattle.promises.proofs.Useful.{useful-few}
use Rattle.promises.proofs.Held.{known, moved, Orderly, orderly-step, orderly}
use Rattle.promises.proofs.Idle.{never_idle}
use Rattle.promises.proofs.Fit.{all-verdicts}

-- after the pass fewer wait, or nothing has changed
abbrev Fewer : List Change → List Change → List Change → List Change → List Change → Type 0
Fewer L₀ W₀ L W B = (length W < length W₀) ⊎ ((L ≡ L₀) × (W ≡ W₀))

-- a decision leaves fewer that wait
fewer-out : (L₀ W₀ L W₁ : List Change) (c : Change) (W₂ B : List Change) → Fewer L₀ W₀ L (W₁ ++ c ∷ W₂) B → length (W₁ ++ W₂) < length W₀
fewer-out L₀ W₀ L W₁ c W₂ B (inl l) = omega (arith, l, length-place W₁ c W₂)
fewer-out L₀ W₀ L W₁ c W₂ B (inr k) = omega (arith, ap length k.1, length-place W₁ c W₂)

fewer-decided : (q : Queue) → Fewer q.landed q.waiting (decided q).landed (decided q).waiting (decided q).rejected
unfolding decided
fewer-decided q = pass_all q.verdicts (Fewer q.landed q.waiting)
    (λ L W₁ c W₂ B e h. inl (fewer-out q.landed q.waiting L W₁ c W₂ B h))
    (λ L W₁ c W₂ B e h. inl (fewer-out q.landed q.waiting L W₁ c W₂ B h))
    q.landed q.waiting q.rejected (inr (refl, refl))

fewer-step : (t : Config) (q : Queue) (e : Event) → Fewer (recorded q e).landed (recorded q e).waiting (step t q e).landed (step t q e).waiting (step t q e).rejected
unfolding step planned
fewer-step t q e = fewer-decided (recorded q e)

-- fewer wait: what more is useful counts less than one change
falls_waiting : (t : Config) (q p : Queue) → Orderly t p → length p.waiting < length q.waiting → measure t p < measure t q
falls_waiting t q p o l =
    let d = length q.waiting - suc (length p.waiting) in
    let x : length q.waiting ≡ length p.waiting + 1 + d = omega (arith, l) in
    omega (arith, ap (λ (y : ℕ). y * suc (most_parts * t.depth)) x, useful-few t.depth p.waiting p.landed o.neat.waiting)

-- nothing was decided: the verdict reported is held, since its run is useful
verdicts-step : (t : Config) (q : Queue) (e : Event) → (step t q e).verdicts ≡ still_known (useful_in t (step t q e)) (recorded q e).verdicts
unfolding step planned decided
verdicts-step t q e = refl

-- so one more of the useful runs is known
falls_report : (t : Config) (q : Queue) (i : ℕ) (g : Bool) → accepts t q (report i g) ≡ true → Orderly t q → useful_in t (step t q (report i g)) ≡ useful_in t q →
    length (useful_in t (step t q (report i g))) - length (step t q (report i g)).verdicts < length (useful_in t q) - length q.verdicts
unfolding recorded accepts
falls_report t q i g a o same = omega (
  arith,
  ap length same,
  ap length held_still,
  length_push q.verdicts said,
  length-append (known q.verdicts) q.running,
  length-map q.verdicts (λ (v : Verdict). v.run),
  ltb-true i (length q.running) a,
  pigeons (held q) (useful_in t q) o.different o.useful,
)
  where
    said : Verdict
    said = record { run = get_or q.running i no_run; good = g }

    all-useful : AllByRecursion (λ r. among r (useful_in t q) ≡ true) (known (q.verdicts ++ said ∷ []))
    all-useful = all_from (λ r. among r (useful_in t q) ≡ true) (known (q.verdicts ++ said ∷ []))
        (λ r e. o.useful r (sym ((moved t q (report i g) a).same r) ∙ among-left r (known (q.verdicts ++ said ∷ [])) (without i q.running) e))

    held_still : (step t q (report i g)).verdicts ≡ q.verdicts ++ said ∷ []
    held_still = verdicts-step t q (report i g) ∙ ap (λ (us : List Run). still_known us (q.verdicts ++ said ∷ [])) same
        ∙ kept-all (λ v. among v.run (useful_in t q)) (q.verdicts ++ said ∷ []) (all-verdicts (λ r. among r (useful_in t q) ≡ true) (q.verdicts ++ said ∷ []) all-useful)

-- a withdrawal that is taken leaves fewer that wait
length-dropped_one : (n : ℕ) (cs : List Change) → numbered n cs ≡ true → length (dropped n cs) < length cs
length-dropped_one n [] e = absurd (true≢false (sym e))
length-dropped_one n (c ∷ cs) e = go (length-dropped_one n cs) (eqb c.number n) e
  where
    go : (numbered n cs ≡ true → length (dropped n cs) < length cs) → (b : Bool) → (b || numbered n cs) ≡ true → length (cond b cs (c ∷ dropped n cs)) < suc (length cs)
    go ih true h = omega arith
    go ih false h = omega (arith, ih h)

-- in each case the measure falls
falls : (t : Config) (q : Queue) (e : Event) → NotSubmit e → accepts t q e ≡ true → Orderly t q → measure t (step t q e) < measure t q
unfolding recorded accepts
falls t q (submit c) x a o = absurd x
falls t q (withdraw n) x a o = falls_waiting t q (step t q (withdraw n)) (orderly-step t q (withdraw n) a o) (go (fewer-step t q (withdraw n)))
  where
    go : Fewer q.landed (dropped n q.waiting) (step t q (withdraw n)).landed (step t q (withdraw n)).waiting (step t q (withdraw n)).rejected →
        length (step t q (withdraw n)).waiting < length q.waiting
    go (inl l) = omega (arith, l, length-dropped_one n q.waiting a)
    go (inr k) = omega (arith, ap length k.1, length-dropped_one n q.waiting a)
falls t q (report i g) x a o = go (fewer-step t q (report i g))
  where
    p : Queue
    p = step t q (report i g)

    go : Fewer q.landed q.waiting p.landed p.waiting p.rejected → measure t p < measure t q
    go (inl l) = falls_waiting t q p (orderly-step t q (report i g) a o) l
    go (inr k) = omega (arith, ap (λ (ws : List Change). length ws * suc (most_parts * t.depth)) k.1, falls_report t q i g a o (ap₂ (useful t.depth) k.0 k.1))

-- and it falls with each of a list of events that are taken
falls_all : (t : Config) (fs : List Event) (q : Queue) → Orderly t q → AllTaken t q fs → length fs + measure t (replayed t q fs) ≤ measure t q
unfolding replayed
falls_all t [] q o k = omega arith
falls_all t (e ∷ fs) q o k =
    let n = after_taken t q e k.1 in
    omega (
      arith,
      falls_all t fs (after t q e) (subst (Orderly t) (sym n) (orderly-step t q e k.1 o)) k.2,
      ap (measure t) n,
      falls t q e k.0 k.1 o,
    )

-- a measure of 0 says that nobody waits
nobody_waits : (t : Config) (q : Queue) → measure t q ≤ 0 → q.waiting ≡ []
nobody_waits t q l = go q.waiting refl
  where
    go : (ws : List Change) → q.waiting ≡ ws → q.waiting ≡ []
    go [] e = e
    go (w ∷ ws) e = absurd (omega (arith, l, ap (λ (vs : List Change). length vs * suc (most_parts * t.depth)) e))

pub progress : Progress
unfolding accepts
progress t es = (
  λ e x a. omega (arith, ap (measure t) (after_taken t q e a), falls t q e x a (orderly t es)),
  λ fs k. (omega (arith, falls_all t fs q (orderly t es) k), λ l. nobody_waits t (replayed t q fs) (omega (arith, falls_all t fs q (orderly t es) k, l))),
  λ b d w g. lt-ltb 0 (length q.running) (never_idle t es b d w),
)
  where
    q : Queue
    q = replayed t empty es
