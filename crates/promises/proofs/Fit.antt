-- What a reachable queue holds fits its sections. Assumes nothing.
use Rattle.std.proofs.Common.{◌≡◌, ℕ, suc, ◌+◌, ◌<◌, ◌≤◌, Bool, true, false, cond, ◌&&◌, eqb, ltb, ◌⊎◌, List, [], ◌∷◌, length, sym, ap, ◌∙◌, subst, inl, inr, arith, length-append}
use Rattle.std.proofs.lemmas.Bool.{ltb-true, cases_lt}
use Rattle.std.specs.List.{AllByRecursion}
use Rattle.std.proofs.ByRecursion.{All-weaker}
use Rattle.std.proofs.lemmas.List.{nil_from_length, length_push, length-map}
use Rattle.change.specs.Change.{most_parts, Change, dropped}
use Rattle.run.specs.Run.{Run, Verdict}
use Rattle.run.specs.Records.{Ahead}
use Rattle.run.specs.Layout.{most_landed, most_waiting, most_rejected, most_verdicts, most_benches, most_depth}
use Rattle.run.specs.State.{Config, Queue, empty}
use Rattle.run.specs.Numbers.{Fits}
use Rattle.plan.specs.Plan.{useful, among, useful_in, planned}
use Rattle.queue.specs.Queue.{Event, submit, withdraw, report, fresh, proper, roomy, accepts, recorded, decided, step, replayed}
use Rattle.promises.specs.Day.{held, AheadBy}
use Rattle.promises.specs.Promises.{VerdictsFit}
use Rattle.promises.proofs.Basics.{both_left, both_right, all_both, length-place}
use Rattle.promises.proofs.Pass.{pass_all}
use Rattle.promises.proofs.Days.{day_keeps}
use Rattle.promises.proofs.Runs.{among-left, among_cases, among_one, all_from, different_both, pigeons}
use Rattle.promises.proofs.Useful.{Proper, useful-few, useful_begin}
use Rattle.promises.proofs.Held.{known, Orderly, orderly}
use Rattle.promises.proofs.Idle.{useful_none, next_run}
use Rattle.promises.proofs.Count.{held-few}

-- as many as wait could land, and could be rejected
record Roomy (L W B : List Change) : Type 0 where
  pub waiting : length W ≤ most_waiting
  pub landed : length L + length W ≤ most_landed
  pub rejected : length B + length W ≤ most_rejected

abbrev RoomyIn : Queue → Type 0
RoomyIn q = Roomy q.landed q.waiting q.rejected

-- a decision moves a change and makes none
roomy-decided : (q : Queue) → RoomyIn q → RoomyIn (decided q)
unfolding decided
roomy-decided q k = pass_all q.verdicts Roomy
    (λ L W₁ c W₂ B e h. record {
      waiting = omega (arith, h.waiting, length-place W₁ c W₂);
      landed = omega (arith, h.landed, length-place W₁ c W₂, length_push L c);
      rejected = omega (arith, h.rejected, length-place W₁ c W₂);
    })
    (λ L W₁ c W₂ B e h. record {
      waiting = omega (arith, h.waiting, length-place W₁ c W₂);
      landed = omega (arith, h.landed, length-place W₁ c W₂);
      rejected = omega (arith, h.rejected, length-place W₁ c W₂, length_push B c);
    })
    q.landed q.waiting q.rejected k

length-dropped : (n : ℕ) (cs : List Change) → length (dropped n cs) ≤ length cs
length-dropped n [] = omega arith
length-dropped n (c ∷ cs) = go (length-dropped n cs) (eqb c.number n)
  where
    go : length (dropped n cs) ≤ length cs → (b : Bool) → length (cond b cs (c ∷ dropped n cs)) ≤ suc (length cs)
    go ih true = omega arith
    go ih false = omega arith

accepts-roomy : (t : Config) (q : Queue) (c : Change) → accepts t q (submit c) ≡ true → roomy q ≡ true
unfolding accepts
accepts-roomy t q c a = both_right (proper c) (roomy q) (both_right (fresh q c.number) (proper c && roomy q) a)

-- a submission is taken only if there is room
roomy-recorded : (t : Config) (q : Queue) (e : Event) → accepts t q e ≡ true → RoomyIn q → RoomyIn (recorded q e)
unfolding recorded
roomy-recorded t q (submit c) a k =
    let w = ltb (length q.waiting) most_waiting in
    let l = ltb (length q.landed + length q.waiting) most_landed in
    let b = ltb (length q.rejected + length q.waiting) most_rejected in
    let r = accepts-roomy t q c a in
    record {
      waiting = omega (arith, length_push q.waiting c, ltb-true (length q.waiting) most_waiting (both_left w (l && b) r));
      landed = omega (arith, length_push q.waiting c, ltb-true (length q.landed + length q.waiting) most_landed (both_left l b (both_right w (l && b) r)));
      rejected = omega (arith, length_push q.waiting c, ltb-true (length q.rejected + length q.waiting) most_rejected (both_right l b (both_right w (l && b) r)));
    }
roomy-recorded t q (withdraw n) a k = record {
  waiting = omega (arith, k.waiting, length-dropped n q.waiting);
  landed = omega (arith, k.landed, length-dropped n q.waiting);
  rejected = omega (arith, k.rejected, length-dropped n q.waiting);
}
roomy-recorded t q (report i g) a k = k

roomy-step : (t : Config) (q : Queue) (e : Event) → accepts t q e ≡ true → RoomyIn q → RoomyIn (step t q e)
unfolding step planned
roomy-step t q e a k = roomy-decided (recorded q e) (roomy-recorded t q e a k)

roomy_day : (t : Config) (es : List Event) → RoomyIn (replayed t empty es)
roomy_day t es = day_keeps t RoomyIn (roomy-step t) es empty (record { waiting = omega arith; landed = omega arith; rejected = omega arith })

pub room_day : (t : Config) (es : List Event) → (length (replayed t empty es).landed + length (replayed t empty es).waiting ≤ most_landed) × (length (replayed t empty es).rejected + length (replayed t empty es).waiting ≤ most_rejected)
room_day t es = ((roomy_day t es).landed, (roomy_day t es).rejected)

length-held : (q : Queue) → length (held q) ≡ length q.verdicts + length q.running
length-held q = omega (arith, length-append (known q.verdicts) q.running, length-map q.verdicts (λ (v : Verdict). v.run))

-- with the first change that waits, a useful run of which nothing is known
pub few_verdicts : (t : Config) (es : List Event) → t.depth ≤ most_depth → length (replayed t empty es).verdicts < most_verdicts
few_verdicts t es d = go (cases_lt 0 t.depth) (cases_lt 0 (length q.waiting))
  where
    q : Queue
    q = replayed t empty es

    o : Orderly t q
    o = orderly t es

    go : (0 < t.depth) ⊎ (t.depth ≤ 0) → (0 < length q.waiting) ⊎ (length q.waiting ≤ 0) → length q.verdicts < most_verdicts
    go (inr k) w = omega (arith, k, held-few t q o, length-held q)
    go (inl k) (inr w) = omega (
      arith,
      length-held q,
      pigeons (held q) (useful_in t q) o.different o.useful,
      ap length (ap (useful t.depth q.landed) (nil_from_length q.waiting (omega (arith, w))) ∙ useful_none t.depth q.landed),
    )
    go (inl k) (inl w) =
        let n = next_run t es k w in
        omega (
          arith,
          d,
          length-map q.verdicts (λ (v : Verdict). v.run),
          useful-few t.depth q.waiting q.landed o.neat.waiting,
          pigeons (n.run ∷ known q.verdicts) (useful_in t q) (n.unknown, (different_both (known q.verdicts) q.running o.different).0)
              (λ r e. elim (among_cases r (n.run ∷ []) (known q.verdicts) e) [
                | inl j ↦ subst (λ (x : Run). among x (useful_in t q) ≡ true) (sym (among_one r n.run j)) n.useful
                | inr j ↦ o.useful r (among-left r (known q.verdicts) q.running j)
              ]),
        )

pub all-verdicts : (P : Run → Type 0) (vs : List Verdict) → AllByRecursion P (known vs) → AllByRecursion (λ v. P v.run) vs
all-verdicts P [] a = tt
all-verdicts P (v ∷ vs) a = (a.0, all-verdicts P vs a.1)

-- every run held is useful, and begins as useful runs do
begins_day : (t : Config) (es : List Event) → AllByRecursion (AheadBy (replayed t empty es).landed t.depth) (held (replayed t empty es))
begins_day t es =
    let q = replayed t empty es in
    all_from (AheadBy q.landed t.depth) (held q) (λ r e. useful_begin t.depth q.landed q.waiting r ((orderly t es).useful r e))

-- so a reachable queue fits its sections
pub fits_day : (t : Config) (es : List Event) → t.depth ≤ most_depth → t.benches ≤ most_benches → Fits (replayed t empty es)
fits_day t es d b = record {
  landed = omega (arith, m.landed);
  waiting = m.waiting;
  rejected = omega (arith, m.rejected);
  verdicts = omega (arith, few_verdicts t es d);
  running = omega (arith, o.few, b);
  small_landed = All-weaker Proper (λ c. length c.parts ≤ most_parts) (λ c p. p.few) q.landed o.neat.landed;
  small_waiting = All-weaker Proper (λ c. length c.parts ≤ most_parts) (λ c p. p.few) q.waiting o.neat.waiting;
  small_rejected = All-weaker Proper (λ c. length c.parts ≤ most_parts) (λ c p. p.few) q.rejected o.neat.rejected;
  verdicts_ahead = all-verdicts (Ahead q.landed) q.verdicts ahead.0;
  running_ahead = ahead.1;
}
  where
    q : Queue
    q = replayed t empty es

    o : Orderly t q
    o = orderly t es

    m : RoomyIn q
    m = roomy_day t es

    ahead : AllByRecursion (Ahead q.landed) (known q.verdicts) × AllByRecursion (Ahead q.landed) q.running
    ahead = all_both (Ahead q.landed) (known q.verdicts) q.running
        (All-weaker (AheadBy q.landed t.depth) (Ahead q.landed) (λ r k. record { following = k.following; is = k.is; few = omega (arith, k.few, d) }) (held q) (begins_day t es))

pub verdicts_fit : VerdictsFit
verdicts_fit t es = (
  omega (arith, length-held q, held-few t q (orderly t es)),
  begins_day t es,
  omega (arith, m.landed),
  m.waiting,
  omega (arith, m.rejected),
  λ d. (few_verdicts t es d, fits_day t es d),
)
  where
    q : Queue
    q = replayed t empty es

    m : RoomyIn q
    m = roomy_day t es
