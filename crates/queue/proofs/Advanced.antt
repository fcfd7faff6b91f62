-- Laws of the later stages: the numbers after the pass say the decided state, and planning writes the state that the step gives.
use Rattle.std.proofs.Common.{◌≡◌, ℕ, ◌<◌, ◌≤◌, List, get_or, drop, sym, refl, ap, ◌∙◌, subst}
use Rattle.change.specs.Records.{Tallies}
use Rattle.run.specs.Layout.{most_benches, most_depth, number_limit, benches_at, depth_at, requested_at, queue_length}
use Rattle.run.specs.State.{Config, Queue}
use Rattle.run.specs.Numbers.{whole, config_in, landed_in, decode, Settled}
use Rattle.decide.specs.Passing.{passed_sections, passed_state}
use Rattle.plan.specs.Numbers.{Ready}
use Rattle.plan.specs.Plan.{planned}
use Rattle.queue.specs.Queue.{Event, submit, withdraw, report, recorded, decided, step}
use Rattle.queue.specs.Entry.{stepped_to}
use Rattle.queue.specs.Stages.{Says}

-- the numbers that the pass leaves say the state in which what could be decided is decided
pub says_passed : (xs ys : List ℕ) → Settled ys → decode ys ≡ passed_state xs → ys ≡ whole (passed_sections xs) → drop queue_length ys ≡ drop queue_length xs → Says xs (decided (decode xs)) ys
unfolding decided decode
says_passed xs ys settled state is behind = record { settled = settled; state = state; config = ap config_in is; behind = behind }

-- an event that is recorded lands nothing, and requests nothing
recorded-landed : (q : Queue) (e : Event) → (recorded q e).landed ≡ q.landed
unfolding recorded
recorded-landed q (submit c) = refl
recorded-landed q (withdraw n) = refl
recorded-landed q (report i g) = refl

recorded-requested : (q : Queue) (e : Event) → (recorded q e).requested ≡ q.requested
unfolding recorded
recorded-requested q (submit c) = refl
recorded-requested q (withdraw n) = refl
recorded-requested q (report i g) = refl

-- so numbers in which it was recorded are ready to be decided and planned
pub ready_recorded : (xs ys tally : List ℕ) (e : Event) → Says xs (recorded (decode xs) e) ys → Tallies tally (landed_in xs) → get_or xs benches_at 0 ≤ most_benches → get_or xs depth_at 0 ≤ most_depth → Ready ys tally
unfolding decode
ready_recorded xs ys tally e said tallied benches depth = record {
  settled = said.settled;
  benches = subst (λ (t : Config). t.benches ≤ most_benches) (sym said.config) benches;
  depth = subst (λ (t : Config). t.depth ≤ most_depth) (sym said.config) depth;
  tally = subst (Tallies tally) (sym (ap (λ (q : Queue). q.landed) said.state ∙ recorded-landed (decode xs) e)) tallied;
}

-- and what comes of them is the step
pub stepped-recorded : (xs ys : List ℕ) (e : Event) → Says xs (recorded (decode xs) e) ys →
    stepped_to (config_in ys) (planned (config_in ys) (decided (decode ys))) (drop queue_length ys) ≡ stepped_to (config_in xs) (step (config_in xs) (decode xs) e) (drop queue_length xs)
unfolding step
stepped-recorded xs ys e said = λ i. stepped_to (said.config i) (planned (said.config i) (decided (said.state i))) (said.behind i)

pub requested-recorded : (xs ys : List ℕ) (e : Event) → Says xs (recorded (decode xs) e) ys → get_or xs requested_at 0 < number_limit → get_or ys requested_at 0 < number_limit
unfolding decode
requested-recorded xs ys e said few = subst (λ (n : ℕ). n < number_limit) (sym (ap (λ (q : Queue). q.requested) said.state ∙ recorded-requested (decode xs) e)) few
