-- The days on which the six wrong queues break a promise, computed. Assumes nothing.
use Rattle.std.proofs.Common.{◌≡◌, true, List, [], ◌∷◌, ◌++◌, refl, ap, ◌∙◌}
use Rattle.decide.specs.declared.decision.Decision.{Decision}
use Rattle.decide.specs.declared.decision.Decision.TheVariants.{Wait, Land, Reject}
use Rattle.change.specs.Change.{Change}
use Rattle.run.specs.Run.{Verdict}
use Rattle.run.specs.State.{Config, Queue}
use Rattle.serial.specs.Serial.{passes_on, passes, serial_landed}
use Rattle.decide.specs.Decide.{decision, by_decision, pass}
use Rattle.plan.specs.Plan.{useful, still_running, still_known, request, useful_in, with_runs, planned}
use Rattle.queue.specs.Queue.{accepts, recorded, with_passed, decided, step}
use Rattle.promises.specs.Wrong.{own, pass_under, decided_under, planned_under, step_under, OwnRules, played_from, WrongQueues}
use Rattle.promises.proofs.Basics.{kept-all}
use Rattle.promises.proofs.Runs.{all_from}

pass-own : (vs : List Verdict) (held landed rejected cs : List Change) → pass_under own vs held landed rejected cs ≡ pass vs held landed rejected cs
unfolding pass_under pass
pass-own vs held landed rejected [] = refl
pass-own vs held landed rejected (c ∷ cs) = go (decision vs held landed c) (pass-own vs (held ++ c ∷ []) landed rejected cs) (pass-own vs held (landed ++ c ∷ []) rejected cs) (pass-own vs held landed (rejected ++ c ∷ []) cs)
  where
    go : (d : Decision) → pass_under own vs (held ++ c ∷ []) landed rejected cs ≡ pass vs (held ++ c ∷ []) landed rejected cs →
        pass_under own vs held (landed ++ c ∷ []) rejected cs ≡ pass vs held (landed ++ c ∷ []) rejected cs →
        pass_under own vs held landed (rejected ++ c ∷ []) cs ≡ pass vs held landed (rejected ++ c ∷ []) cs →
        by_decision d (pass_under own vs (held ++ c ∷ []) landed rejected cs) (pass_under own vs held (landed ++ c ∷ []) rejected cs) (pass_under own vs held landed (rejected ++ c ∷ []) cs)
        ≡ by_decision d (pass vs (held ++ c ∷ []) landed rejected cs) (pass vs held (landed ++ c ∷ []) rejected cs) (pass vs held landed (rejected ++ c ∷ []) cs)
    go Wait x y z = x
    go Land x y z = y
    go Reject x y z = z

decided-own : (q : Queue) → decided_under own q ≡ decided q
unfolding decided_under decided
decided-own q = ap (with_passed q) (pass-own q.verdicts [] q.landed q.rejected q.waiting)

planned-own : (t : Config) (q : Queue) → planned_under own t q ≡ planned t q
unfolding planned_under planned
planned-own t q =
    let us = useful_in t q in
    let vs = still_known us q.verdicts in
    let still = still_running us q.running in
    ap (with_runs q vs still) (kept-all (λ r. true) (request t.benches vs still us) (all_from (λ r. true ≡ true) (request t.benches vs still us) (λ r e. refl)))

own_rules : OwnRules
unfolding step_under step
own_rules t q e = planned-own t (decided_under own (recorded q e)) ∙ ap (planned t) (decided-own (recorded q e))

pub wrong_queues : WrongQueues
unfolding decision pass_under useful request accepts recorded decided_under planned_under step_under played_from serial_landed passes passes_on
wrong_queues = (own_rules, (refl, refl), (refl, refl), (refl, refl), ((refl, tt), refl, refl), ((refl, (refl, tt)), refl, refl), (refl, refl, refl))
