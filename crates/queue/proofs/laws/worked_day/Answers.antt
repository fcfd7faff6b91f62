use Rattle.std.proofs.Common.{refl}
use Rattle.decide.specs.Decide.{decision, pass}
use Rattle.plan.specs.Plan.{useful, request, planned}
use Rattle.queue.specs.Queue.{accepts, recorded, decided, step, after, replayed}
use Rattle.queue.proofs.laws.worked_day.Goals as goal

pub returns : goal.returns
unfolding decision pass useful request accepts recorded decided planned step after replayed
returns c = refl
