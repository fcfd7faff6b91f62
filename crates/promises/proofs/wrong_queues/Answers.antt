use Rattle.promises.proofs.wrong_queues.Goals as goal
use Rattle.promises.proofs.Excluded.{wrong_queues}

pub returns : goal.returns
returns c = wrong_queues
