use Rattle.promises.proofs.decided_when_known.Goals as goal
use Rattle.promises.proofs.Idle.{decided_when_known}

pub returns : goal.returns
returns c = decided_when_known
