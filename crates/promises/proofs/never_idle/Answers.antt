use Rattle.promises.proofs.never_idle.Goals as goal
use Rattle.promises.proofs.Idle.{never_idle}

pub returns : goal.returns
returns c = never_idle
