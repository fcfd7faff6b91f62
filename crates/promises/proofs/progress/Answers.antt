use Rattle.promises.proofs.progress.Goals as goal
use Rattle.promises.proofs.Falling.{progress}

pub returns : goal.returns
returns c = progress
