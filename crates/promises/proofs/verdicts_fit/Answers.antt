use Rattle.promises.proofs.verdicts_fit.Goals as goal
use Rattle.promises.proofs.Fit.{verdicts_fit}

pub returns : goal.returns
returns c = verdicts_fit
