use Rattle.promises.proofs.waste_bounded.Goals as goal
use Rattle.promises.proofs.Count.{waste_bounded}

pub returns : goal.returns
returns c = waste_bounded
