use Rattle.promises.proofs.decisions_final.Goals as goal
use Rattle.promises.proofs.Final.{decisions_final}

pub returns : goal.returns
returns c = decisions_final
