use Rattle.promises.proofs.serial_equivalence.Goals as goal
use Rattle.promises.proofs.Main.{serial_equivalence}

pub returns : goal.returns
returns c = serial_equivalence
