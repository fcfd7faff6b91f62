use Rattle.promises.proofs.lent_serial_equivalence.Goals as goal
use Rattle.promises.proofs.Reading.{lent_serial_equivalence}

pub returns : goal.returns
returns c = lent_serial_equivalence
