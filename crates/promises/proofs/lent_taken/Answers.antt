use Rattle.promises.proofs.lent_taken.Goals as goal
use Rattle.promises.proofs.Reading.{lent_taken}

pub returns : goal.returns
returns c = lent_taken
