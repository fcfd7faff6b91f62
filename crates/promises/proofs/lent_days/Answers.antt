use Rattle.promises.proofs.lent_days.Goals as goal
use Rattle.promises.proofs.Reading.{lent_days}

pub returns : goal.returns
returns c = lent_days
