use Rattle.promises.proofs.lent_every_state_tested.Goals as goal
use Rattle.promises.proofs.Reading.{lent_every_state_tested}

pub returns : goal.returns
returns c = lent_every_state_tested
