use Rattle.promises.proofs.every_state_tested.Goals as goal
use Rattle.promises.proofs.Tested.{every_state_tested}

pub returns : goal.returns
returns c = every_state_tested
