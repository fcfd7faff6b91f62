use Rattle.promises.proofs.config_independent.Goals as goal
use Rattle.promises.proofs.Final.{config_independent}

pub returns : goal.returns
returns c = config_independent
