use Rattle.promises.proofs.only_useful_runs.Goals as goal
use Rattle.promises.proofs.Held.{only_useful_runs}

pub returns : goal.returns
returns c = only_useful_runs
