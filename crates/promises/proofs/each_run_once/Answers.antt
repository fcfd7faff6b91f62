use Rattle.promises.proofs.each_run_once.Goals as goal
use Rattle.promises.proofs.Count.{each_run_once}

pub returns : goal.returns
returns c = each_run_once
