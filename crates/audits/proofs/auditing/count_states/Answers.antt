use Rattle.std.proofs.Common.{[], rules}
use Rattle.audits.proofs.States.{states_count}
use Rattle.audits.proofs.auditing.count_states.Goals as goal

pub returns : goal.returns
returns c = rw (states_count [] c.args.main.now) (search rules)
