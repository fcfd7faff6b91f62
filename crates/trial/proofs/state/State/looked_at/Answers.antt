use Rattle.std.proofs.Common.{length, drop, ap, arith}
use Rattle.change.specs.Records.{change_in, change_width}
use Rattle.change.proofs.Rows.{length-rows}
use Rattle.run.specs.Layout.{waiting_at}
use Rattle.trial.proofs.state.State.looked_at.Goals as goal

pub returns-clause-few : goal.returns-clause-few
returns-clause-few c = omega (arith, ap length c.at.ensures, length-rows change_in change_width c.min-n.result (drop waiting_at c.args.self.queue.now))
