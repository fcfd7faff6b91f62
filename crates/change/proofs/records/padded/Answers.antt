use Rattle.std.proofs.Common.{sym}
use Rattle.change.proofs.Rows.{fixed_over}
use Rattle.change.proofs.records.padded.Goals as goal

pub returns : goal.returns
returns g c = rw (c.copy_from_slice.ensures.after, c.min-n.ensures) (sym (fixed_over g.row.N c.args.numbers.now))
