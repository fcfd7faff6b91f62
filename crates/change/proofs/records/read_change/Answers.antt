use Rattle.std.proofs.Common.{min, get_or, drop, arith}
use Rattle.std.proofs.lemmas.List.{take-take}
use Rattle.change.proofs.records.read_change.Goals as goal

pub returns : goal.returns
returns c =
    let t = take-take (min (get_or c.args.row.now 1 0) 8) 8 (drop 2 c.args.row.now) (omega arith) in
    simp (c.min-count.ensures, c.copy_from_slice.ensures.after, t)
