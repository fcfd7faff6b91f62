use Rattle.std.proofs.Common.{min, get_or, drop, arith}
use Rattle.std.proofs.lemmas.List.{take-take}
use Rattle.run.proofs.records.read_run.Goals as goal

pub returns-clause-value : goal.returns-clause-value
returns-clause-value c =
    let t = take-take (min (get_or c.args.row.now 2 0) 16) 16 (drop 3 c.args.row.now) (omega arith) in
    λ landed. simp (c.min-follows.ensures, c.copy_from_slice.ensures.after, t)
