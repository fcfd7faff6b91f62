use Rattle.std.proofs.Common.{◌≡◌, length, take, arith}
use Rattle.std.proofs.lemmas.List.{length-take-le}
use Rattle.change.proofs.ChangeLaws.{row_written}
use Rattle.change.proofs.records.ChangeRecord.write.Goals as goal

pub returns : goal.returns
returns c =
    let s = c.args.self in
    let e : length (take s.count s.parts) ≡ s.count = length-take-le _ _ (omega arith) in
    let w = row_written c.args.over.now c.copy_from_slice.new.self s.number s.count (omega arith) in
    cc
