use Rattle.std.proofs.Common.{◌≡◌, length, take}
use Rattle.change.proofs.Chunks.{Left}
use Rattle.change.proofs.Rows.{rest}
use Rattle.run.specs.Records.{run_width}
use Rattle.plan.specs.Rows.{has_row, run_rows}
use Rattle.plan.proofs.kept.Kept.has.Given as goal

abbrev pub invariant-loop-record : goal.invariant-loop-record
invariant-loop-record g l =
    Left l.width l.self.count 0 l.self.numbers l.record-iterator (length l.yielded)
    × (has_row l.row (rest (take run_width) l.width l.self.numbers 0 l.self.count (length l.yielded)) ≡ has_row l.row (run_rows l.width l.self.count l.self.numbers))
