use Rattle.std.proofs.Common.{◌≡◌, ◌*◌, ◌++◌, length, drop}
use Rattle.std.specs.List.{flat_map}
use Rattle.change.specs.Records.{change_row, changes_in}
use Rattle.change.proofs.records.tidy_changes.Given as goal

abbrev pub invariant-loop-i : goal.invariant-loop-i
invariant-loop-i l = (l.section ≡ flat_map change_row (changes_in l.i l.initial.section) ++ drop (10 * l.i) l.initial.section) × (length l.section ≡ length l.initial.section)
