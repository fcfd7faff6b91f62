use Rattle.std.proofs.Common.{◌≡◌, ◌≤◌, length}
use Rattle.change.specs.Change.{most_parts}
use Rattle.audits.proofs.reading.with_parts.Given as goal

abbrev pub invariant-loop-word : goal.invariant-loop-word
invariant-loop-word l = (l.count ≤ most_parts) × (length l.parts ≡ most_parts)
