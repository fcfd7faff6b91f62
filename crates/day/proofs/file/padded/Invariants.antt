use Rattle.std.proofs.Common.{◌≡◌, ◌-◌, ◌++◌, take, replicate}
use Rattle.change.specs.Change.{most_parts}
use Rattle.day.proofs.file.padded.Given as goal

abbrev pub invariant-loop-i : goal.invariant-loop-i
invariant-loop-i l = l.all ≡ take l.i l.parts ++ replicate (most_parts - l.i) 0
