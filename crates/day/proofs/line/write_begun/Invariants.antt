use Rattle.std.proofs.Common.{take}
use Rattle.change.specs.Change.{line}
use Rattle.change.specs.Records.{changes_in}
use Rattle.day.proofs.Texts.{Left}
use Rattle.day.proofs.line.write_begun.Given as goal

abbrev pub invariant-loop-row : goal.invariant-loop-row
invariant-loop-row g l =
    Left g.W.Write.write_str_gives l.initial.f (take l.most (line l.part (changes_in l.landed.count l.landed.numbers.now)))
    l.led (take l.left (line l.part (changes_in l.row-iterator.count l.row-iterator.numbers.now))) l.f
