use Rattle.std.specs.List.{flat_map}
use Rattle.change.specs.Records.{changes_in}
use Rattle.run.proofs.Writing.{Sofar}
use Rattle.day.specs.Text.{change_text}
use Rattle.day.proofs.line.ChangesDisplay.fmt.Given as goal

abbrev pub invariant-loop-row : goal.invariant-loop-row
invariant-loop-row g l =
    Sofar g.W.Write.write_str_gives l.initial.f (flat_map change_text (changes_in l.self.0.count l.self.0.numbers.now))
    (flat_map change_text (changes_in l.row-iterator.count l.row-iterator.numbers.now)) l.f
