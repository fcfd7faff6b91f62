use Rattle.std.proofs.Common.{drop}
use Rattle.run.specs.Text.{changes_text}
use Rattle.run.proofs.Writing.{Sofar}
use Rattle.run.proofs.text.write_changes.Given as goal

abbrev pub invariant-loop-number : goal.invariant-loop-number
invariant-loop-number g l = Sofar g.W.Write.write_str_gives l.initial.f (changes_text l.initial.led l.numbers) (changes_text l.led (drop l.number-index l.numbers)) l.f
