use Rattle.std.proofs.Common.{drop}
use Rattle.audits.specs.Text.{parts_text}
use Rattle.run.proofs.Writing.{Sofar}
use Rattle.audits.proofs.text.PartsDisplay.fmt.Given as goal

abbrev pub invariant-loop-part : goal.invariant-loop-part
invariant-loop-part g l = Sofar g.W.Write.write_str_gives l.initial.f (parts_text l.self.0.now) (parts_text (drop l.part-index l.self.0.now)) l.f
