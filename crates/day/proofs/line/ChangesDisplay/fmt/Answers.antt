use Rattle.std.proofs.Common.{◌++◌, codes, decimal, sym, refl, ap}
use Rattle.change.specs.Records.{change_in, change_width}
use Rattle.day.specs.Text.{change_text}
use Rattle.day.proofs.Writing.{sofar_row}
use Rattle.day.proofs.line.ChangesDisplay.fmt.Goals as goal

pub loop-row-preserved : goal.loop-row-preserved
loop-row-preserved g c =
    sofar_row change_in change_width g.W.Write.write_str_gives change_text _ _ _ _ _ _ _ _ _ _ c.loop-row.invariant c.in-Some.ensures.steps
    (ap (λ n. codes " " ++ decimal n) (sym c.number_at-number.ensures)) (λ p. c.in_ok-write.ensures.writes p refl)
