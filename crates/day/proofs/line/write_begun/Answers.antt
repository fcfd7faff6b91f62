use Rattle.std.proofs.Common.{[], take, sym, refl, ap, ◌∙◌, arith}
use Rattle.std.proofs.lemmas.List.{take_all}
use Rattle.change.specs.Change.{line}
use Rattle.change.specs.Records.{change_in, change_width, changes_in}
use Rattle.day.proofs.Texts.{begun_yes, begun_no, begun_full, left_none, left_more, left-same, left-all}
use Rattle.day.proofs.Writing.{rows_as}
use Rattle.day.proofs.line.write_begun.Goals as goal
use Rattle.day.proofs.line.write_begun.Goals.{else-left-gt0-via-then-left-gt0+else-touches, else-left-gt0-via-else-left-gt0}

pub loop-row-init : goal.loop-row-init
loop-row-init g c = left_none g.W.Write.write_str_gives _ _ _ (ap (λ s. take c.args.most (line c.args.part (changes_in s.count s.numbers.now))) c.into_iter-row-iterator.ensures.into_iter_gives)

pub loop-row-preserved-then-touches : goal.loop-row-preserved-then-touches
loop-row-preserved-then-touches g c =
    left_more g.W.Write.write_str_gives _ _ c.loop-row.led c.number_at.result _ _ _ _ c.loop-row.invariant
    (begun_yes c.args.part _ _ _ _ _ c.in-Some.ensures.steps c.loop-row.left c.number_at.result c.if-left-gt0.true c.number_at.ensures (sym c.if-touches.ensures))
    (λ plain. c.in_ok-write_number.ensures plain refl)

pub loop-row-preserved : goal.loop-row-preserved
loop-row-preserved g c =
    left-same g.W.Write.write_str_gives _ _ c.loop-row.led _ _ _ c.loop-row.invariant
    (elim c.else-left-gt0.branch [
      | else-left-gt0-via-then-left-gt0+else-touches w ↦ begun_no c.args.part _ _ _ _ _ c.in-Some.ensures.steps c.loop-row.left (sym w.if-touches.ensures)
      | else-left-gt0-via-else-left-gt0 w ↦ begun_full c.loop-row.left _ _ w.if-left-gt0.false
    ])

pub returns : goal.returns
returns g c =
    left-all g.W.Write.write_str_gives _ _ c.loop-row.led _ c.loop-row.f c.loop-row.invariant
    (ap (λ cs. take c.loop-row.left (line c.args.part cs)) (rows_as change_in change_width _ _ _ c.in-None.ensures.steps.0) ∙ take_all c.loop-row.left [] (omega arith))
