use Rattle.std.proofs.Common.{refl, arith}
use Rattle.std.proofs.lemmas.List.{drop_more}
use Rattle.run.proofs.Writing.{sofar_more, text_more}
use Rattle.run.proofs.text.write_changes.Goals as goal

pub loop-number-preserved : goal.loop-number-preserved
loop-number-preserved g c =
    sofar_more g.W.Write.write_str_gives _ _ _ _ _ _ _ c.loop-number.invariant (text_more c.loop-number.led _ _ _ (drop_more c.args.numbers.now c.loop-number.number-index 0 (omega arith)))
    (λ p. c.in_ok-write_number.ensures p refl)
