use Rattle.std.proofs.Common.{refl, ap, arith}
use Rattle.std.proofs.lemmas.List.{drop_more, drop_all}
use Rattle.run.proofs.Writing.{sofar_more, sofar_all}
use Rattle.audits.specs.Text.{parts_text}
use Rattle.audits.proofs.Writing.{parts_more}
use Rattle.audits.proofs.text.PartsDisplay.fmt.Goals as goal

pub loop-part-preserved : goal.loop-part-preserved
loop-part-preserved g c =
    sofar_more g.W.Write.write_str_gives _ _ _ _ _ _ _ c.loop-part.invariant (parts_more _ _ _ (drop_more c.args.self.now.0.now c.loop-part.part-index 0 (omega arith)))
    (λ p. c.in_ok-write.ensures.writes p refl)

pub returns-clause-writes : goal.returns-clause-writes
returns-clause-writes g c = λ p ok. sofar_all g.W.Write.write_str_gives _ _ _ _ c.loop-part.invariant (ap parts_text (drop_all c.loop-part.part-index c.args.self.now.0.now (omega arith))) p
