use Rattle.std.proofs.Common.{set, ◌∙◌, arith}
use Rattle.std.proofs.lemmas.List.{get_or-take, length-take-le}
use Rattle.day.proofs.Padding.{pad_next, pad_all}
use Rattle.day.proofs.file.padded.Goals as goal

pub loop-i-preserved : goal.loop-i-preserved
loop-i-preserved c =
    let i = c.loop-i.i in
    let parts = c.args.parts.now in
    let long = length-take-le c.min.result parts (omega (arith, c.min.ensures)) in
    let part = c.from.ensures ∙ get_or-take c.min.result parts i 0 (omega (arith, c.loop-i-test.true, long)) in
    (λ j. set (c.loop-i.invariant j) i (part j)) ∙ pad_next 8 i parts (omega (arith, c.loop-i-test.true, long, c.min.ensures)) (omega (arith, c.loop-i-test.true, long, c.min.ensures))

pub returns : goal.returns
returns c =
    let parts = c.args.parts.now in
    let long = length-take-le c.min.result parts (omega (arith, c.min.ensures)) in
    c.loop-i.invariant ∙ pad_all 8 c.loop-i.i parts (omega (arith, c.loop-i-test.false, c.loop-i.auto.i-end, long, c.min.ensures))
