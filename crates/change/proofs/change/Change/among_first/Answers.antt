use Rattle.std.proofs.Common.{arith}
use Rattle.std.proofs.lemmas.Bool.{eq-eqb, ne_eqb}
use Rattle.change.proofs.ChangeLaws.{has_more, has_none}
use Rattle.change.proofs.change.Change.among_first.Goals as goal

pub returns-then-self-i : goal.returns-then-self-i
returns-then-self-i c =
    let e = has_more c.args.self.parts c.args.n c.loop-i.i c.args.part c.loop-i-test.true (omega arith) in
    let t = eq-eqb _ _ c.if-self-i.true in
    let f = rw t at e in
    cc

pub returns : goal.returns
returns c = let e = has_none c.args.self.parts c.args.n c.loop-i.i c.args.part c.loop-i-test.false in cc

pub loop-i-preserved : goal.loop-i-preserved
loop-i-preserved c =
    let e = has_more c.args.self.parts c.args.n c.loop-i.i c.args.part c.loop-i-test.true (omega arith) in
    let t = ne_eqb _ _ c.if-self-i.false in
    let f = rw t at e in
    cc
