use Rattle.std.proofs.Common.{true, false, sym, ◌∙◌}
use Rattle.audits.proofs.States.{audited_more}
use Rattle.audits.proofs.auditing.audit.Goals as goal

pub returns-then-is_some : goal.returns-then-is_some
returns-then-is_some c =
    sym (audited_more _ c.args.main.now _ _ _ _ true c.loop-i-test.true c.index-main-i.is c.touched.ensures c.in_ok-fault.ensures c.if-is_some.ensures) ∙ c.loop-i.invariant

pub loop-i-preserved : goal.loop-i-preserved
loop-i-preserved c =
    sym (audited_more _ c.args.main.now _ _ _ _ false c.loop-i-test.true c.index-main-i.is c.touched.ensures c.in_ok-fault.ensures c.if-is_some.ensures) ∙ c.loop-i.invariant
