use Rattle.std.proofs.Common.{sym, ap, ◌∙◌}
use Rattle.queue.specs.Entry.{stepped, stepped_kind}
use Rattle.queue.specs.Stages.{kind_number}
use Rattle.queue.proofs.Replies.{first, next, stops, passes}
use Rattle.queue.proofs.entry.apply.Goals as goal

pub returns-in_default : goal.returns-in_default
unfolding stepped
returns-in_default c = stops _ _ c.in_default.is c.refused.ensures (first _ (first _ c.in_default.ensures.says))

pub returns-in_default-benches : goal.returns-in_default-benches
unfolding stepped
returns-in_default-benches c =
    stops _ _ c.in_default-benches.is c.refused-in_default-benches.ensures (first _ (next c.in-Ok.ensures.says (first _ c.in_default-benches.ensures.says)))

pub returns-in_default-depth : goal.returns-in_default-depth
unfolding stepped
returns-in_default-depth c =
    stops _ _ c.in_default-depth.is c.refused-in_default-depth.ensures
    (first _ (next c.in-Ok.ensures.says (next c.in-Ok-benches.ensures.says (first _ c.in_default-depth.ensures.says))))

pub returns-in_default-known : goal.returns-in_default-known
unfolding stepped
returns-in_default-known c =
    stops _ _ c.in_default-known.is c.refused-in_default-known.ensures
    (first _ (next c.in-Ok.ensures.says (next c.in-Ok-benches.ensures.says (next c.in-Ok-depth.ensures.says c.in_default-known.ensures.says))))

pub returns-in-Submit : goal.returns-in-Submit
unfolding stepped
returns-in-Submit c =
    passes _ _ _ _ (next c.in-Ok.ensures.says (next c.in-Ok-benches.ensures.says (next c.in-Ok-depth.ensures.says c.in-Ok-known.ensures.says)))
    (c.submit.ensures ∙ ap (λ k. stepped_kind k c.args.queue.now c.args.event.now) (sym (ap kind_number c.in-Submit.is) ∙ c.in-Ok-known.ensures.hands.0))

pub returns-in-Withdraw : goal.returns-in-Withdraw
unfolding stepped
returns-in-Withdraw c =
    passes _ _ _ _ (next c.in-Ok.ensures.says (next c.in-Ok-benches.ensures.says (next c.in-Ok-depth.ensures.says c.in-Ok-known.ensures.says)))
    (c.withdraw.ensures ∙ ap (λ k. stepped_kind k c.args.queue.now c.args.event.now) (sym (ap kind_number c.in-Withdraw.is) ∙ c.in-Ok-known.ensures.hands.0))

pub returns-in-Report : goal.returns-in-Report
unfolding stepped
returns-in-Report c =
    passes _ _ _ _ (next c.in-Ok.ensures.says (next c.in-Ok-benches.ensures.says (next c.in-Ok-depth.ensures.says c.in-Ok-known.ensures.says)))
    (c.report.ensures ∙ ap (λ k. stepped_kind k c.args.queue.now c.args.event.now) (sym (ap kind_number c.in-Report.is) ∙ c.in-Ok-known.ensures.hands.0))
