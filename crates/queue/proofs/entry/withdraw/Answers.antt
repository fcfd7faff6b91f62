use Rattle.std.proofs.Common.{get_or, drop, sym, ap, ◌∙◌, arith}
use Rattle.std.proofs.lemmas.List.{get_or-drop}
use Rattle.run.specs.Layout.{queue_length}
use Rattle.run.specs.Numbers.{config_in, decode}
use Rattle.queue.specs.Queue.{withdraw, step}
use Rattle.queue.specs.Entry.{stepped_to}
use Rattle.queue.proofs.Advanced.{ready_recorded, requested-recorded, stepped-recorded}
use Rattle.queue.proofs.Replies.{first, next, stops, goes_on}
use Rattle.queue.proofs.entry.withdraw.Goals as goal

pub returns-in_default : goal.returns-in_default
returns-in_default c = stops _ _ c.in_default.is c.refused.ensures (first _ c.in_default.ensures.says)

pub returns-in_default-requests : goal.returns-in_default-requests
returns-in_default-requests c =
    stops _ _ c.in_default-requests.is c.refused-in_default-requests.ensures (next c.in-Ok.ensures.says c.in_default-requests.ensures.says)

pub advance-requires : goal.advance-requires
advance-requires c = record {
  ready = ready_recorded c.args.queue.now c.record_withdraw.new.queue c.args.found.tally (withdraw (get_or c.args.event.now 1 0)) c.record_withdraw.ensures c.requires.found.tallied c.requires.config.benches c.requires.config.depth;
  few = requested-recorded c.args.queue.now c.record_withdraw.new.queue (withdraw (get_or c.args.event.now 1 0)) c.record_withdraw.ensures (omega (arith, c.in-Ok-requests.ensures.hands.0, c.in-Ok-requests.ensures.hands.1));
}

pub returns : goal.returns
returns c =
    goes_on _ _ _ (next c.in-Ok.ensures.says c.in-Ok-requests.ensures.says)
    (c.advance.ensures
    ∙ (stepped-recorded c.args.queue.now c.record_withdraw.new.queue (withdraw (get_or c.args.event.now 1 0)) c.record_withdraw.ensures
    ∙ ap (λ n. stepped_to (config_in c.args.queue.now) (step (config_in c.args.queue.now) (decode c.args.queue.now) (withdraw n)) (drop queue_length c.args.queue.now)) (sym (get_or-drop 1 c.args.event.now 0 0))))
