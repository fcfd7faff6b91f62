use Rattle.std.proofs.Common.{drop, ap, ◌∙◌, arith}
use Rattle.change.specs.Records.{change_of}
use Rattle.run.specs.Layout.{queue_length}
use Rattle.run.specs.Numbers.{config_in, decode}
use Rattle.queue.specs.Queue.{submit, step}
use Rattle.queue.specs.Entry.{stepped_to}
use Rattle.queue.proofs.Advanced.{ready_recorded, requested-recorded, stepped-recorded}
use Rattle.queue.proofs.Replies.{first, next, stops, goes_on}
use Rattle.queue.proofs.entry.submit.Goals as goal

pub returns-in_default : goal.returns-in_default
returns-in_default c = stops _ _ c.in_default.is c.refused.ensures (first _ c.in_default.ensures.says)

pub returns-in_default-formed : goal.returns-in_default-formed
returns-in_default-formed c =
    stops _ _ c.in_default-formed.is c.refused-in_default-formed.ensures (next c.in-Ok.ensures.says (first _ c.in_default-formed.ensures.says))

pub returns-in_default-room : goal.returns-in_default-room
returns-in_default-room c =
    stops _ _ c.in_default-room.is c.refused-in_default-room.ensures
    (next c.in-Ok.ensures.says (next c.in-Ok-formed.ensures.says (first _ c.in_default-room.ensures.says)))

pub returns-in_default-requests : goal.returns-in_default-requests
returns-in_default-requests c =
    stops _ _ c.in_default-requests.is c.refused-in_default-requests.ensures
    (next c.in-Ok.ensures.says (next c.in-Ok-formed.ensures.says (next c.in-Ok-room.ensures.says c.in_default-requests.ensures.says)))

pub record_submit-requires : goal.record_submit-requires
record_submit-requires c = record { sound = c.requires.found.sound; roomy = c.in-Ok-room.ensures.hands.1 }

pub advance-requires : goal.advance-requires
advance-requires c = record {
  ready = ready_recorded c.args.queue.now c.record_submit.new.queue c.args.found.tally (submit (change_of c.in-Ok-formed.change)) c.record_submit.ensures c.requires.found.tallied c.requires.config.benches c.requires.config.depth;
  few = requested-recorded c.args.queue.now c.record_submit.new.queue (submit (change_of c.in-Ok-formed.change)) c.record_submit.ensures (omega (arith, c.in-Ok-requests.ensures.hands.0, c.in-Ok-requests.ensures.hands.1));
}

pub returns : goal.returns
returns c =
    goes_on _ _ _
    (next c.in-Ok.ensures.says (next c.in-Ok-formed.ensures.says (next c.in-Ok-room.ensures.says c.in-Ok-requests.ensures.says)))
    (c.advance.ensures
    ∙ (stepped-recorded c.args.queue.now c.record_submit.new.queue (submit (change_of c.in-Ok-formed.change)) c.record_submit.ensures
    ∙ ap (λ x. stepped_to (config_in c.args.queue.now) (step (config_in c.args.queue.now) (decode c.args.queue.now) (submit x)) (drop queue_length c.args.queue.now)) c.in-Ok-formed.ensures.hands))
