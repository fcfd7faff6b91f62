use Rattle.std.proofs.Common.{◌≡◌, ℕ, eqb, List, get_or, drop, sym, ◌∙◌, arith}
use Rattle.std.proofs.lemmas.List.{get_or-drop}
use Rattle.run.specs.Layout.{queue_length}
use Rattle.run.specs.Numbers.{config_in, decode}
use Rattle.queue.specs.Queue.{report, step}
use Rattle.queue.specs.Entry.{stepped_to}
use Rattle.queue.proofs.Advanced.{ready_recorded, requested-recorded, stepped-recorded}
use Rattle.queue.proofs.Replies.{next, goes_on}
use Rattle.queue.proofs.entry.report.Goals as goal

pub advance-requires : goal.advance-requires
advance-requires c = record {
  ready = ready_recorded c.args.queue.now c.record_report.new.queue c.args.found.tally (report c.in-Ok.place (eqb (get_or c.args.event.now 2 0) 1)) c.record_report.ensures c.requires.found.tallied c.requires.config.benches c.requires.config.depth;
  few = requested-recorded c.args.queue.now c.record_report.new.queue (report c.in-Ok.place (eqb (get_or c.args.event.now 2 0) 1)) c.record_report.ensures (omega (arith, c.in-Ok-requests.ensures.hands.0, c.in-Ok-requests.ensures.hands.1));
}

pub returns : goal.returns
returns c =
    let xs : List ℕ = c.args.queue.now in
    let es : List ℕ = c.args.event.now in
    let place : c.in-Ok.place ≡ get_or (drop 1 es) 0 0 = c.in-Ok.ensures.hands.0 ∙ sym (get_or-drop 1 es 0 0) in
    let value : get_or es 2 0 ≡ get_or (drop 1 es) 1 0 = sym (get_or-drop 1 es 1 0) in
    goes_on _ _ _ (next c.in-Ok.ensures.says (next c.in-Ok-verdicts.ensures.says c.in-Ok-requests.ensures.says))
    (c.advance.ensures
    ∙ (stepped-recorded xs c.record_report.new.queue (report c.in-Ok.place (eqb (get_or es 2 0) 1)) c.record_report.ensures
    ∙ (λ i. stepped_to (config_in xs) (step (config_in xs) (decode xs) (report (place i) (eqb (value i) 1))) (drop queue_length xs))))
