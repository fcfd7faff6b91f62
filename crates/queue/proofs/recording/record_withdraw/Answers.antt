use Rattle.std.proofs.Common.{ℕ, ◌-◌, List, ap, ◌∙◌}
use Rattle.change.specs.Change.{Change, dropped}
use Rattle.change.specs.Records.{change_width, row_out}
use Rattle.run.specs.State.{Queue}
use Rattle.run.specs.Numbers.{decode, waiting_in}
use Rattle.queue.specs.Queue.{recorded, with_waiting}
use Rattle.queue.proofs.Recorded.{says_next, says_waiting, says_same-waiting, length-waiting, fitting_fewer, dropped-waiting}
use Rattle.queue.proofs.recording.record_withdraw.Goals as goal

pub remove-requires-clause-there : goal.remove-requires-clause-there
remove-requires-clause-there c =
    let there = says_same-waiting c.args.queue.now c.tidy.new.queue c.args.number c.args.place c.tidy.ensures.0 c.requires.there in
    (dropped-waiting c.args.number (waiting_in c.tidy.new.queue) c.args.place c.args.counts.waiting there (length-waiting c.tidy.new.queue c.args.counts c.tidy.ensures.1) c.args.counts.few_waiting).2

pub returns : goal.returns
unfolding recorded decode
returns c =
    let ys : List ℕ = c.tidy.new.queue in
    let ws : List Change = waiting_in ys in
    let said = c.tidy.ensures.0 in
    let sound = c.tidy.ensures.1 in
    let there = says_same-waiting c.args.queue.now ys c.args.number c.args.place said c.requires.there in
    let gone = dropped-waiting c.args.number ws c.args.place c.args.counts.waiting there (length-waiting ys c.args.counts sound) c.args.counts.few_waiting in
    let next = says_waiting ys c.remove.new.section (dropped c.args.number ws) (c.args.counts.waiting - 1) said.settled (fitting_fewer ys c.args.counts c.args.number c.args.place sound there)
    (λ e. c.remove.ensures ∙ (ap (row_out change_width c.args.counts.waiting c.args.place) e ∙ gone.0)) gone.1 in
    says_next c.args.queue.now ys _ _ _ _ said next (ap (λ (q : Queue). with_waiting q (dropped c.args.number q.waiting)) said.state)
