use Rattle.std.proofs.Common.{ℕ, ◌+◌, ◌*◌, ◌≤◌, List, [], ◌∷◌, ◌++◌, length, ap, ◌∙◌, arith, length-take}
use Rattle.std.proofs.lemmas.List.{length_push}
use Rattle.change.specs.Change.{Change, most_parts}
use Rattle.change.specs.Records.{change_of, change_row, change_width, written}
use Rattle.run.specs.State.{Queue}
use Rattle.run.specs.Numbers.{decode, waiting_in}
use Rattle.run.specs.Layout.{most_waiting}
use Rattle.decide.proofs.Moves.{section_more}
use Rattle.queue.specs.Queue.{join, recorded, with_waiting}
use Rattle.queue.proofs.Recorded.{says_next, says_waiting, length-waiting, fitting_more}
use Rattle.queue.proofs.recording.record_submit.Goals as goal

pub returns : goal.returns
unfolding recorded decode
returns c =
    let ys : List ℕ = c.tidy.new.queue in
    let ws : List Change = waiting_in ys in
    let x : Change = change_of c.args.c in
    let said = c.tidy.ensures.0 in
    let sound = c.tidy.ensures.1 in
    let n = length-waiting ys c.args.counts sound in
    let small : length x.parts ≤ most_parts = omega (arith, length-take c.args.c.count c.args.c.parts, c.args.c.few) in
    let next = says_waiting ys c.append.new.section (ws ++ x ∷ []) (c.args.counts.waiting + 1) said.settled (fitting_more ys c.args.counts x sound c.requires.roomy small)
    (λ e. c.append.ensures ∙ (ap (written (change_width * c.args.counts.waiting) (change_row x)) e ∙ section_more most_waiting ws x c.args.counts.waiting n c.requires.roomy.can_wait))
    (omega (arith, n, length_push ws x)) in
    says_next c.args.queue.now ys _ _ _ _ said next (ap (λ (q : Queue). with_waiting q (join x q.waiting)) said.state)
