use Rattle.std.proofs.Common.{◌≡◌, ℕ, ◌+◌, ◌-◌, ◌*◌, List, get_or, take, drop, ap, ◌∙◌, arith}
use Rattle.run.specs.Records.{run_in, run_width}
use Rattle.run.specs.Layout.{running_at}
use Rattle.run.specs.State.{Queue}
use Rattle.queue.specs.Queue.{answered, recorded}
use Rattle.queue.proofs.Recorded.{says_next, says_same}
use Rattle.queue.proofs.Reported.{says_reported}
use Rattle.queue.proofs.recording.record_report.Goals as goal

pub returns : goal.returns
unfolding recorded
returns c =
    let ys : List ℕ = c.tidy.new.queue in
    let at : ℕ = running_at + run_width * c.args.place in
    let w : at + run_width - at ≡ run_width = omega arith in
    let said = c.tidy.ensures.0 in
    let sound = c.tidy.ensures.1 in
    let next = says_reported ys c.append.new.section c.remove.new.section c.read_run-run.result c.args.good c.args.counts.verdicts c.args.counts.running c.args.place
    said.settled sound.counted.verdicts sound.counted.running c.requires.few c.requires.there c.append.ensures c.remove.ensures
    (λ landed. c.read_run-run.ensures.value landed ∙ ap (λ u. run_in landed (take u (drop at ys))) w)
    (c.read_run-run.ensures.part ∙ ap (λ u. get_or (take u (drop at ys)) 0 0) w) (c.read_run-run.ensures.begins ∙ ap (λ u. get_or (take u (drop at ys)) 1 0) w) in
    says_next c.args.queue.now ys c.count_runs.new.queue _ _ _ said (says_same ys _ c.count_runs.new.queue _ next c.count_runs.ensures) (ap (λ (q : Queue). answered q c.args.place c.args.good) said.state)
