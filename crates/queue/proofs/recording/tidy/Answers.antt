use Rattle.queue.proofs.Recorded.{says_tidied, tidied}
use Rattle.queue.proofs.recording.tidy.Goals as goal

pub returns : goal.returns
returns c =
    says_tidied c.args.queue.now _ c.args.counts c.requires
    (tidied c.args.queue.now c.tidy_changes.new.section c.tidy_changes-2.new.section c.tidy_changes-3.new.section c.args.counts.landed c.args.counts.waiting c.args.counts.rejected
    c.requires.runs.long c.requires.counted.landed c.requires.counted.waiting c.requires.counted.rejected c.args.counts.few_landed c.args.counts.few_waiting c.args.counts.few_rejected
    c.tidy_changes.ensures c.tidy_changes-2.ensures c.tidy_changes-3.ensures)
