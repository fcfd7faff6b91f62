use Rattle.std.proofs.Common.{◌≤◌, vec_len}
use Rattle.run.specs.Layout.{queue_length}
use Rattle.trial.proofs.play_days.Given as goal

abbrev pub invariant-loop-number : goal.invariant-loop-number
invariant-loop-number l = queue_length ≤ vec_len l.queue
