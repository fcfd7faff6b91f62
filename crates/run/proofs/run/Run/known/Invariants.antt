use Rattle.std.proofs.Common.{◌≡◌, length, drop}
use Rattle.change.specs.Listed.{changes_of}
use Rattle.change.proofs.Chunks.{Left}
use Rattle.change.proofs.Rows.{rest}
use Rattle.run.specs.Layout.{verdicts_at}
use Rattle.run.specs.Records.{run_of, verdict_in, verdict_width, verdicts_in}
use Rattle.run.specs.Run.{heard}
use Rattle.run.proofs.run.Run.known.Given as goal

-- the verdicts that are left say of the run what all of them say
abbrev pub invariant-loop-verdict : goal.invariant-loop-verdict
invariant-loop-verdict l =
    Left verdict_width l.verdicts verdicts_at l.queue l.verdict-iterator (length l.yielded)
    × (heard (run_of (changes_of l.landed) l.self) (rest (verdict_in (changes_of l.landed)) verdict_width l.queue verdicts_at l.verdicts (length l.yielded))
    ≡ heard (run_of (changes_of l.landed) l.self) (verdicts_in (changes_of l.landed) l.verdicts (drop verdicts_at l.queue)))
