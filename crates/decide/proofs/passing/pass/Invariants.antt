use Rattle.std.proofs.Common.{◌≡◌, length, drop}
use Rattle.change.specs.Listed.{changes_of}
use Rattle.change.specs.Records.{change_of, changes_in}
use Rattle.change.proofs.Chunks.{Left}
use Rattle.change.proofs.Rows.{rest}
use Rattle.run.specs.Layout.{verdicts_at, waiting_at}
use Rattle.run.specs.Records.{run_of, verdict_in, verdict_width, verdicts_in}
use Rattle.run.specs.Run.{heard, runs_on}
use Rattle.decide.specs.Decide.{decision_by, shares_any}
use Rattle.decide.specs.declared.decision.Decision.TheVariants.{Land}
use Rattle.decide.proofs.Turns.{Turned}
use Rattle.decide.proofs.passing.pass.Given as goal

abbrev pub invariant-changes : goal.invariant-changes
invariant-changes l = Turned l.initial.queue l.queue l.tally l.turn l.decided

-- the change shares a part with one of the earlier ones that are left if it does with any
abbrev pub invariant-loop-earlier : goal.invariant-loop-earlier
invariant-loop-earlier l =
    shares_any (change_of l.c) (changes_of l.earlier-iterator) ≡ shares_any (change_of l.c) (changes_in l.held (drop waiting_at l.now))

-- the runs on the parts that are left decide, with the decision so far, as all of them do
abbrev pub invariant-parts : goal.invariant-parts
invariant-parts l =
    decision_by l.decision (runs_on (changes_of l.landed) l.number (drop l.part-index l.part-items)) (verdicts_in (changes_of l.landed) l.verdicts (drop verdicts_at l.now))
    ≡ decision_by Land (runs_on (changes_of l.landed) l.number l.part-items) (verdicts_in (changes_of l.landed) l.verdicts (drop verdicts_at l.now))

-- the verdicts that are left say of the run what all of them say
abbrev pub invariant-loop-verdict : goal.invariant-loop-verdict
invariant-loop-verdict l =
    Left verdict_width l.verdicts verdicts_at l.now l.verdict-iterator (length l.yielded)
    × (l.decision ≡ l.initial.decision)
    × (heard (run_of (changes_of l.landed) l.top) (rest (verdict_in (changes_of l.landed)) verdict_width l.now verdicts_at l.verdicts (length l.yielded))
    ≡ heard (run_of (changes_of l.landed) l.top) (verdicts_in (changes_of l.landed) l.verdicts (drop verdicts_at l.now)))
