use Rattle.std.proofs.Common.{◌≡◌, map, drop}
use Rattle.change.specs.Records.{change_of}
use Rattle.audits.specs.Audit.{first_fault, states_at, verdict_of}
use Rattle.audits.proofs.auditing.Auditor.first_fault.Given as goal

abbrev pub invariant-loop-part : goal.invariant-loop-part
invariant-loop-part l =
    first_fault (map verdict_of l.self.verdicts.now) (states_at (map change_of l.main) (drop l.part-index l.parts))
    ≡ first_fault (map verdict_of l.self.verdicts.now) (states_at (map change_of l.main) l.parts)
