use Rattle.std.proofs.Common.{◌≡◌, map, take, drop}
use Rattle.change.specs.Records.{change_of}
use Rattle.audits.specs.Audit.{audited, first_fault, states_from, verdict_of}
use Rattle.audits.proofs.auditing.audit.Given as goal

abbrev pub invariant-loop-i : goal.invariant-loop-i
invariant-loop-i l =
    first_fault (map verdict_of l.verdicts) (states_from (map change_of (take l.i l.main)) (map change_of (drop l.i l.main)))
    ≡ audited (map verdict_of l.verdicts) (map change_of l.main)
