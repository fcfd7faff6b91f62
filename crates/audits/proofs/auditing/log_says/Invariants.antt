use Rattle.std.proofs.Common.{◌≡◌, map, drop}
use Rattle.audits.specs.Audit.{log_says, verdict_of}
use Rattle.audits.proofs.Log.{reading}
use Rattle.audits.proofs.auditing.log_says.Given as goal

abbrev pub invariant-loop-v : goal.invariant-loop-v
invariant-loop-v l =
    reading l.known (record { part = l.part; changes = l.changes }) (map verdict_of (drop l.v-index l.verdicts))
    ≡ log_says (record { part = l.part; changes = l.changes }) (map verdict_of l.verdicts)
