use Rattle.std.proofs.Common.{◌≡◌, [], take, drop}
use Rattle.change.specs.Change.{fault_from}
use Rattle.change.proofs.change.Change.first_fault.Given as goal

abbrev pub invariant-loop-i : goal.invariant-loop-i
invariant-loop-i l = fault_from (take l.i l.parts) l.i (drop l.i l.parts) ≡ fault_from [] 0 l.parts
