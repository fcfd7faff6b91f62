use Rattle.std.proofs.Common.{◌≡◌, take, drop}
use Rattle.change.specs.Change.{has}
use Rattle.change.proofs.change.Change.among_first.Given as goal

abbrev pub invariant-loop-i : goal.invariant-loop-i
invariant-loop-i l = has (drop l.i (take l.n l.self.parts)) l.part ≡ has (take l.n l.self.parts) l.part
