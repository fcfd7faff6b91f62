use Rattle.std.proofs.Common.{◌<◌}
use Rattle.trial.proofs.shape.Shape.parts_in_order.Given as goal

abbrev pub invariant-loop-each : goal.invariant-loop-each
invariant-loop-each l = l.part < l.self.parts
