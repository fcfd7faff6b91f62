use Rattle.std.proofs.Common.{◌≡◌, map, drop}
use Rattle.change.specs.Records.{change_of}
use Rattle.serial.specs.Serial.{passes, passes_on}
use Rattle.serial.proofs.landing.passes.Given as goal

abbrev pub invariant-loop-part : goal.invariant-loop-part
invariant-loop-part g l =
    passes_on (g.B.Bench.says l.bench) (map change_of l.landed) (change_of l.fn.c) (drop l.part-index l.part-items)
    ≡ passes (g.B.Bench.says l.bench) (map change_of l.landed) (change_of l.fn.c)
