use Rattle.std.proofs.Common.{◌≡◌, [], ◌++◌, map, drop, vec_items}
use Rattle.change.specs.Records.{change_of}
use Rattle.serial.specs.Serial.{serial_landed, serial_rejected}
use Rattle.serial.proofs.landing.decide_serially.Given as goal

abbrev pub invariant-loop-c : goal.invariant-loop-c
invariant-loop-c g l =
    (serial_landed (g.B.Bench.says l.bench) (map change_of (vec_items l.landed)) (map change_of (drop l.c-index l.arrivals))
    ≡ serial_landed (g.B.Bench.says l.bench) [] (map change_of l.arrivals))
    × (map change_of (vec_items l.rejected) ++ serial_rejected (g.B.Bench.says l.bench) (map change_of (vec_items l.landed)) (map change_of (drop l.c-index l.arrivals))
    ≡ serial_rejected (g.B.Bench.says l.bench) [] (map change_of l.arrivals))
