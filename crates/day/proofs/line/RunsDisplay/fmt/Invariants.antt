use Rattle.std.specs.List.{flat_map}
use Rattle.change.specs.Records.{changes_in}
use Rattle.run.specs.Records.{runs_in}
use Rattle.run.proofs.Writing.{Sofar}
use Rattle.day.specs.Text.{run_text}
use Rattle.day.proofs.line.RunsDisplay.fmt.Given as goal

abbrev pub invariant-loop-row : goal.invariant-loop-row
invariant-loop-row g l =
    let landed = changes_in l.self.landed.count l.self.landed.numbers.now in
    Sofar g.W.Write.write_str_gives l.initial.f (flat_map run_text (runs_in landed l.self.running.count l.self.running.numbers.now))
    (flat_map run_text (runs_in landed l.row-iterator.count l.row-iterator.numbers.now)) l.f
