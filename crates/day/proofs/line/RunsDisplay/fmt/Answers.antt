use Rattle.std.proofs.Common.{refl, ap}
use Rattle.std.specs.List.{flat_map}
use Rattle.change.specs.Records.{changes_in}
use Rattle.run.specs.Records.{run_in, run_width, runs_in}
use Rattle.run.proofs.Writing.{sofar_none}
use Rattle.day.specs.Text.{run_text}
use Rattle.day.proofs.Writing.{sofar_row}
use Rattle.day.proofs.line.RunsDisplay.fmt.Goals as goal

pub loop-row-init : goal.loop-row-init
loop-row-init g c =
    let landed = changes_in c.args.self.now.landed.count c.args.self.now.landed.numbers.now in
    sofar_none g.W.Write.write_str_gives _ _ _ (ap (λ s. flat_map run_text (runs_in landed s.count s.numbers.now)) c.into_iter-row-iterator.ensures.into_iter_gives)

pub loop-row-preserved : goal.loop-row-preserved
loop-row-preserved g c =
    sofar_row (run_in (changes_in c.args.self.now.landed.count c.args.self.now.landed.numbers.now)) run_width g.W.Write.write_str_gives run_text _ _ _ _ _ _ _ _ _ _ c.loop-row.invariant c.in-Some.ensures.steps
    refl (λ p. c.in_ok-write.ensures.writes p refl)
