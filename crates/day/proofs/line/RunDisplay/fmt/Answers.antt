use Rattle.std.proofs.Common.{refl, ◌∙◌}
use Rattle.std.proofs.Output.{has_written_of_eq, has_written_append}
use Rattle.change.specs.Records.{changes_in}
use Rattle.run.specs.Limits.{most_following}
use Rattle.day.proofs.Texts.{counted_at, run_is}
use Rattle.day.proofs.line.RunDisplay.fmt.Goals as goal

pub returns-clause-writes : goal.returns-clause-writes
returns-clause-writes g c = λ plain ok.
    let took = g.W.Write.write_str_gives in
    let row = c.args.self.now.row.now in
    let a = c.in_ok-write.ensures.writes plain refl in
    let b = c.in_ok-led.ensures in
    let x = b.0 a.plain in
    let y = c.write_changes.ensures x.plain ok in
    let follow = c.counted.ensures ∙ counted_at 2 most_following row c.past.result.now c.past.ensures in
    let landed = changes_in c.args.self.now.landed.count c.args.self.now.landed.numbers.now in
    has_written_of_eq took _ _ _ _ (run_is landed row c.counted.result.now c.number_at-part.result c.number_at-most.result c.in_ok-led.led c.number_at-part.ensures c.number_at-most.ensures follow b.1)
    (has_written_append took _ _ _ _ _ a (has_written_append took _ _ _ _ _ x y))
