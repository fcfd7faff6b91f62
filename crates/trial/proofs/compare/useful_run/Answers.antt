use Rattle.std.proofs.Common.{length, drop, sym, ap, ◌∙◌, arith}
use Rattle.change.specs.Change.{line}
use Rattle.change.specs.Listed.{changes_of}
use Rattle.change.specs.Records.{change_in, change_width}
use Rattle.change.proofs.Rows.{length-rows}
use Rattle.run.specs.Layout.{waiting_at}
use Rattle.trial.specs.Held.{landed_held}
use Rattle.trial.proofs.compare.useful_run.Goals as goal

pub loop-c-init : goal.loop-c-init
loop-c-init c = (
  omega (arith, ap (λ s. length (changes_of s)) c.into_iter-c-iterator.ensures.into_iter_gives, ap length c.at-c-items.ensures, length-rows change_in change_width c.args.n (drop waiting_at c.args.state.queue.now)),
  c.of_landed-run.ensures.begins ∙ (c.count_touching.ensures ∙ (ap (λ cs. length (line c.args.part cs)) c.landed.ensures ∙ ap (λ p. length (line p (landed_held c.args.state.queue.now))) (sym c.of_landed-run.ensures.part))),
)
