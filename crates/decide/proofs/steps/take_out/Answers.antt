use Rattle.std.proofs.Common.{ℕ, ◌-◌, List, get_or, sym, ap, ◌∙◌, arith}
use Rattle.change.specs.Change.{without}
use Rattle.change.specs.Records.{change_width, row_out}
use Rattle.run.specs.Layout.{most_waiting, waiting_count}
use Rattle.run.specs.Numbers.{waiting_in}
use Rattle.run.proofs.Changed.{count_waiting, waiting-written}
use Rattle.decide.proofs.Moves.{section_less, length_without}
use Rattle.decide.proofs.steps.take_out.Goals as goal

pub returns : goal.returns
returns c =
    let xs : List ℕ = c.args.queue.now in
    let n : ℕ = get_or xs waiting_count 0 in
    let i : ℕ = c.args.i in
    waiting-written xs c.remove.new.section (without i (waiting_in xs)) (n - 1) c.requires.settled (omega (arith, count_waiting xs, length_without i (waiting_in xs) (omega (arith, count_waiting xs, c.requires.there))))
    (λ e. c.remove.ensures ∙ (ap (row_out change_width n i) e ∙ section_less most_waiting (waiting_in xs) n i (sym (count_waiting xs)) c.requires.there c.requires.settled.few_waiting))
