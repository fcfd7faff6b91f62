use Rattle.std.proofs.Common.{ℕ, ◌+◌, ◌*◌, List, [], ◌∷◌, ◌++◌, get_or, sym, ap, ◌∙◌, arith}
use Rattle.std.proofs.lemmas.List.{length_push}
use Rattle.change.specs.Change.{Change}
use Rattle.change.specs.Records.{change_of, change_row, change_width, written}
use Rattle.run.specs.Layout.{rejected_count, most_rejected}
use Rattle.run.specs.Numbers.{rejected_in}
use Rattle.run.proofs.Changed.{count_rejected, rejected-written}
use Rattle.decide.proofs.Moves.{section_more}
use Rattle.decide.proofs.steps.reject.Goals as goal

pub returns : goal.returns
returns c =
    let xs : List ℕ = c.args.queue.now in
    let x : Change = change_of c.args.c in
    let n : ℕ = get_or xs rejected_count 0 in
    rejected-written xs c.append.new.section (rejected_in xs ++ x ∷ []) (n + 1) c.requires.settled (omega (arith, count_rejected xs, length_push (rejected_in xs) x))
    (λ e. c.append.ensures ∙ (ap (written (change_width * n) (change_row x)) e ∙ section_more most_rejected (rejected_in xs) x n (sym (count_rejected xs)) c.requires.few))
