use Rattle.std.proofs.Common.{ℕ, ◌+◌, ◌*◌, List, [], ◌∷◌, ◌++◌, get_or, sym, ap, ◌∙◌, arith}
use Rattle.std.proofs.lemmas.List.{length_push}
use Rattle.change.specs.Change.{Change}
use Rattle.change.specs.Records.{change_of, change_row, change_width, written}
use Rattle.run.specs.Layout.{landed_count, most_landed}
use Rattle.run.specs.Numbers.{landed_in}
use Rattle.run.proofs.Changed.{count_landed, landed-written}
use Rattle.decide.proofs.Moves.{section_more}
use Rattle.decide.proofs.steps.land.Goals as goal

pub returns : goal.returns
returns c =
    let xs : List ℕ = c.args.queue.now in
    let x : Change = change_of c.args.c in
    let n : ℕ = get_or xs landed_count 0 in
    landed-written xs c.append.new.section (landed_in xs ++ x ∷ []) (n + 1) c.requires.settled (omega (arith, count_landed xs, length_push (landed_in xs) x))
    (λ e. c.append.ensures ∙ (ap (written (change_width * n) (change_row x)) e ∙ section_more most_landed (landed_in xs) x n (sym (count_landed xs)) c.requires.few))
