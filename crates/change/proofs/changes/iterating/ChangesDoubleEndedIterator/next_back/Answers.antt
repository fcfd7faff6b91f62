use Rattle.std.proofs.Common.{◌-◌, ◌++◌, [], ◌∷◌, sym, ap, ◌∙◌, arith}
use Rattle.change.specs.Records.{change_in, change_width, changes_in}
use Rattle.change.proofs.Rows.{rows_last, length-rows}
use Rattle.change.proofs.changes.iterating.ChangesDoubleEndedIterator.next_back.Goals as goal

pub returns-clause-steps : goal.returns-clause-steps
returns-clause-steps c =
    let s = c.args.self.now in
    rows_last change_in change_width s.count s.numbers.now (omega arith)
    ∙ ap (λ x. changes_in (s.count - 1) s.numbers.now ++ x ∷ []) (sym c.change_at.ensures)

pub returns-clause-goes : goal.returns-clause-goes
returns-clause-goes c =
    let s = c.args.self.now in
    let l = length-rows change_in change_width s.count s.numbers.now in
    let m = length-rows change_in change_width (s.count - 1) s.numbers.now in
    record { on = λ _. (tt, tt, omega (arith, l, m, c.if-self-eq0.false)); keeps = tt; rests = λ _. tt }
