use Rattle.std.proofs.Common.{◌≡◌, ◌∷◌, length, sym, ap, ◌∙◌, arith}
use Rattle.day.specs.DayFile.{events_of}
use Rattle.day.proofs.Events.{events_none, events_more}
use Rattle.day.proofs.file.EventsIterator.next.Goals as goal

pub returns-in_err-next-clause-steps : goal.returns-in_err-next-clause-steps
returns-in_err-next-clause-steps c =
    let e = events_none c.args.self.now.rest.now (sym c.in_err-next.ensures) in
    rw c.from_residual.ensures (e, e)

pub returns-clause-steps : goal.returns-clause-steps
returns-clause-steps c = events_more c.args.self.now.rest.now c.in_ok-next.next (sym c.in_ok-next.ensures) ∙ ap (λ l. c.in_ok-next.next.1 ∷ events_of l) (sym c.past-self.ensures)

pub returns-clause-goes : goal.returns-clause-goes
returns-clause-goes c =
    let e = events_more c.args.self.now.rest.now c.in_ok-next.next (sym c.in_ok-next.ensures) ∙ ap (λ l. c.in_ok-next.next.1 ∷ events_of l) (sym c.past-self.ensures) in
    let n : length (events_of c.args.self.now.rest.now) ≡ length (c.in_ok-next.next.1 ∷ events_of c.past-self.result.now) = ap length e in
    grind arith
