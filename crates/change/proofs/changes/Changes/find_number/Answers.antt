use Rattle.std.proofs.Common.{rules, eqb, inl, refl, ◌∙◌, arith}
use Rattle.std.proofs.lemmas.Iterator.Consumers.{YieldsList-from_first}
use Rattle.std.proofs.lemmas.Iterator.Search.{position_from_yields_List}
use borrow.Author.Tests.{tests}
use Rattle.change.specs.Listed.{changes_of}
use Rattle.change.specs.Records.{change_in, change_of, change_width}
use Rattle.change.proofs.Rows.{length-rows}
use Rattle.change.proofs.ChangeLaws.{position-place_of}
use Rattle.change.proofs.changes.Changes.find_number.Goals as goal

pub position-requires-clause-fits : goal.position-requires-clause-fits
position-requires-clause-fits c = inl (omega (arith, length-rows change_in change_width c.args.self.count c.args.self.numbers.now, c.args.self.within, c.ranges.self.0))

pub returns : goal.returns
returns c =
    position_from_yields_List (λ x. eqb x.number c.args.number) c.position.new.self _ _ c.position.ensures.ran (YieldsList-from_first change_of changes_of {s = c.args.self} _ refl) (λ x b q k. search (rules, tests))
    ∙ position-place_of c.args.number _
