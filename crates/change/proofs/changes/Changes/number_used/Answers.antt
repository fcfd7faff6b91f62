use Rattle.std.proofs.Common.{rules, eqb, refl, ◌∙◌}
use Rattle.std.proofs.lemmas.Iterator.Consumers.{YieldsList-from_first}
use Rattle.std.proofs.lemmas.Iterator.Search.{any_from_yields_List}
use borrow.Author.Tests.{tests}
use Rattle.change.specs.Listed.{changes_of}
use Rattle.change.specs.Records.{change_of}
use Rattle.change.proofs.ChangeLaws.{any-numbered}
use Rattle.change.proofs.changes.Changes.number_used.Goals as goal

pub returns : goal.returns
returns c =
    any_from_yields_List (λ x. eqb x.number c.args.number) c.any.new.self _ _ c.any.ensures.ran (YieldsList-from_first change_of changes_of {s = c.args.self} _ refl) (λ x b q k. search (rules, tests))
    ∙ any-numbered c.args.number _
