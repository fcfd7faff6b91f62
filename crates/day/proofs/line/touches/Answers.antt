use Rattle.std.proofs.Common.{rules, eqb, ap, ◌∙◌}
use Rattle.std.proofs.lemmas.Iterator.{YieldsList-from_slice}
use Rattle.std.proofs.lemmas.Iterator.Search.{any_from_yields_List}
use borrow.Author.Tests.{tests}
use Rattle.change.specs.Change.{has, most_parts}
use Rattle.change.proofs.ChangeLaws.{any-has}
use Rattle.day.proofs.Texts.{counted_at}
use Rattle.day.proofs.line.touches.Goals as goal

pub returns : goal.returns
returns c =
    any_from_yields_List (λ m. eqb m c.args.part) c.any.new.self _ c.any.result c.any.ensures.ran (YieldsList-from_slice c.counted.result.now c.iter-parts.ensures.rest) (λ x b q k. search (rules, tests))
    ∙ (any-has c.counted.result.now c.args.part ∙ ap (λ ps. has ps c.args.part) (c.counted.ensures ∙ counted_at 1 most_parts c.args.row.now c.past.result.now c.past.ensures))
