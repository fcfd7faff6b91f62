use Rattle.std.proofs.Common.{rules, ap, ◌∙◌}
use Rattle.std.proofs.lemmas.Iterator.{YieldsList-from_slice}
use Rattle.std.proofs.lemmas.Iterator.Search.{any_from_yields_List}
use borrow.Author.Tests.{tests}
use Rattle.change.specs.Change.{has, share}
use Rattle.change.specs.Records.{change_of}
use Rattle.change.proofs.ChangeLaws.{any-share}
use Rattle.change.proofs.change.Change.shares.Goals as goal

pub returns : goal.returns
returns c =
    let qs = (change_of c.args.other).parts in
    any_from_yields_List (λ p. has qs p) c.any.new.self _ c.any.result c.any.ensures.ran (YieldsList-from_slice c.touched.result.now cc) (λ x b q k. search (rules, tests))
    ∙ (any-share c.touched.result.now qs ∙ ap (λ ps. share ps qs) c.touched.ensures)
