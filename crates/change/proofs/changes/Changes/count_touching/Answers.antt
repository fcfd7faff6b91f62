use Rattle.std.proofs.Common.{rules, length, inl, ap, ◌∙◌, arith}
use Rattle.std.proofs.lemmas.Iterator.Consumers.{YieldsList-from_first, YieldsList-from_filter, count_from_yields_List}
use borrow.Author.Tests.{tests}
use Rattle.change.specs.Change.{has}
use Rattle.change.specs.Listed.{changes_of}
use Rattle.change.specs.Records.{change_in, change_of, change_width}
use Rattle.change.proofs.Rows.{length-rows}
use Rattle.change.proofs.ChangeLaws.{filter-line}
use Rattle.change.proofs.changes.Changes.count_touching.Goals as goal

pub count-requires-clause-fits : goal.count-requires-clause-fits
count-requires-clause-fits c =
    inl (omega (arith, ap (λ s. length (changes_of s)) c.filter.ensures.source, length-rows change_in change_width c.args.self.count c.args.self.numbers.now, c.args.self.within, c.ranges.self.0))

pub returns : goal.returns
returns c =
    count_from_yields_List _ _ c.count.ensures.ran (YieldsList-from_filter _ (λ x. has x.parts c.args.part) (YieldsList-from_first change_of changes_of (changes_of c.args.self) (ap changes_of c.filter.ensures.source)) c.filter.ensures.closure (λ x b q k. search (rules, tests)))
    ∙ filter-line c.args.part (changes_of c.args.self)
