use Rattle.std.proofs.Common.{◌≡◌, ℕ, length, inl, refl, ap, ◌∙◌, arith}
use lib.ListN.{get_or-replicate}
use Rattle.change.specs.Change.{line}
use Rattle.change.specs.Listed.{changes_of}
use Rattle.change.proofs.ChangeLaws.{length-line_le}
use Rattle.change.proofs.changes.Changes.tally.Goals as goal

pub loop-i-init : goal.loop-i-init
loop-i-init c =
    let made = c.into_iter-i-iterator.result in
    let it = c.into_iter-i-iterator.ensures.into_iter_gives in
    let none : made.count ≡ 0 = ap (λ s. s.count) it ∙ c.enumerate-i-items.ensures.count in
    let all : changes_of made.iter ≡ changes_of c.args.self = ap (λ s. changes_of s.iter) it ∙ ap changes_of c.enumerate-i-items.ensures.source in (
      (tt, tt, inl (omega (arith, none, ap length all, c.requires))),
      tt,
      λ p h. omega (arith, get_or-replicate {A = ℕ} 64 p 0 0 h, ap (λ l. length (line p l)) all),
      λ p h. omega (arith, get_or-replicate {A = ℕ} 64 p 0 0 h),
      omega (arith, none, ap length all),
      refl,
    )

pub count_stamped-requires-clause-few : goal.count_stamped-requires-clause-few
count_stamped-requires-clause-few c = λ p h. omega (arith, c.loop-i.invariant.2 p h, length-line_le p (changes_of c.args.self), c.requires)
