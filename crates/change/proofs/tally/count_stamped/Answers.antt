use Rattle.std.proofs.Common.{◌≡◌, ℕ, ◌+◌, ◌<◌, true, false, cond, List, length, get_or, take, sym, refl, ap, ◌∙◌, ⊎_elim, arith, length-set}
use Rattle.std.proofs.lemmas.Bool.{cases_Bool}
use Rattle.change.specs.Change.{has}
use Rattle.change.proofs.Seen.{seen_same, seen_other, count_step, stamp_step}
use Rattle.change.proofs.tally.count_stamped.Goals as goal
use Rattle.change.proofs.tally.count_stamped.Goals.{then-part-lt-PART_LIMIT+then-stamps-part, else-part-lt-PART_LIMIT, else-part-lt-PART_LIMIT-via-then-part-lt-PART_LIMIT+else-stamps-part, else-part-lt-PART_LIMIT-via-else-part-lt-PART_LIMIT}

pub loop-part-preserved : goal.loop-part-preserved
loop-part-preserved c =
    let ps : List ℕ = c.touched-part-items.result.now in
    let i : ℕ = c.loop-part.part-index in
    let q : ℕ = get_or ps i 0 in
    let lt : i < length ps = c.loop-part-test.true in
    elim c.if-part-lt-PART_LIMIT.branch [
      | then-part-lt-PART_LIMIT+then-stamps-part w ↦
          let lq : q < 64 = w.if-part-lt-PART_LIMIT.true in
          let new : has (take i ps) q ≡ false = ⊎_elim
          (λ e. absurd (w.if-stamps-part.true (c.loop-part.invariant.1 q lq ∙ ap (λ b. cond b c.args.stamp (get_or c.args.stamps.now q 0)) e)))
          (λ e. e) (cases_Bool (has (take i ps) q)) in (
            λ p h. ap (λ l. get_or l p 0) w.counts-is ∙ count_step ps i q lt refl c.loop-part.counts c.args.counts.now p (omega (arith, c.loop-part.invariant.2, lq)) new (c.loop-part.invariant.0 p h),
            λ p h. ap (λ l. get_or l p 0) w.stamps-is ∙ stamp_step ps i q lt refl c.loop-part.stamps c.args.stamps.now c.args.stamp p (omega (arith, c.loop-part.invariant.3, lq)) (c.loop-part.invariant.1 p h),
            ap length w.counts-is ∙ (length-set c.loop-part.counts q (get_or c.loop-part.counts q 0 + 1) ∙ c.loop-part.invariant.2),
            ap length w.stamps-is ∙ (length-set c.loop-part.stamps q c.args.stamp ∙ c.loop-part.invariant.3),
          )
      | else-part-lt-PART_LIMIT w ↦ elim w.else-part-lt-PART_LIMIT.branch [
        | else-part-lt-PART_LIMIT-via-then-part-lt-PART_LIMIT+else-stamps-part w' ↦
            let lq : q < 64 = w'.if-part-lt-PART_LIMIT.true in
            let old : has (take i ps) q ≡ true = ⊎_elim (λ e. e)
            (λ e. let z = c.loop-part.invariant.1 q lq ∙ ap (λ b. cond b c.args.stamp (get_or c.args.stamps.now q 0)) e in absurd (omega (arith, z, c.requires.new q lq, w'.if-stamps-part.false)))
            (cases_Bool (has (take i ps) q)) in (
              λ p h. ap (λ l. get_or l p 0) w.counts-is ∙ (c.loop-part.invariant.0 p h ∙ ap (λ b. get_or c.args.counts.now p 0 + cond b 1 0) (sym (seen_same ps i q lt refl p old))),
              λ p h. ap (λ l. get_or l p 0) w.stamps-is ∙ (c.loop-part.invariant.1 p h ∙ ap (λ b. cond b c.args.stamp (get_or c.args.stamps.now p 0)) (sym (seen_same ps i q lt refl p old))),
              ap length w.counts-is ∙ c.loop-part.invariant.2,
              ap length w.stamps-is ∙ c.loop-part.invariant.3,
            )
        | else-part-lt-PART_LIMIT-via-else-part-lt-PART_LIMIT w' ↦
            let other : (p : ℕ) → p < 64 → has (take (i + 1) ps) p ≡ has (take i ps) p = λ p h. seen_other ps i q lt refl p (λ e. omega (arith, e, h, w'.if-part-lt-PART_LIMIT.false)) in (
              λ p h. ap (λ l. get_or l p 0) w.counts-is ∙ (c.loop-part.invariant.0 p h ∙ ap (λ b. get_or c.args.counts.now p 0 + cond b 1 0) (sym (other p h))),
              λ p h. ap (λ l. get_or l p 0) w.stamps-is ∙ (c.loop-part.invariant.1 p h ∙ ap (λ b. cond b c.args.stamp (get_or c.args.stamps.now p 0)) (sym (other p h))),
              ap length w.counts-is ∙ c.loop-part.invariant.2,
              ap length w.stamps-is ∙ c.loop-part.invariant.3,
            )
      ]
    ]
