use Rattle.std.proofs.Common.{◌≡◌, ℕ, ◌+◌, ◌-◌, ◌*◌, List, length, take, drop, replicate, ap, ◌∙◌, arith, rules}
use Rattle.std.proofs.lemmas.List.{length-take-le, length-drop}
use Rattle.change.specs.Records.{change_in, change_row, change_width}
use Rattle.change.proofs.Rows.{put_written}
use Rattle.change.proofs.ChangeLaws.{change_in_part, length-change_row}
use Rattle.change.proofs.Tables.{anew_more, anew_all}
use Rattle.change.proofs.records.tidy_changes.Goals as goal

pub loop-i-preserved : goal.loop-i-preserved
loop-i-preserved c =
    let ys : List ℕ = c.loop-i.section in
    let at : ℕ = change_width * c.loop-i.i in
    let row = c.tidy_change.ensures ∙ ap change_row (change_in_part ys at) in
    let l = length-change_row (change_in (drop at ys)) in (
      anew_more change_in change_row change_width length-change_row c.args.section.now c.loop-i.i ys _ (change_in (drop at ys)) c.loop-i.invariant.0 (λ i. change_in (drop at ys))
          (put_written at (at + change_width) ys c.tidy_change.new.row (change_row (change_in (drop at ys))) row (omega (arith, l))),
      search rules,
    )

pub returns : goal.returns
returns c =
    let k : c.loop-i.i ≡ c.args.n = omega arith in
    let inv = rw k at c.loop-i.invariant.0 in
    let l : length (take (length c.loop-i.section - 10 * c.args.n) (drop (10 * c.args.n) c.loop-i.section)) ≡ length c.loop-i.section - 10 * c.args.n =
    length-take-le _ _ (omega (arith, length-drop (10 * c.args.n) c.loop-i.section)) in
    anew_all change_in change_row 10 length-change_row c.args.section.now c.args.n (length c.loop-i.section - 10 * c.args.n) c.loop-i.section c.fill.new.self c.requires (omega arith) (omega arith) inv
    (c.fill.ensures.after (λ y e. e) ∙ ap (λ u. replicate u 0) l)
