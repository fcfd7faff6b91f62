use Rattle.std.proofs.Common.{◌≡◌, ℕ, ◌+◌, ◌≤◌, List, length, take, drop, set, sym, ◌∙◌, arith, length-drop, length-set}
use Rattle.std.proofs.lemmas.List.{length-take-le}
use Rattle.change.specs.Change.{most_parts}
use Rattle.change.proofs.Tidied.{used_part, unused_part, part_is, part_written, record_tidied}
use Rattle.change.proofs.records.tidy_change.Goals as goal
use Rattle.change.proofs.records.tidy_change.Goals.{then-j-count, else-j-count}

pub loop-j-preserved : goal.loop-j-preserved
loop-j-preserved c =
    let e : List ℕ = set c.args.row.now 1 c.min-count.result in
    let l : length e ≡ 10 = length-set c.args.row.now 1 c.min-count.result ∙ c.requires in
    let two : length (take 2 e) ≡ 2 = length-take-le 2 e (omega arith) in
    let eight : length (drop 2 e) ≡ most_parts = omega (arith, length-drop 2 e) in
    let few : c.min-count.result ≤ most_parts = omega (arith, c.min-count.ensures) in
    let j : ℕ = c.loop-j.j in (
      elim c.if-j-count.branch [
        | then-j-count w ↦ part_written (take 2 e) (drop 2 e) c.min-count.result j two eight few c.loop-j-test.true c.loop-j.row c.if-j-count.row c.loop-j.invariant.0
            (w.row-is ∙ (part_is (take 2 e) (drop 2 e) c.min-count.result j two eight few c.loop-j-test.true c.loop-j.row c.loop-j.invariant.0
            ∙ sym (used_part (take 2 e) (drop 2 e) c.min-count.result j two eight few c.loop-j-test.true w.if-j-count.true)))
        | else-j-count w ↦ part_written (take 2 e) (drop 2 e) c.min-count.result j two eight few c.loop-j-test.true c.loop-j.row c.if-j-count.row c.loop-j.invariant.0
            (w.row-is ∙ sym (unused_part (take 2 e) (drop 2 e) c.min-count.result j two eight few c.loop-j-test.true w.if-j-count.false))
      ],
      length-set c.loop-j.row (2 + j) c.if-j-count.row ∙ c.loop-j.invariant.1,
    )

pub returns : goal.returns
returns c = record_tidied c.args.row.now c.loop-j.row c.min-count.result c.loop-j.j c.requires c.min-count.ensures (omega arith) c.loop-j.invariant.0
