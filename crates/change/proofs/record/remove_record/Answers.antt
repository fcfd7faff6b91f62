use Rattle.std.proofs.Common.{◌≡◌, ℕ, ◌-◌, ◌*◌, List, length, take, drop, replicate, ap, ◌∙◌, arith}
use borrow.Rule.Slice.PartMut.{put_mid, same_len_mid}
use Rattle.std.proofs.lemmas.List.{length-take-le, length-drop}
use Rattle.change.proofs.Rows.{record_inside, rows_turned}
use Rattle.change.proofs.record.remove_record.Goals as goal

pub returns : goal.returns
returns c =
    let w : ℕ = c.args.width in
    let n : ℕ = c.args.n in
    let i : ℕ = c.args.i in
    let xs : List ℕ = c.args.section.now in
    let inside = record_inside w n i c.requires.there in
    let ys : List ℕ = put_mid (w * i) (w * n - w * i) xs c.rotate_left.new.self in
    let long : length ys ≡ length xs = same_len_mid (w * i) (w * n - w * i) xs c.rotate_left.new.self c.rotate_left.ensures.len in
    let l : length (take (w * n - (w * n - w)) (drop (w * n - w) ys)) ≡ w = length-take-le (w * n - (w * n - w)) (drop (w * n - w) ys) (omega (arith, length-drop (w * n - w) ys, c.requires.within)) ∙ omega arith in
    let z : c.fill.new.self ≡ replicate w 0 = c.fill.ensures.after (λ y e. e) ∙ ap (λ k. replicate k 0) l in
    rows_turned w n i xs c.rotate_left.new.self c.fill.new.self c.requires.there c.requires.within c.rotate_left.ensures.after z
