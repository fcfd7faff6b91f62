use Rattle.std.proofs.Common.{◌≡◌, ℕ, List, [], ◌∷◌, ◌++◌, length, set, ap, ◌∙◌, arith}
use Rattle.std.proofs.lemmas.List.{drop_all, append-nil}
use borrow.Rule.Slice.PartMut.{put_mid}
use Rattle.run.proofs.records.RunRecord.write.Goals as goal

-- a record whose first three places are set and whose others are written over
row_written : (xs ys : List ℕ) (a b d : ℕ) → length xs ≡ 19 → put_mid 3 16 (set (set (set xs 0 a) 1 b) 2 d) ys ≡ a ∷ b ∷ d ∷ ys
row_written [] ys a b d e = absurd (omega arith)
row_written (x ∷ []) ys a b d e = absurd (omega arith)
row_written (x ∷ y ∷ []) ys a b d e = absurd (omega arith)
row_written (x ∷ y ∷ z ∷ xs) ys a b d e = ap (λ zs. a ∷ b ∷ d ∷ zs) (ap (λ zs. ys ++ zs) (drop_all 16 xs (omega arith)) ∙ append-nil ys)

pub returns : goal.returns
returns c =
    let r = c.args.self in
    let w = row_written c.args.over.now c.copy_from_slice.new.self r.part r.begins r.follows c.requires in
    cc
