-- A list that is padded with 0 to a fixed length, one element after another. Assumes nothing.
use Rattle.std.proofs.Common.{◌≡◌, ℕ, suc, ◌+◌, ◌-◌, ◌<◌, min, List, [], ◌∷◌, ◌++◌, length, get_or, take, set, replicate, sym, ap, ◌∙◌, ⊎_elim, append_assoc, append-nil, arith}
use Rattle.std.proofs.lemmas.List.{set_at, take_all, take_more, length-take-le, take-append-le}
use Rattle.std.proofs.str.Laws.{order}
use Rattle.change.specs.Records.{fixed}
use Rattle.change.proofs.Rows.{fixed_is}

pub pad_next : (n i : ℕ) (xs : List ℕ) → i < n → i < length xs → set (take i xs ++ replicate (n - i) 0) i (get_or xs i 0) ≡ take (i + 1) xs ++ replicate (n - (i + 1)) 0
pad_next n i xs in-n in-xs =
    let x = get_or xs i 0 in
    let k : n - i ≡ suc (n - (i + 1)) = omega arith in
    let long : length (take i xs) ≡ i = length-take-le i xs (omega arith) in
    ap (λ m. set (take i xs ++ replicate m 0) i x) k
    ∙ set_at (take i xs) 0 (replicate (n - (i + 1)) 0) x i long
    ∙ sym (ap (λ l. l ++ replicate (n - (i + 1)) 0) (take_more xs i 0 in-xs) ∙ append_assoc (take i xs) (x ∷ []) (replicate (n - (i + 1)) 0))

pub pad_all : (n m : ℕ) (xs : List ℕ) → m ≡ min (length xs) n → take m xs ++ replicate (n - m) 0 ≡ fixed n xs
unfolding fixed
pad_all n m xs e =
    ⊎_elim
    (λ lt. let k : m ≡ length xs = omega arith in
    ap (λ i. take i xs ++ replicate (n - i) 0) k ∙ ap (λ l. l ++ replicate (n - length xs) 0) (take_all (length xs) xs (omega arith)) ∙ sym (fixed_is n xs (omega arith)))
    (λ le. let k : m ≡ n = omega arith in let z : n - n ≡ 0 = omega arith in
    ap (λ i. take i xs ++ replicate (n - i) 0) k ∙ ap (λ i. take n xs ++ replicate i 0) z ∙ append-nil (take n xs) ∙ sym (take-append-le n xs (replicate n 0) le))
    (order (length xs) n)
