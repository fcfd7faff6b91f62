-- Going through n records of width w, from `at` on, by their chunks: after k of them the next chunk is record k, until all were there.
use Rattle.std.proofs.Common.{◌≡◌, ℕ, ◌+◌, ◌-◌, ◌*◌, ◌<◌, ◌≤◌, List, [], ◌∷◌, ◌++◌, length, take, drop, sym, ap, ◌∙◌, ⊎_elim, mul-zero, mul-add, arith, length-append, length-drop}
use Rattle.std.proofs.lemmas.Bool.{cases_lt}
use Rattle.std.proofs.lemmas.List.{length-take-le, length_push, take_at, drop_at, drop-take, drop-drop, take-take}
use Rattle.std.specs.Slice.Iter.{chunks_exact_remainder, chunks_exact_rest, chunks_exact_size}
use Rattle.std.specs.declared.slice.ChunksExact.{ChunksExact}
use Rattle.change.proofs.Rows.{record_inside}

-- what is left of them
abbrev pub Left : ℕ → ℕ → ℕ → List ℕ → ChunksExact ℕ → ℕ → Type 0
Left w n at xs it k = (chunks_exact_size it ≡ w) × (chunks_exact_rest it ≡ drop (w * k) (take (w * n) (drop at xs)))

-- a chunk came
abbrev pub Came : ChunksExact ℕ → List ℕ → ChunksExact ℕ → Type 0
Came it row next =
    (chunks_exact_size next ≡ chunks_exact_size it)
    × ((chunks_exact_rest it ≡ row ++ chunks_exact_rest next) × (length row ≡ chunks_exact_size it))
    × (chunks_exact_remainder next ≡ chunks_exact_remainder it)

-- at the beginning all of them
pub left_all : (w n at : ℕ) (xs : List ℕ) (it made : ChunksExact ℕ) → it ≡ made → chunks_exact_size made ≡ w → chunks_exact_rest made ≡ take (w * n) (drop at xs) → Left w n at xs it 0
left_all w n at xs it made e size rest = (
  ap chunks_exact_size e ∙ size,
  ap chunks_exact_rest e ∙ (rest ∙ ap (λ u. drop u (take (w * n) (drop at xs))) (sym (mul-zero w))),
)

module _ (w n at k : ℕ) (xs : List ℕ) (some : 0 < w) (long : at + w * n ≤ length xs) (it : ChunksExact ℕ) (here : Left w n at xs it k) where
  abbrev left : List ℕ
  left = chunks_exact_rest it

  count_left : length left ≡ w * n - w * k
  count_left = ap length here.1 ∙ (length-drop (w * k) (take (w * n) (drop at xs)) ∙ ap (λ l. l - w * k) (length-take-le (w * n) (drop at xs) (omega (arith, length-drop at xs))))

  module _ (row : List ℕ) (next : ChunksExact ℕ) (came : Came it row next) where
    abbrev more : List ℕ
    more = chunks_exact_rest next

    is : left ≡ row ++ more
    is = came.1.0

    wide : length row ≡ w
    wide = came.1.1 ∙ here.0

    pub chunk_inside : k < n
    chunk_inside = ⊎_elim (λ lt. lt) (λ le. absurd (omega (arith, at_most le, count_left, ap length is, length-append row more))) (cases_lt k n)
      where
        at_most : n ≤ k → w * n ≤ w * k
        at_most le = let e : k ≡ n + (k - n) = omega arith in omega (arith, ap (λ u. w * u) e, mul-add w n (k - n))

    pub chunk_row : row ≡ take w (drop (at + w * k) xs)
    chunk_row =
        let r : w * k + w ≤ w * n = record_inside w n k chunk_inside in
        let e : w * n ≡ w * k + (w * n - w * k) = omega arith in
        sym (take_at row more w wide)
        ∙ (ap (take w) (sym is ∙ (here.1 ∙ (ap (λ u. drop (w * k) (take u (drop at xs))) e ∙ drop-take (w * k) (w * n - w * k) (drop at xs))))
        ∙ (take-take w (w * n - w * k) (drop (w * k) (drop at xs)) (omega arith) ∙ ap (take w) (drop-drop (w * k) at xs)))

    pub chunk_more : {A : Type 0} (gone : List A) (x : A) → k ≡ length gone → Left w n at xs next (length (gone ++ x ∷ []))
    chunk_more gone x e = (came.0 ∙ here.0, later ∙ ap (λ u. drop (w * u) (take (w * n) (drop at xs))) (omega (arith, length_push gone x, e)))
      where
        later : more ≡ drop (w * (k + 1)) (take (w * n) (drop at xs))
        later = sym (drop_at row more w wide) ∙ (ap (drop w) (sym is ∙ here.1) ∙ (drop-drop w (w * k) (take (w * n) (drop at xs)) ∙ ap (λ u. drop u (take (w * n) (drop at xs))) (omega (arith, mul-add w k 1))))

  pub chunk_none : length left < chunks_exact_size it → n ≤ k
  chunk_none lt = ⊎_elim (λ more. absurd (omega (arith, record_inside w n k more, count_left, here.0))) (λ le. le) (cases_lt k n)
