-- The first of n records that passes a test, as `position` finds it.
use Rattle.std.proofs.Common.{◌≡◌, ℕ, zero, suc, ◌+◌, ◌*◌, ◌<◌, ◌≤◌, Bool, true, false, List, [], ◌∷◌, ◌++◌, length, get_or, take, drop, replicate, Some, None, Option, sym, refl, ap, ◌∙◌, subst, arith}
use Rattle.std.proofs.lemmas.List.{get_or-take, get_or-drop, length_push, length-replicate}
use Rattle.std.proofs.lemmas.Iterator.{YieldsList, IsFirst-from_position}
use Rattle.std.specs.Iterator.{AlwaysYields, YieldsThen}
use Rattle.std.specs.List.{AllWithin, HoldsAt, FoldsTo}
use Rattle.std.specs.Option.{MatchOption}
use Rattle.std.specs.Fn.{Called}
use Rattle.std.specs.Slice.Iter.{chunks_exact_rest, chunks_exact_size, chunks_exact_steps}
use Rattle.std.specs.declared.slice.ChunksExact.{ChunksExact}
use denote.Ref.{Bor}
use denote.Param.Members.{Mut}
use Rattle.change.proofs.Chunks.{Left, left_all, chunk_inside, chunk_row, chunk_none, chunk_more}

pub row_number : (w a f : ℕ) (xs : List ℕ) → f < w → get_or (take w (drop a xs)) f 0 ≡ get_or xs (a + f) 0
row_number w a f xs lt = get_or-take w (drop a xs) f 0 lt ∙ get_or-drop a xs f 0

module _ (w n at : ℕ) (xs : List ℕ) (some : 0 < w) (long : at + w * n ≤ length xs) where
  abbrev pub row : ℕ → List ℕ
  row k = take w (drop (at + w * k) xs)

  -- m of them, from the k-th on
  abbrev rows_from : ℕ → ℕ → List (List ℕ)
  rows_from zero k = []
  rows_from (suc m) k = row k ∷ rows_from m (suc k)

  length-rows_from : (m k : ℕ) → length (rows_from m k) ≡ m
  length-rows_from zero k = refl
  length-rows_from (suc m) k = ap suc (length-rows_from m (suc k))

  get_or-rows_from : (m k i : ℕ) (d : List ℕ) → i < m → get_or (rows_from m k) i d ≡ row (k + i)
  get_or-rows_from zero k i d lt = absurd (omega arith)
  get_or-rows_from (suc m) k zero d lt = ap row (omega arith)
  get_or-rows_from (suc m) k (suc i) d lt = get_or-rows_from m (suc k) i d (omega arith) ∙ ap row (omega arith)

  abbrev zeros : ℕ → List ℕ
  zeros k = replicate k 0

  one_more : (k : ℕ) → length (zeros k ++ 0 ∷ []) ≡ suc k
  one_more k = omega (arith, length_push (zeros k) 0, length-replicate {A = ℕ} k 0)

  yields : (m k : ℕ) (it : ChunksExact ℕ) → Left w n at xs it k → k + m ≡ n → AlwaysYields chunks_exact_steps (λ y. y.now) it (rows_from m k)
  yields zero k it here e = λ x j h. let lt : k < n = chunk_inside w n at k xs some long it here x.now j h in absurd (omega arith)
  yields (suc m) k it here e = (
    λ j h. let le : n ≤ k = chunk_none w n at k xs some long it here h.1.0 in absurd (omega arith),
    λ x j h. (
      chunk_row w n at k xs some long it here x.now j h,
      yields m (suc k) j (subst (λ u. Left w n at xs j u) (one_more k) (chunk_more w n at k xs some long it here x.now j h (zeros k) 0 (sym (length-replicate {A = ℕ} k 0)))) (omega arith),
    ),
  )

  module _ {F : Type 0} {g : Mut F (Bor (List ℕ) × Unit {0}) Bool} (it u : ChunksExact ℕ) (f : F) (size : chunks_exact_size it ≡ w) (rest : chunks_exact_rest it ≡ take (w * n) (drop at xs)) (Yes No : List ℕ → Type 0) where
    pub first_row : (r : Option ℕ)
        → (ys : List (Bor (List ℕ))) × (o : Option (Bor (List ℕ))) × (j : F) × YieldsThen chunks_exact_steps it ys o u × FoldsTo (λ p x q. Called g p (x, tt) false q) f ys j × MatchOption o (r ≡ None) (λ x. (r ≡ Some (length ys)) × ((h : F) × Called g j (x, tt) true h))
        → ((x : Bor (List ℕ)) (q : F) → Called g f (x, tt) true q → Yes x.now) → ((x : Bor (List ℕ)) (q : F) → Called g f (x, tt) false q → (q ≡ f) × No x.now)
        → MatchOption r ((k : ℕ) → k < n → No (row k)) (λ i. (i < n) × Yes (row i) × ((k : ℕ) → k < i → No (row k)))
    first_row r d ends goes = by r (IsFirst-from_position u f r Yes No d yielded ends goes)
      where
        all : List (List ℕ)
        all = rows_from n 0

        yielded : YieldsList chunks_exact_steps (λ y. y.now) it all
        yielded = record { runs = yields n 0 it (left_all w n at xs it it refl size rest) (omega arith) }

        many : length all ≡ n
        many = length-rows_from n 0

        at_row : (P : List ℕ → Type 0) (k : ℕ) → k < n → P (get_or all k []) → P (row k)
        at_row P k lt = let e : row (0 + k) ≡ row k = ap row (omega arith) in subst P (get_or-rows_from n 0 k [] lt ∙ e)

        by : (o : Option ℕ) → MatchOption o (AllWithin No all 0 (length all)) (λ i. (i < length all) × HoldsAt Yes all i × AllWithin No all 0 i)
            → MatchOption o ((k : ℕ) → k < n → No (row k)) (λ i. (i < n) × Yes (row i) × ((k : ℕ) → k < i → No (row k)))
        by None h = λ k lt. at_row No k lt (h k [] (omega arith) (omega (arith, many)))
        by (Some i) h = let inside : i < n = omega (arith, h.0, many) in (inside, at_row Yes i inside (h.1 []), λ k lt. at_row No k (omega arith) (h.2 k [] (omega arith) lt))
