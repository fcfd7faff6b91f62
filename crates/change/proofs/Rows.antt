-- Laws of records read one after another, of numbers that are written over, and of numbers filled up with 0.
use Rattle.std.proofs.Common.{◌≡◌, ℕ, zero, suc, ◌+◌, ◌-◌, ◌*◌, ◌<◌, ◌≤◌, min, List, [], ◌∷◌, ◌++◌, length, get_or, take, drop, replicate, sym, refl, ap, ◌∙◌, ⊎_elim, add-zero, suc-add, mul-zero, zero-add, mul-suc, mul-add, arith, length-append, length-drop, take-append-drop}
use native.Mathlib.Nat.{sub-zero}
use borrow.Rule.Slice.PartMut.{put_mid}
use lib.ListN.{length-replicate}
use lib.Seq.{take-append-add, take-length}
use Rattle.std.proofs.lemmas.Bool.{cases_lt}
use Rattle.std.proofs.lemmas.List.{length-take-le, append_assoc, append-nil, drop_all, drop-replicate, take-append-le, take_at, drop_at, drop-take, drop-drop, drop-append-le, take-replicate}
use Rattle.change.specs.Records.{rows, row_out, written, fixed}

-- so many numbers and no more
pub length-fixed : (n : ℕ) (xs : List ℕ) → length (fixed n xs) ≡ n
unfolding fixed
length-fixed n xs = length-take-le n (xs ++ replicate n 0) (simp (length-append, length-replicate) (omega arith))

pub fixed_is : (n : ℕ) (xs : List ℕ) → length xs ≤ n → fixed n xs ≡ xs ++ replicate (n - length xs) 0
unfolding fixed
fixed_is n xs le =
    let m : n ≡ length xs + (n - length xs) = omega arith in
    ap (λ u. take u (xs ++ replicate n 0)) m ∙ (take-append-add xs (replicate n 0) (n - length xs) ∙ ap (λ l. xs ++ l) (take-replicate (n - length xs) n 0 (omega arith)))

pub take-fixed : (n : ℕ) (xs : List ℕ) → length xs ≤ n → take (length xs) (fixed n xs) ≡ xs
take-fixed n xs le = rw (fixed_is n xs le) (take_at xs _ _ refl)

-- as many as there is room for, and what is left of the 0 that stood there
pub fixed_over : (n : ℕ) (xs : List ℕ) → fixed n xs ≡ take (min (length xs) n) xs ++ drop (min (length xs) n) (replicate n 0)
unfolding fixed
fixed_over n xs = ⊎_elim many few (cases_lt n (length xs))
  where
    few : length xs ≤ n → take n (xs ++ replicate n 0) ≡ take (min (length xs) n) xs ++ drop (min (length xs) n) (replicate n 0)
    few le =
        let m : min (length xs) n ≡ length xs = omega arith in
        let k : n ≡ length xs + (n - length xs) = omega arith in
        let a : take n (xs ++ replicate n 0) ≡ xs ++ replicate (n - length xs) 0 = fixed_is n xs le in
        a ∙ rw (m, take-length, drop-replicate)

    many : n < length xs → take n (xs ++ replicate n 0) ≡ take (min (length xs) n) xs ++ drop (min (length xs) n) (replicate n 0)
    many lt =
        let m : min (length xs) n ≡ n = omega arith in
        rw m (take-append-le n xs (replicate n 0) (omega arith) ∙ (sym (append-nil (take n xs)) ∙ ap (λ l. take n xs ++ l) (sym (drop_all n (replicate n 0) (omega (arith, length-replicate {A = ℕ} n 0))))))

module _ {A : Type 0} (f : List ℕ → A) (w : ℕ) where
  -- of n rows from base on, those from the i-th on
  abbrev pub rest : List ℕ → ℕ → ℕ → ℕ → List A
  rest xs base n i = rows f w (n - i) (drop (base + w * i) xs)

  pub rest_none : (xs : List ℕ) (base n : ℕ) → rest xs base n 0 ≡ rows f w n (drop base xs)
  rest_none xs base n = rw (sub-zero, mul-zero, add-zero)

  pub rest_more : (xs : List ℕ) (base n i : ℕ) → i < n → rest xs base n i ≡ f (drop (base + w * i) xs) ∷ rest xs base n (i + 1)
  rest_more xs base n i lt =
      let m : n - i ≡ suc (n - (i + 1)) = omega arith in
      let d : drop w (drop (base + w * i) xs) ≡ drop (base + w * (i + 1)) xs = drop-drop w (base + w * i) xs ∙ ap (λ u. drop u xs) (omega (arith, mul-add w i 1)) in
      rw (m, d)

  pub rest_all : (xs : List ℕ) (base n i : ℕ) → n ≤ i → rest xs base n i ≡ []
  rest_all xs base n i le = let m : n - i ≡ 0 = omega arith in rw m

-- the first m + n rows are the first m and then n more
pub rows_append : {A : Type 0} (f : List ℕ → A) (w m n : ℕ) (xs : List ℕ) → rows f w (m + n) xs ≡ rows f w m xs ++ rows f w n (drop (w * m) xs)
rows_append f w zero n xs = rw (zero-add, mul-zero)
rows_append f w (suc m) n xs =
    let d : drop (w * m) (drop w xs) ≡ drop (w * suc m) xs = drop-drop (w * m) w xs ∙ ap (λ u. drop u xs) (omega (arith, mul-suc w m)) in
    rw (suc-add) (ap (λ r. f xs ∷ r) (rows_append f w m n (drop w xs) ∙ rw d))

-- some rows are all but the last, and the last
pub rows_last : {A : Type 0} (f : List ℕ → A) (w n : ℕ) (xs : List ℕ) → 0 < n → rows f w n xs ≡ rows f w (n - 1) xs ++ f (drop (w * (n - 1)) xs) ∷ []
rows_last f w n xs some = let e : n ≡ n - 1 + 1 = omega arith in ap (λ u. rows f w u xs) e ∙ rows_append f w (n - 1) 1 xs

-- rows read by f depend on their numbers alone
abbrev pub Local : {A : Type 0} → (List ℕ → A) → ℕ → Type 0
Local f w = (xs ys : List ℕ) → w ≤ length xs → f (xs ++ ys) ≡ f xs

pub rows_local : {A : Type 0} (f : List ℕ → A) (w : ℕ) → Local f w → (n : ℕ) (xs ys : List ℕ) → w * n ≤ length xs → rows f w n (xs ++ ys) ≡ rows f w n xs
rows_local f w loc zero xs ys le = refl
rows_local f w loc (suc n) xs ys le =
    let m = mul-suc w n in
    let d : drop w (xs ++ ys) ≡ drop w xs ++ ys = drop-append-le w xs ys (omega arith) in
    let l : w * n ≤ length (drop w xs) = simp length-drop (omega arith) in
    let h : f (xs ++ ys) ≡ f xs = loc xs ys (omega arith) in
    rw (d, h) (ap (λ r. f xs ∷ r) (rows_local f w loc n (drop w xs) ys l))

-- n records are read from the front that holds them
pub rows_take : {A : Type 0} (f : List ℕ → A) (w : ℕ) → Local f w → (n k : ℕ) (xs : List ℕ) → w * n ≤ k → k ≤ length xs → rows f w n (take k xs) ≡ rows f w n xs
rows_take f w loc n k xs few le =
    sym (rows_local f w loc n (take k xs) (drop k xs) (omega (arith, length-take-le k xs le))) ∙ ap (rows f w n) (take-append-drop k xs)

pub length-rows : {A : Type 0} (f : List ℕ → A) (w n : ℕ) (xs : List ℕ) → length (rows f w n xs) ≡ n
length-rows f w zero xs = refl
length-rows f w (suc n) xs = ap suc (length-rows f w n (drop w xs))

-- the first rows of more of them
pub front_rows : {A : Type 0} (f : List ℕ → A) (w n i : ℕ) (xs : List ℕ) → i ≤ n → take i (rows f w n xs) ≡ rows f w i xs
front_rows f w n i xs le =
    let k : n ≡ i + (n - i) = omega arith in
    ap (λ u. take i (rows f w u xs)) k ∙ (ap (take i) (rows_append f w i (n - i) xs) ∙ take_at (rows f w i xs) (rows f w (n - i) (drop (w * i) xs)) i (length-rows f w i xs))

-- n rows are those before the i-th, the i-th, and those after it
pub rows_split : {A : Type 0} (f : List ℕ → A) (w n i : ℕ) (xs : List ℕ) → i < n →
    rows f w n xs ≡ rows f w i xs ++ f (drop (w * i) xs) ∷ rows f w (n - (i + 1)) (drop (w * (i + 1)) xs)
rows_split f w n i xs lt =
    let k : n ≡ i + suc (n - (i + 1)) = omega arith in
    let d : drop w (drop (w * i) xs) ≡ drop (w * (i + 1)) xs = drop-drop w (w * i) xs ∙ ap (λ u. drop u xs) (omega (arith, mul-add w i 1)) in
    ap (λ u. rows f w u xs) k ∙ (rows_append f w i (suc (n - (i + 1))) xs ∙ rw d)

-- two ways to read that agree on each of n records read the same
pub rows_same : {A : Type 0} (f g : List ℕ → A) (w n : ℕ) (xs : List ℕ) → ((k : ℕ) → k < n → f (drop (w * k) xs) ≡ g (drop (w * k) xs)) → rows f w n xs ≡ rows g w n xs
rows_same f g w zero xs same = refl
rows_same f g w (suc n) xs same =
    let first : f xs ≡ g xs = ap (λ u. f (drop u xs)) (sym (mul-zero w)) ∙ (same 0 (omega arith) ∙ ap (λ u. g (drop u xs)) (mul-zero w)) in
    let next : (k : ℕ) → drop (w * k) (drop w xs) ≡ drop (w * suc k) xs = λ k. drop-drop (w * k) w xs ∙ ap (λ u. drop u xs) (omega (arith, mul-suc w k)) in
    let rest = rows_same f g w n (drop w xs) (λ k lt. ap f (next k) ∙ (same (suc k) (omega arith) ∙ ap g (sym (next k)))) in
    λ i. first i ∷ rest i

-- record i of n ends before all do
pub record_inside : (w n i : ℕ) → i < n → w * i + w ≤ w * n
record_inside w n i lt =
    let k : n ≡ i + (1 + (n - (i + 1))) = omega arith in
    let m : w * n ≡ w * i + (w + w * (n - (i + 1))) = ap (λ u. w * u) k ∙ omega (arith, mul-add w i (1 + (n - (i + 1))), mul-add w 1 (n - (i + 1))) in
    omega arith

-- a part in the middle that is written over, of a list in three pieces
pub put_middle : (p q r zs : List ℕ) (a k : ℕ) → length p ≡ a → length q ≡ k → put_mid a k (p ++ (q ++ r)) zs ≡ p ++ (zs ++ r)
put_middle p q r zs a k e f =
    let t : take a (p ++ (q ++ r)) ≡ p = take_at p (q ++ r) a e in
    let u : drop a (p ++ (q ++ r)) ≡ q ++ r = drop_at p (q ++ r) a e in
    let v : drop k (q ++ r) ≡ r = drop_at q r k f in
    cc

-- a part that was lent on and written over as a whole
pub put_written : (a e : ℕ) (xs ys row : List ℕ) → ys ≡ row → e ≡ a + length row → put_mid a (e - a) xs ys ≡ written a row xs
put_written a e xs ys row f g =
    let d : drop (e - a) (drop a xs) ≡ drop (a + length row) xs = drop-drop (e - a) a xs ∙ ap (λ u. drop u xs) (omega arith) in
    rw (f, d)

-- the rows from the i-th on turned by one row, and then the last row 0
pub rows_turned : (w n i : ℕ) (xs ys zs : List ℕ) → i < n → w * n ≤ length xs →
    ys ≡ drop w (take (w * n - w * i) (drop (w * i) xs)) ++ take w (take (w * n - w * i) (drop (w * i) xs)) → zs ≡ replicate w 0 →
    put_mid (w * n - w) (w * n - (w * n - w)) (put_mid (w * i) (w * n - w * i) xs ys) zs ≡ row_out w n i xs
rows_turned w n i xs ys zs lt le e f =
    let m : ℕ = n - (i + 1) in
    let L : List ℕ = drop (w * i) xs in
    let k : n ≡ i + (m + 1) = omega arith in
    let whole : w * n ≡ w * i + (w * m + w) = ap (λ u. w * u) k ∙ omega (arith, mul-add w i (m + 1), mul-add w m 1) in
    let long : w * n - w * i ≡ w + w * m = omega arith in
    let next : w * i + w ≡ w * (i + 1) = omega (arith, mul-add w i 1) in
    let S : List ℕ = take (w * n - w * i) L in
    let T : List ℕ = drop (w * n - w * i) L in
    let lL : length L ≡ length xs - w * i = length-drop (w * i) xs in
    let lS : length S ≡ w * n - w * i = length-take-le (w * n - w * i) L (omega arith) in
    let lD : length (drop w S) ≡ w * m = length-drop w S ∙ omega arith in
    let lE : length (take w S) ≡ w * n - (w * n - w) = length-take-le w S (omega arith) ∙ omega arith in
    let lA : length (take (w * i) xs) ≡ w * i = length-take-le (w * i) xs (omega arith) in
    let lP : length (take (w * i) xs ++ drop w S) ≡ w * n - w = length-append (take (w * i) xs) (drop w S) ∙ omega arith in
    let D : drop w S ≡ take (w * m) (drop (w * (i + 1)) xs) = ap (λ u. drop w (take u L)) long ∙ (drop-take w (w * m) L ∙ ap (take (w * m)) (drop-drop w (w * i) xs ∙ ap (λ u. drop u xs) next)) in
    let tail : T ≡ drop (w * n) xs = drop-drop (w * n - w * i) (w * i) xs ∙ ap (λ u. drop u xs) (omega arith) in
    let r : take (w * i) xs ++ (ys ++ T) ≡ (take (w * i) xs ++ drop w S) ++ (take w S ++ T) = rw e (simp append_assoc) in
    rw r (put_middle (take (w * i) xs ++ drop w S) (take w S) T zs (w * n - w) (w * n - (w * n - w)) lP lE ∙ (append_assoc (take (w * i) xs) (drop w S) (zs ++ T) ∙ rw (D, f, tail)))

-- of n rows without the i-th, the first n - 1 say what the others said
pub rows_out : {A : Type 0} (f : List ℕ → A) (w : ℕ) → Local f w → (n i : ℕ) (xs : List ℕ) → i < n → w * n ≤ length xs →
    rows f w (n - 1) (row_out w n i xs) ≡ take i (rows f w n xs) ++ drop (i + 1) (rows f w n xs)
rows_out {A} f w loc n i xs lt le =
    let m : ℕ = n - (i + 1) in
    let k : n ≡ i + (m + 1) = omega arith in
    let k1 : n - 1 ≡ i + m = omega arith in
    let whole : w * n ≡ w * i + (w * m + w) = ap (λ u. w * u) k ∙ omega (arith, mul-add w i (m + 1), mul-add w m 1) in
    let next : w * (i + 1) ≡ w * i + w = omega (arith, mul-add w i 1) in
    let lA : length (take (w * i) xs) ≡ w * i = length-take-le (w * i) xs (omega arith) in
    let lL : length (drop (w * (i + 1)) xs) ≡ length xs - w * (i + 1) = length-drop (w * (i + 1)) xs in
    let lB : length (take (w * m) (drop (w * (i + 1)) xs)) ≡ w * m = length-take-le (w * m) (drop (w * (i + 1)) xs) (omega arith) in
    let Z : List ℕ = replicate w 0 ++ drop (w * n) xs in
    let BZ : List ℕ = take (w * m) (drop (w * (i + 1)) xs) ++ Z in
    let front : rows f w i (take (w * i) xs ++ BZ) ≡ rows f w i xs = rows_local f w loc i (take (w * i) xs) BZ (omega arith) ∙ rows_take f w loc i (w * i) xs (omega arith) (omega arith) in
    let back : rows f w m BZ ≡ rows f w m (drop (w * (i + 1)) xs) = rows_local f w loc m (take (w * m) (drop (w * (i + 1)) xs)) Z (omega arith) ∙ rows_take f w loc m (w * m) (drop (w * (i + 1)) xs) (omega arith) (omega arith) in
    let seam : drop (w * i) (take (w * i) xs ++ BZ) ≡ BZ = drop_at (take (w * i) xs) BZ (w * i) lA in
    let left : rows f w (n - 1) (row_out w n i xs) ≡ rows f w i xs ++ rows f w m (drop (w * (i + 1)) xs) =
    ap (λ u. rows f w u (row_out w n i xs)) k1 ∙ (rows_append f w i m (take (w * i) xs ++ BZ) ∙ rw (seam, front, back)) in
    let x : A = f (drop (w * i) xs) in
    let s : rows f w n xs ≡ rows f w i xs ++ x ∷ rows f w m (drop (w * (i + 1)) xs) = rows_split f w n i xs lt in
    let r = rows f w m (drop (w * (i + 1)) xs) in
    let t : take i (rows f w n xs) ≡ rows f w i xs = rw s (take_at (rows f w i xs) (x ∷ r) i (length-rows f w i xs)) in
    let d : drop (i + 1) (rows f w n xs) ≡ r = rw s (sym (drop-drop 1 i (rows f w i xs ++ x ∷ r)) ∙ ap (drop 1) (drop_at (rows f w i xs) (x ∷ r) i (length-rows f w i xs))) in
    left ∙ rw (t, d)

-- one row more
pub rows_written : {A : Type 0} (f : List ℕ → A) (w : ℕ) → Local f w → (n k : ℕ) (row xs : List ℕ) → length row ≡ w → k ≡ w * n → k + w ≤ length xs →
    rows f w (n + 1) (written k row xs) ≡ rows f w n xs ++ f row ∷ []
rows_written f w loc n k row xs long e le =
    let l = length-take-le k xs (omega arith) in
    let front : rows f w n (written k row xs) ≡ rows f w n xs = rows_local f w loc n (take k xs) (row ++ drop (k + length row) xs) (omega arith) ∙ rows_take f w loc n k xs (omega arith) (omega arith) in
    let d : drop (w * n) (written k row xs) ≡ row ++ drop (k + length row) xs = drop_at (take k xs) (row ++ drop (k + length row) xs) (w * n) (omega arith) in
    let h : f (row ++ drop (k + length row) xs) ≡ f row = loc row (drop (k + length row) xs) (omega arith) in
    rows_append f w n 1 (written k row xs) ∙ rw (front, d, h)

-- a row written over others, and one taken out, leave the length as it was
pub length-written : (at : ℕ) (row xs : List ℕ) → at + length row ≤ length xs → length (written at row xs) ≡ length xs
length-written at row xs fits =
    length-append (take at xs) (row ++ drop (at + length row) xs)
    ∙ omega (arith, length-take-le at xs (omega arith), length-append row (drop (at + length row) xs), length-drop (at + length row) xs)

pub length-row_out : (w n i : ℕ) (xs : List ℕ) → i < n → w * n ≤ length xs → length (row_out w n i xs) ≡ length xs
length-row_out w n i xs lt le =
    let m : ℕ = n - (i + 1) in
    let k : n ≡ i + (1 + m) = omega arith in
    let whole : w * n ≡ w * i + (w + w * m) = ap (λ u. w * u) k ∙ omega (arith, mul-add w i (1 + m), mul-add w 1 m) in
    let next : w * (i + 1) ≡ w * i + w = omega (arith, mul-add w i 1) in
    let B : List ℕ = take (w * m) (drop (w * (i + 1)) xs) in
    let Z : List ℕ = replicate w 0 ++ drop (w * n) xs in
    length-append (take (w * i) xs) (B ++ Z)
    ∙ omega (arith, length-take-le (w * i) xs (omega arith), length-append B Z, length-take-le (w * m) (drop (w * (i + 1)) xs) (omega (arith, length-drop (w * (i + 1)) xs)), length-append (replicate w 0) (drop (w * n) xs), length-replicate {A = ℕ} w 0, length-drop (w * n) xs)

-- an iterator over n rows that has given k gives the k-th
module _ {A : Type 0} (f : List ℕ → A) (w base n k : ℕ) (xs : List ℕ) (x : A) (more : List A) (is : rest f w xs base n k ≡ x ∷ more) where
  pub given_inside : k < n
  given_inside = ⊎_elim (λ lt. lt) (λ le. absurd (omega (arith, ap length (sym (rest_all f w xs base n k le) ∙ is)))) (cases_lt k n)

  split : f (drop (base + w * k) xs) ∷ rest f w xs base n (k + 1) ≡ x ∷ more
  split = sym (rest_more f w xs base n k given_inside) ∙ is

  pub given_is : x ≡ f (drop (base + w * k) xs)
  given_is = sym (ap (λ l. get_or l 0 x) split)

  pub given_more : more ≡ rest f w xs base n (k + 1)
  given_more = sym (ap (drop 1) split)
