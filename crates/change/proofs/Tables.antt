-- Laws of a section that holds a record for each element of a list, and 0 behind them.
use Rattle.std.proofs.Common.{◌≡◌, ℕ, ◌+◌, ◌-◌, ◌*◌, ◌<◌, ◌≤◌, List, [], ◌∷◌, ◌++◌, length, get_or, take, drop, replicate, sym, refl, ap, ◌∙◌, mul-zero, mul-suc, mul-add, arith, length-append, length-drop, take-append-drop}
use native.Mathlib.Nat.{sub-zero}
use lib.ListN.{length-replicate}
use Rattle.std.proofs.lemmas.List.{append_assoc, append-nil, take_at, drop_at, drop-drop, drop-replicate, replicate-append-replicate, length-take-le, drop_more, length_push, get_or_at}
use Rattle.std.specs.List.{AllByRecursion, flat_map}
use Rattle.change.proofs.Rows.{rows_split, length-rows, rows_append, put_middle}
use borrow.Rule.Slice.PartMut.{put_mid}
use Rattle.change.specs.Records.{table, written, row_out, rows}

-- a section that holds nothing is 0 everywhere
pub table_none : {A : Type 0} (row : A → List ℕ) (n : ℕ) → table row n [] ≡ replicate n 0
unfolding table
table_none row n = ap (λ u. replicate u 0) (sub-zero n)

module _ {A : Type 0} (row : A → List ℕ) where
  pub joined-append : (xs ys : List A) → flat_map row (xs ++ ys) ≡ flat_map row xs ++ flat_map row ys
  joined-append [] ys = refl
  joined-append (x ∷ xs) ys = ap (λ l. row x ++ l) (joined-append xs ys) ∙ sym (append_assoc (row x) (flat_map row xs) (flat_map row ys))

  pub joined_push : (xs : List A) (x : A) → flat_map row (xs ++ x ∷ []) ≡ flat_map row xs ++ row x
  joined_push xs x = joined-append xs (x ∷ []) ∙ ap (λ l. flat_map row xs ++ l) (append-nil (row x))

module _ {A : Type 0} (row : A → List ℕ) (w : ℕ) (len : (x : A) → length (row x) ≡ w) where
  pub length-joined : (xs : List A) → length (flat_map row xs) ≡ w * length xs
  length-joined [] = sym (mul-zero w)
  length-joined (x ∷ xs) = length-append (row x) (flat_map row xs) ∙ omega (arith, len x, length-joined xs, mul-suc w (length xs))

  -- a section by how long it is
  pub table_is : (n k : ℕ) (xs : List A) → k ≡ w * length xs → table row n xs ≡ flat_map row xs ++ replicate (n - k) 0
  unfolding table
  table_is n k xs e = ap (λ u. flat_map row xs ++ replicate (n - u) 0) (length-joined xs ∙ sym e)

  pub length-table : (n : ℕ) (xs : List A) → w * length xs ≤ n → length (table row n xs) ≡ n
  length-table n xs le =
      ap length (table_is n (w * length xs) xs refl) ∙ (length-append (flat_map row xs) (replicate (n - w * length xs) 0) ∙ omega (arith, length-joined xs, length-replicate {A = ℕ} (n - w * length xs) 0))

  -- one more row
  pub table_push : (n k : ℕ) (xs : List A) (x : A) → k ≡ w * length xs → k + w ≤ n → written k (row x) (table row n xs) ≡ table row n (xs ++ x ∷ [])
  table_push n k xs x e le =
      let J : List ℕ = flat_map row xs in
      let Z : List ℕ = replicate (n - k) 0 in
      let l : length J ≡ k = length-joined xs ∙ sym e in
      let t : take k (J ++ Z) ≡ J = take_at J Z k l in
      let d : drop (k + length (row x)) (J ++ Z) ≡ replicate (n - (k + w)) 0 =
      sym (drop-drop (length (row x)) k (J ++ Z)) ∙ (ap (drop (length (row x))) (drop_at J Z k l) ∙ (drop-replicate (length (row x)) (n - k) 0 ∙ ap (λ u. replicate u 0) (omega (arith, len x)))) in
      let m : k + w ≡ w * length (xs ++ x ∷ []) = omega (arith, ap (λ u. w * u) (length_push xs x), mul-add w (length xs) 1) in
      ap (written k (row x)) (table_is n k xs e)
      ∙ (ap (λ a. a ++ (row x ++ drop (k + length (row x)) (J ++ Z))) t
      ∙ (ap (λ b. J ++ (row x ++ b)) d
      ∙ (sym (append_assoc J (row x) (replicate (n - (k + w)) 0))
      ∙ (ap (λ b. b ++ replicate (n - (k + w)) 0) (sym (joined_push row xs x)) ∙ sym (table_is n (k + w) (xs ++ x ∷ []) m)))))

  -- the rows before, the row, and the rows after
  pub joined_split : (xs : List A) (i : ℕ) (d : A) → i < length xs → flat_map row xs ≡ flat_map row (take i xs) ++ (row (get_or xs i d) ++ flat_map row (drop (i + 1) xs))
  joined_split xs i d lt =
      ap (flat_map row) (sym (take-append-drop i xs)) ∙ (joined-append row (take i xs) (drop i xs) ∙ ap (λ l. flat_map row (take i xs) ++ flat_map row l) (drop_more xs i d lt))

  -- a row taken out
  pub table_out : (n i : ℕ) (xs : List A) (d : A) → i < length xs → w * length xs ≤ n → row_out w (length xs) i (table row n xs) ≡ table row n (take i xs ++ drop (i + 1) xs)
  table_out n i xs d lt le =
      let m : ℕ = length xs - (i + 1) in
      let F : List ℕ = flat_map row (take i xs) in
      let r : List ℕ = row (get_or xs i d) in
      let B : List ℕ = flat_map row (drop (i + 1) xs) in
      let Z : List ℕ = replicate (n - w * length xs) 0 in
      let lF : length F ≡ w * i = length-joined (take i xs) ∙ ap (λ u. w * u) (length-take-le i xs (omega arith)) in
      let lB : length B ≡ w * m = length-joined (drop (i + 1) xs) ∙ ap (λ u. w * u) (length-drop (i + 1) xs) in
      let k : length xs ≡ i + (m + 1) = omega arith in
      let whole : w * length xs ≡ w * i + (w * m + w) = ap (λ u. w * u) k ∙ omega (arith, mul-add w i (m + 1), mul-add w m 1) in
      let next : w * (i + 1) ≡ w * i + w = omega (arith, mul-add w i 1) in
      let s : table row n xs ≡ F ++ (r ++ (B ++ Z)) = table_is n (w * length xs) xs refl ∙ (ap (λ j. j ++ Z) (joined_split xs i d lt) ∙ (append_assoc F (r ++ B) Z ∙ ap (λ b. F ++ b) (append_assoc r B Z))) in
      let a : take (w * i) (F ++ (r ++ (B ++ Z))) ≡ F = take_at F (r ++ (B ++ Z)) (w * i) lF in
      let g : F ++ (r ++ (B ++ Z)) ≡ (F ++ r) ++ (B ++ Z) = sym (append_assoc F r (B ++ Z)) in
      let b : drop (w * (i + 1)) (F ++ (r ++ (B ++ Z))) ≡ B ++ Z = ap (drop (w * (i + 1))) g ∙ drop_at (F ++ r) (B ++ Z) (w * (i + 1)) (length-append F r ∙ omega (arith, len (get_or xs i d))) in
      let t : take (w * m) (B ++ Z) ≡ B = take_at B Z (w * m) lB in
      let h : F ++ (r ++ (B ++ Z)) ≡ (F ++ (r ++ B)) ++ Z = sym (append_assoc F (r ++ B) Z ∙ ap (λ l. F ++ l) (append_assoc r B Z)) in
      let e : drop (w * length xs) (F ++ (r ++ (B ++ Z))) ≡ Z =
      ap (drop (w * length xs)) h ∙ drop_at (F ++ (r ++ B)) Z (w * length xs) (length-append F (r ++ B) ∙ omega (arith, length-append r B, len (get_or xs i d))) in
      let kk : ℕ = w * i + w * m in
      let z : replicate w 0 ++ Z ≡ replicate (n - kk) 0 = replicate-append-replicate w (n - w * length xs) 0 ∙ ap (λ u. replicate u 0) (omega arith) in
      let rest : List A = take i xs ++ drop (i + 1) xs in
      let lr : length rest ≡ i + m = length-append (take i xs) (drop (i + 1) xs) ∙ omega (arith, length-take-le i xs (omega arith), length-drop (i + 1) xs) in
      let f : table row n rest ≡ (F ++ B) ++ replicate (n - kk) 0 = table_is n kk rest (omega (arith, ap (λ u. w * u) lr, mul-add w i m)) ∙ ap (λ j. j ++ replicate (n - kk) 0) (joined-append row (take i xs) (drop (i + 1) xs)) in
      ap (row_out w (length xs) i) s ∙ (rw (a, b, t, e, z) (sym (append_assoc F B (replicate (n - kk) 0))) ∙ sym f)

-- what is read from the rows of a list is the list
pub rows-joined : {A : Type 0} (f : List ℕ → A) (row : A → List ℕ) (w : ℕ) (P : A → Type 0) → ((x : A) → length (row x) ≡ w) → ((x : A) (ys : List ℕ) → P x → f (row x ++ ys) ≡ x) →
    (xs : List A) (ys : List ℕ) → AllByRecursion P xs → rows f w (length xs) (flat_map row xs ++ ys) ≡ xs
rows-joined f row w P len reads [] ys all = refl
rows-joined f row w P len reads (x ∷ xs) ys all =
    let a = append_assoc (row x) (flat_map row xs) ys in
    let h : f ((row x ++ flat_map row xs) ++ ys) ≡ x = ap f a ∙ reads x (flat_map row xs ++ ys) all.0 in
    let d : drop w ((row x ++ flat_map row xs) ++ ys) ≡ flat_map row xs ++ ys = ap (drop w) a ∙ drop_at (row x) (flat_map row xs ++ ys) w (len x) in
    rw (h, d) (ap (λ l. x ∷ l) (rows-joined f row w P len reads xs ys all.1))

pub rows-table : {A : Type 0} (f : List ℕ → A) (row : A → List ℕ) (w : ℕ) (P : A → Type 0) → ((x : A) → length (row x) ≡ w) → ((x : A) (ys : List ℕ) → P x → f (row x ++ ys) ≡ x) →
    (n : ℕ) (xs : List A) → AllByRecursion P xs → rows f w (length xs) (table row n xs) ≡ xs
rows-table f row w P len reads n xs all = ap (rows f w (length xs)) (table_is row w len n (w * length xs) xs refl) ∙ rows-joined f row w P len reads xs (replicate (n - w * length xs) 0) all

pub get_d_rows : {A : Type 0} (f : List ℕ → A) (w n i : ℕ) (xs : List ℕ) (d : A) → i < n → get_or (rows f w n xs) i d ≡ f (drop (w * i) xs)
get_d_rows f w n i xs d lt = ap (λ l. get_or l i d) (rows_split f w n i xs lt) ∙ get_or_at (rows f w i xs) (f (drop (w * i) xs)) (rows f w (n - (i + 1)) (drop (w * (i + 1)) xs)) d i (length-rows f w i xs)

-- a section whose records are written anew, one after another
module _ {A : Type 0} (f : List ℕ → A) (row : A → List ℕ) (w : ℕ) (len : (x : A) → length (row x) ≡ w) (xs : List ℕ) where
  long_front : (i : ℕ) → length (flat_map row (rows f w i xs)) ≡ w * i
  long_front i = length-joined row w len (rows f w i xs) ∙ ap (λ u. w * u) (length-rows f w i xs)

  pub anew_at : (i : ℕ) (ys : List ℕ) → ys ≡ flat_map row (rows f w i xs) ++ drop (w * i) xs → drop (w * i) ys ≡ drop (w * i) xs
  anew_at i ys e = ap (drop (w * i)) e ∙ drop_at (flat_map row (rows f w i xs)) (drop (w * i) xs) (w * i) (long_front i)

  pub anew_more : (i : ℕ) (ys zs : List ℕ) (x : A) → ys ≡ flat_map row (rows f w i xs) ++ drop (w * i) xs → x ≡ f (drop (w * i) ys) → zs ≡ written (w * i) (row x) ys →
      zs ≡ flat_map row (rows f w (i + 1) xs) ++ drop (w * (i + 1)) xs
  anew_more i ys zs x e g h =
      let J : List ℕ = flat_map row (rows f w i xs) in
      let D : List ℕ = drop (w * i) xs in
      let l : length J ≡ w * i = long_front i in
      let k : x ≡ f D = g ∙ ap f (anew_at i ys e) in
      let t : take (w * i) (J ++ D) ≡ J = take_at J D (w * i) l in
      let d : drop (w * i + length (row x)) (J ++ D) ≡ drop (w * (i + 1)) xs =
      sym (drop-drop (length (row x)) (w * i) (J ++ D)) ∙ (ap (drop (length (row x))) (drop_at J D (w * i) l) ∙ (drop-drop (length (row x)) (w * i) xs ∙ ap (λ u. drop u xs) (omega (arith, len x, mul-add w i 1)))) in
      let j : flat_map row (rows f w (i + 1) xs) ≡ J ++ row (f D) = ap (flat_map row) (rows_append f w i 1 xs) ∙ joined_push row (rows f w i xs) (f D) in
      h ∙ (ap (written (w * i) (row x)) e
      ∙ (ap (λ a. a ++ (row x ++ drop (w * i + length (row x)) (J ++ D))) t
      ∙ (ap (λ b. J ++ (row x ++ b)) d
      ∙ (sym (append_assoc J (row x) (drop (w * (i + 1)) xs))
      ∙ (ap (λ y. (J ++ row y) ++ drop (w * (i + 1)) xs) k ∙ ap (λ b. b ++ drop (w * (i + 1)) xs) (sym j))))))

  pub anew_all : (n m : ℕ) (ys zs : List ℕ) → w * n ≤ length xs → length ys ≡ length xs → m ≡ length xs - w * n → ys ≡ flat_map row (rows f w n xs) ++ drop (w * n) xs → zs ≡ replicate m 0 →
      put_mid (w * n) m ys zs ≡ table row (length xs) (rows f w n xs)
  anew_all n m ys zs le q k e z =
      let J : List ℕ = flat_map row (rows f w n xs) in
      let D : List ℕ = drop (w * n) xs in
      let lD : length D ≡ m = length-drop (w * n) xs ∙ sym k in
      let s : ys ≡ J ++ (D ++ []) = e ∙ ap (λ b. J ++ b) (sym (append-nil D)) in
      ap (λ l. put_mid (w * n) m l zs) s ∙ (put_middle J D [] zs (w * n) m (long_front n) lD
      ∙ (ap (λ b. J ++ b) (append-nil zs ∙ (z ∙ ap (λ u. replicate u 0) k)) ∙ sym (table_is row w len (length xs) (w * n) (rows f w n xs) (ap (λ u. w * u) (sym (length-rows f w n xs))))))
