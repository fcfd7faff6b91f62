-- Laws of changes, of the records that hold them, and of searches and counts through a section.
use Rattle.std.proofs.Common.{◌≡◌, ℕ, suc, ◌+◌, ◌-◌, ◌<◌, ◌≤◌, min, Bool, true, false, cond, ◌||◌, eqb, List, [], ◌∷◌, ◌++◌, length, get_or, take, drop, set, is_some, Some, None, Option, sym, refl, ap, ◌∙◌, ⊎_elim, add-zero, arith, length-take}
use borrow.Rule.Slice.PartMut.{put_mid}
use Rattle.std.specs.List.{list_any, position, position_from, filter}
use Rattle.std.specs.Option.{option_map}
use Rattle.std.proofs.lemmas.List.{at_drop_more, at_drop_all, length-take-le, get_or-take, append-nil, drop_all, drop-take, take-take, take-append-le}
use Rattle.std.proofs.lemmas.Iterator.Adapters.{position_from-zero}
use Rattle.std.proofs.lemmas.Bool.{cond_both, cases_Bool}
use Rattle.change.specs.Change.{Change, has, share, line, numbered, place_of}
use Rattle.change.specs.Records.{change_in, change_row, fixed}
use Rattle.change.proofs.Rows.{length-fixed, take-fixed, Local}

-- one step of a search through the first n of xs
pub has_more : (xs : List ℕ) (n i p : ℕ) → i < n → n ≤ length xs → has (drop i (take n xs)) p ≡ (eqb (get_or xs i 0) p || has (drop (i + 1) (take n xs)) p)
has_more xs n i p lt le =
    let h : i < length (take n xs) = omega (arith, length-take-le n xs le) in
    let e : has (drop i (take n xs)) p ≡ (eqb (get_or (take n xs) i 0) p || has (drop (i + 1) (take n xs)) p) = at_drop_more (λ ys. has ys p) (take n xs) i 0 h in
    rw get_or-take at e

pub has_none : (xs : List ℕ) (n i p : ℕ) → n ≤ i → has (drop i (take n xs)) p ≡ false
has_none xs n i p le = at_drop_all (λ ys. has ys p) (take n xs) i (omega (arith, length-take n xs))

-- a row whose first two places are set and whose others are written over
pub row_written : (xs ys : List ℕ) (a b : ℕ) → length xs ≡ 10 → put_mid 2 8 (set (set xs 0 a) 1 b) ys ≡ a ∷ b ∷ ys
row_written [] ys a b e = absurd (omega arith)
row_written (x ∷ []) ys a b e = absurd (omega arith)
row_written (x ∷ y ∷ xs) ys a b e = ap (λ zs. a ∷ b ∷ zs) (ap (λ zs. ys ++ zs) (drop_all 8 xs (omega arith)) ∙ append-nil ys)

pub length-change_row : (c : Change) → length (change_row c) ≡ 10
length-change_row c = omega (arith, length-fixed 8 c.parts)

-- what a change's row says is the change
pub read_row : (c : Change) (ys : List ℕ) → length c.parts ≤ 8 → change_in (change_row c ++ ys) ≡ c
read_row c ys le =
    let m : min (length c.parts) 8 ≡ length c.parts = omega arith in
    let t : take (min (length c.parts) 8) (fixed 8 c.parts ++ ys) ≡ c.parts = rw (m) (take-append-le (length c.parts) (fixed 8 c.parts) ys (omega (arith, length-fixed 8 c.parts)) ∙ take-fixed 8 c.parts le) in
    ap (λ ps. record { number = c.number; parts = ps }) t

-- a change is in the first ten numbers
pub change_in_row : (xs : List ℕ) (w : ℕ) → 10 ≤ w → change_in (take w xs) ≡ change_in xs
change_in_row xs w le =
    let a : get_or (take w xs) 0 0 ≡ get_or xs 0 0 = get_or-take w xs 0 0 (omega arith) in
    let b : get_or (take w xs) 1 0 ≡ get_or xs 1 0 = get_or-take w xs 1 0 (omega arith) in
    let v : w ≡ 2 + (w - 2) = omega arith in
    let d : drop 2 (take w xs) ≡ take (w - 2) (drop 2 xs) = ap (λ u. drop 2 (take u xs)) v ∙ drop-take 2 (w - 2) xs in
    let t : take (min (get_or xs 1 0) 8) (take (w - 2) (drop 2 xs)) ≡ take (min (get_or xs 1 0) 8) (drop 2 xs) = take-take (min (get_or xs 1 0) 8) (w - 2) (drop 2 xs) (omega arith) in
    cc

-- a row that is lent on as a part
pub change_in_part : (xs : List ℕ) (k : ℕ) → change_in (take (k + 10 - k) (drop k xs)) ≡ change_in (drop k xs)
change_in_part xs k = change_in_row (drop k xs) (k + 10 - k) (omega arith)

pub change_in_local : (w : ℕ) → 10 ≤ w → Local change_in w
change_in_local w le xs ys h =
    let a : change_in (take 10 (xs ++ ys)) ≡ change_in (xs ++ ys) = change_in_row (xs ++ ys) 10 (omega arith) in
    let b : change_in (take 10 xs) ≡ change_in xs = change_in_row xs 10 (omega arith) in
    let t : take 10 (xs ++ ys) ≡ take 10 xs = take-append-le 10 xs ys (omega arith) in
    cc

shifted : (i : ℕ) (r : Option ℕ) → option_map (λ k. i + k) (option_map suc r) ≡ option_map (λ k. i + 1 + k) r
shifted i None = refl
shifted i (Some k) = ap Some (omega arith)

unmoved : (r : Option ℕ) → option_map (λ k. 0 + k) r ≡ r
unmoved None = refl
unmoved (Some k) = ap Some (omega arith)

-- a number has a place where it is used, and nowhere else
pub place_numbered : (p : ℕ) (cs : List Change) → is_some (place_of p cs) ≡ numbered p cs
place_numbered p [] = refl
place_numbered p (c ∷ cs) = go (place_numbered p cs) (eqb c.number p)
  where
    still : (r : Option ℕ) → is_some (option_map suc r) ≡ is_some r
    still None = refl
    still (Some k) = refl

    go : is_some (place_of p cs) ≡ numbered p cs → (b : Bool) → is_some (cond b (Some 0) (option_map suc (place_of p cs))) ≡ (b || numbered p cs)
    go ih true = refl
    go ih false = still (place_of p cs) ∙ ih

pub length-line_le : (p : ℕ) (cs : List Change) → length (line p cs) ≤ length cs
length-line_le p [] = omega arith
length-line_le p (c ∷ cs) =
    let h = length-line_le p cs in
    cond_both (has c.parts p) (c.number ∷ line p cs) (line p cs) (λ l. length l ≤ suc (length cs)) (λ _. omega arith) (λ _. omega arith)

pub line-append : (p : ℕ) (cs ds : List Change) → line p (cs ++ ds) ≡ line p cs ++ line p ds
line-append p [] ds = refl
line-append p (c ∷ cs) ds =
    ⊎_elim (λ e. rw e (ap (λ l. c.number ∷ l) (line-append p cs ds))) (λ e. rw e (line-append p cs ds)) (cases_Bool (has c.parts p))

-- the library's searches and counts are those of the definitions
pub any-numbered : (n : ℕ) (cs : List Change) → list_any (λ c. eqb c.number n) cs ≡ numbered n cs
any-numbered n [] = refl
any-numbered n (c ∷ cs) = ap (λ b. eqb c.number n || b) (any-numbered n cs)

position_from-place_of : (n i : ℕ) (cs : List Change) → position_from (λ c. eqb c.number n) i cs ≡ option_map (λ k. i + k) (place_of n cs)
position_from-place_of n i [] = refl
position_from-place_of n i (c ∷ cs) = go (position_from-place_of n (i + 1) cs) (eqb c.number n)
  where
    go : position_from (λ x. eqb x.number n) (i + 1) cs ≡ option_map (λ k. i + 1 + k) (place_of n cs) → (b : Bool) →
        cond b (Some i) (position_from (λ x. eqb x.number n) (i + 1) cs) ≡ option_map (λ k. i + k) (cond b (Some 0) (option_map suc (place_of n cs)))
    go e true = ap Some (sym (add-zero i))
    go e false = e ∙ sym (shifted i (place_of n cs))

pub position-place_of : (n : ℕ) (cs : List Change) → position (λ c. eqb c.number n) cs ≡ place_of n cs
position-place_of n cs = position_from-zero (λ c. eqb c.number n) cs ∙ (position_from-place_of n 0 cs ∙ unmoved (place_of n cs))

pub filter-line : (p : ℕ) (cs : List Change) → length (filter (λ c. has c.parts p) cs) ≡ length (line p cs)
filter-line p [] = refl
filter-line p (c ∷ cs) = go (has c.parts p) (filter-line p cs)
  where
    go : (b : Bool) → length (filter (λ x. has x.parts p) cs) ≡ length (line p cs) →
        length (cond b (c ∷ filter (λ x. has x.parts p) cs) (filter (λ x. has x.parts p) cs)) ≡ length (cond b (c.number ∷ line p cs) (line p cs))
    go true e = ap suc e
    go false e = e

pub any-has : (xs : List ℕ) (n : ℕ) → list_any (λ m. eqb m n) xs ≡ has xs n
any-has [] n = refl
any-has (x ∷ xs) n = ap (λ b. eqb x n || b) (any-has xs n)

pub any-share : (ps qs : List ℕ) → list_any (λ p. has qs p) ps ≡ share ps qs
any-share [] qs = refl
any-share (p ∷ ps) qs = ap (λ b. has qs p || b) (any-share ps qs)

-- one change more in front, which touches the part
pub line_touched : (p : ℕ) (c : Change) (cs : List Change) → has c.parts p ≡ true → line p (c ∷ cs) ≡ c.number ∷ line p cs
line_touched p c cs e = ap (λ b. cond b (c.number ∷ line p cs) (line p cs)) e
