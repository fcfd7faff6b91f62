-- Laws of comparing runs: lists by their numbers, a line by its end, and a run that is written short with one that begins with all of its line.
use Rattle.std.proofs.Common.{◌≡◌, ℕ, ◌+◌, ◌-◌, ◌≤◌, Bool, true, false, cond, ◌&&◌, eqb, List, [], ◌∷◌, ◌++◌, length, get_or, take, drop, sym, refl, ap, ◌∙◌, ⊎_elim, arith, length-append, length-drop, take-append-drop}
use lib.Pointwise.{pointwise}
use lib.Seq.{take-length}
use Rattle.std.proofs.lemmas.List.{length-take-le, append-nil, append_assoc, append_cancel_left, take_at, drop_at, get_or-drop, get_or-take, drop_more, drop-drop, drop-take, take-take}
use Rattle.std.proofs.lemmas.Bool.{eq-eqb, eqb-true, and_parts, and_right, and_left, and_from, ne_eqb, cases_Bool, false≢true}
use Rattle.change.specs.Change.{Change, has, line}
use Rattle.change.proofs.ChangeLaws.{line-append}
use Rattle.run.specs.Run.{Run, same_list, same_run}
use Rattle.run.specs.Records.{run_of}
use Rattle.run.specs.declared.run.Run as declared

-- the test for the same list
pub same_list_refl : (xs : List ℕ) → same_list xs xs ≡ true
same_list_refl [] = refl
same_list_refl (x ∷ xs) = and_from (eqb x x) (same_list xs xs) (eq-eqb x x refl) (same_list_refl xs)

pub same_list_true : (xs ys : List ℕ) → same_list xs ys ≡ true → xs ≡ ys
same_list_true [] [] e = refl
same_list_true [] (y ∷ ys) e = absurd (false≢true e)
same_list_true (x ∷ xs) [] e = absurd (false≢true e)
same_list_true (x ∷ xs) (y ∷ ys) e =
    let p = and_parts (eqb x y) (same_list xs ys) e in
    let h = eqb-true x y p.0 in
    let t = same_list_true xs ys p.1 in
    λ i. h i ∷ t i

pub same_list_not : (xs ys : List ℕ) → (xs ≡ ys → ⊥) → same_list xs ys ≡ false
same_list_not xs ys no_way = ⊎_elim (λ e. absurd (no_way (same_list_true xs ys e))) (λ e. e) (cases_Bool (same_list xs ys))

-- it is the test that `==` of slices makes
pub pointwise-same_list : (xs ys : List ℕ) → pointwise eqb xs ys ≡ same_list xs ys
pointwise-same_list [] [] = refl
pointwise-same_list [] (y ∷ ys) = refl
pointwise-same_list (x ∷ xs) [] = refl
pointwise-same_list (x ∷ xs) (y ∷ ys) = ap (λ b. eqb x y && b) (pointwise-same_list xs ys)

pub same_list_by_eq : (r : Bool) (xs ys : List ℕ) → r ≡ pointwise eqb xs ys → r ≡ same_list xs ys
same_list_by_eq r xs ys e = e ∙ pointwise-same_list xs ys

-- the test for the same run
pub same_run_true : (a b : Run) → same_run a b ≡ true → a ≡ b
same_run_true a b e =
    let p = and_parts (eqb a.part b.part) (same_list a.changes b.changes) e in
    let x = eqb-true a.part b.part p.0 in
    let y = same_list_true a.changes b.changes p.1 in
    λ i. record { part = x i; changes = y i }

pub same_run_refl : (a : Run) → same_run a a ≡ true
same_run_refl a = and_from (eqb a.part a.part) (same_list a.changes a.changes) (eq-eqb a.part a.part refl) (same_list_refl a.changes)

pub same_run_swap : (a b : Run) → same_run a b ≡ same_run b a
same_run_swap a b = go (same_run a b) (same_run b a) refl refl
  where
    back : (a b : Run) → same_run a b ≡ true → same_run b a ≡ true
    back a b e = ap (λ r. same_run b r) (same_run_true a b e) ∙ same_run_refl b

    go : (t u : Bool) → same_run a b ≡ t → same_run b a ≡ u → t ≡ u
    go true u e f = sym (back a b e) ∙ f
    go false true e f = sym e ∙ back b a f
    go false false e f = refl

pub other_part : (a b : Run) → (a.part ≡ b.part → ⊥) → false ≡ same_run a b
other_part a b differ = sym (and_left (eqb a.part b.part) (same_list a.changes b.changes) (ne_eqb a.part b.part differ))

pub other_changes : (a b : Run) → (a.changes ≡ b.changes → ⊥) → false ≡ same_run a b
other_changes a b differ = sym (and_right (eqb a.part b.part) (same_list a.changes b.changes) (same_list_not a.changes b.changes differ))

-- the line with one change more behind, which touches the part or does not
module _ (p : ℕ) (cs ds : List Change) (x : Change) (is : cs ≡ ds ++ x ∷ []) where
  pub line_touched : has x.parts p ≡ true → line p cs ≡ line p ds ++ x.number ∷ []
  line_touched h = ap (line p) is ∙ (line-append p ds (x ∷ []) ∙ ap (λ b. line p ds ++ cond b (x.number ∷ []) []) h)

  pub line_passed : has x.parts p ≡ false → line p cs ≡ line p ds
  line_passed h = ap (line p) is ∙ (line-append p ds (x ∷ []) ∙ (ap (λ b. line p ds ++ cond b (x.number ∷ []) []) h ∙ append-nil (line p ds)))

-- the last d of a list against the first d numbers: all were the same, one differs, one more is the same
pub ends_true : (A F S numbers : List ℕ) (d : ℕ) → A ≡ F ++ S → length S ≡ d → take d numbers ≡ S → true ≡ same_list (drop (length A - d) A) (take d numbers)
ends_true A F S numbers d e l f =
    let k : length A - d ≡ length F = omega (arith, ap length e, length-append F S) in
    let g : drop (length A - d) A ≡ S = ap (λ u. drop u A) k ∙ (ap (drop (length F)) e ∙ drop_at F S (length F) refl) in
    sym (ap (λ u. same_list u (take d numbers)) (g ∙ sym f) ∙ same_list_refl (take d numbers))

pub ends_false : (A F S numbers : List ℕ) (x d l : ℕ) → A ≡ F ++ (x ∷ S) → l + (1 + length S) ≡ d → d ≤ length A → (x ≡ get_or numbers l 0 → ⊥) → false ≡ same_list (drop (length A - d) A) (take d numbers)
ends_false A F S numbers x d l e k le ne =
    let m : length A - d + l ≡ length F = omega (arith, ap length e, length-append F (x ∷ S)) in
    let g : drop l (drop (length A - d) A) ≡ x ∷ S = drop-drop l (length A - d) A ∙ (ap (λ u. drop u A) m ∙ (ap (drop (length F)) e ∙ drop_at F (x ∷ S) (length F) refl)) in
    sym (same_list_not (drop (length A - d) A) (take d numbers) (λ q. ne
    (sym (ap (λ u. get_or u 0 0) g) ∙ (ap (λ u. get_or (drop l u) 0 0) q ∙ (get_or-drop l (take d numbers) 0 0 ∙ (ap (λ u. get_or (take d numbers) u 0) (omega arith) ∙ get_or-take d numbers l 0 (omega arith)))))))

pub ends_more : (S T numbers : List ℕ) (x d l k : ℕ) → T ≡ x ∷ S → l ≡ k + 1 → d ≤ length numbers → l + length S ≡ d → x ≡ get_or numbers k 0 → drop l (take d numbers) ≡ S → drop k (take d numbers) ≡ T
ends_more S T numbers x d l k e j le m g h =
    drop_more (take d numbers) k 0 (omega (arith, length-take-le d numbers le))
    ∙ (ap (λ u. u ∷ drop (k + 1) (take d numbers)) (get_or-take d numbers k 0 (omega arith) ∙ sym g) ∙ (ap (λ u. x ∷ drop u (take d numbers)) (sym j) ∙ (ap (λ u. x ∷ u) h ∙ sym e)))

-- a list that begins with b of a line against one that begins with all of it
pub renew_to : (L xs ys : List ℕ) (b d : ℕ) → b + d ≡ length L → drop (length L - d) L ≡ take d xs → drop d xs ≡ ys → take b L ++ xs ≡ L ++ ys
renew_to L xs ys b d k e f =
    let c : drop b L ≡ take d xs = ap (λ u. drop u L) (omega arith) ∙ e in
    ap (λ u. take b L ++ u) (sym (take-append-drop d xs) ∙ (ap (λ u. u ++ drop d xs) (sym c) ∙ ap (λ u. drop b L ++ u) f))
    ∙ (sym (append_assoc (take b L) (drop b L) ys) ∙ ap (λ u. u ++ ys) (take-append-drop b L))

pub renew_from : (L xs ys : List ℕ) (b d : ℕ) → b + d ≡ length L → take b L ++ xs ≡ L ++ ys → (drop (length L - d) L ≡ take d xs) × (drop d xs ≡ ys)
renew_from L xs ys b d k e =
    let f : take b L ++ xs ≡ take b L ++ (drop b L ++ ys) = e ∙ (ap (λ u. u ++ ys) (sym (take-append-drop b L)) ∙ append_assoc (take b L) (drop b L) ys) in
    let g : xs ≡ drop b L ++ ys = append_cancel_left (take b L) xs (drop b L ++ ys) f in
    let l : length (drop b L) ≡ d = length-drop b L ∙ omega arith in
    (ap (λ u. drop u L) (omega arith) ∙ sym (ap (take d) g ∙ take_at (drop b L) ys d l), ap (drop d) g ∙ drop_at (drop b L) ys d l)

-- how long a run is
pub run_long : (landed : List Change) (r : declared.Run) → r.begins ≤ length (line r.part landed) → r.follows ≤ length r.numbers → length (run_of landed r).changes ≡ r.begins + r.follows
run_long landed r fits few =
    length-append (take r.begins (line r.part landed)) (take r.follows r.numbers)
    ∙ omega (arith, length-take-le r.begins (line r.part landed) fits, length-take-le r.follows r.numbers few)

-- a stored run against one that begins with all landed changes of the part
module _ (landed : List Change) (a u : declared.Run) (part : a.part ≡ u.part) (begins : u.begins ≡ length (line u.part landed)) (fits : a.begins ≤ u.begins) (long : a.follows ≡ u.begins - a.begins + u.follows) where
  abbrev L : List ℕ
  L = line u.part landed

  abbrev d : ℕ
  d = u.begins - a.begins

  stored_is : (run_of landed a).changes ≡ take a.begins L ++ take a.follows a.numbers
  stored_is = ap (λ p. take a.begins (line p landed) ++ take a.follows a.numbers) part

  all_is : (run_of landed u).changes ≡ L ++ take u.follows u.numbers
  all_is = ap (λ l. l ++ take u.follows u.numbers) (ap (λ k. take k L) begins ∙ take-length L)

  sum_is : a.begins + d ≡ length L
  sum_is = omega arith

  back_is : drop d (take a.follows a.numbers) ≡ take u.follows (drop d a.numbers)
  back_is = ap (λ k. drop d (take k a.numbers)) long ∙ drop-take d u.follows a.numbers

  front_is : take d (take a.follows a.numbers) ≡ take d a.numbers
  front_is = take-take d a.follows a.numbers (omega arith)

  -- the same run if what follows and the end of the line are the same
  renewed_yes : same_list (take u.follows (drop d a.numbers)) (take u.follows u.numbers) ≡ true → same_list (drop (length L - d) L) (take d a.numbers) ≡ true → same_run (run_of landed a) (run_of landed u) ≡ true
  renewed_yes e f =
      and_from (eqb a.part u.part) (same_list (run_of landed a).changes (run_of landed u).changes) (eq-eqb a.part u.part part)
      (ap (λ l. same_list l (run_of landed u).changes)
      (stored_is ∙ (renew_to L (take a.follows a.numbers) (take u.follows u.numbers) a.begins d sum_is
      (same_list_true (drop (length L - d) L) (take d a.numbers) f ∙ sym front_is) (back_is ∙ same_list_true (take u.follows (drop d a.numbers)) (take u.follows u.numbers) e) ∙ sym all_is))
      ∙ same_list_refl (run_of landed u).changes)

  equal_parts : (run_of landed a).changes ≡ (run_of landed u).changes → (drop (length L - d) L ≡ take d a.numbers) × (take u.follows (drop d a.numbers) ≡ take u.follows u.numbers)
  equal_parts e =
      let r = renew_from L (take a.follows a.numbers) (take u.follows u.numbers) a.begins d sum_is (sym stored_is ∙ (e ∙ all_is)) in
      (r.0 ∙ front_is, sym back_is ∙ r.1)

  -- another run if what follows differs
  pub renewed_other : same_list (take u.follows (drop d a.numbers)) (take u.follows u.numbers) ≡ false → false ≡ same_run (run_of landed a) (run_of landed u)
  renewed_other e =
      other_changes (run_of landed a) (run_of landed u)
      (λ q. false≢true (sym e ∙ (ap (λ l. same_list l (take u.follows u.numbers)) (equal_parts q).1 ∙ same_list_refl (take u.follows u.numbers))))

  -- where what follows is the same, the end of the line decides
  pub renewed : (b : Bool) → b ≡ same_list (drop (length L - d) L) (take d a.numbers) → same_list (take u.follows (drop d a.numbers)) (take u.follows u.numbers) ≡ true → b ≡ same_run (run_of landed a) (run_of landed u)
  renewed true f e = sym (renewed_yes e (sym f))
  renewed false f e =
      other_changes (run_of landed a) (run_of landed u)
      (λ q. false≢true (f ∙ (ap (λ l. same_list l (take d a.numbers)) (equal_parts q).0 ∙ same_list_refl (take d a.numbers))))
