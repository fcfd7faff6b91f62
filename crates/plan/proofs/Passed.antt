-- Laws of what passes a test, and of rows of it written one after another into a section of 0.
use Rattle.std.proofs.Common.{◌≡◌, ℕ, suc, ◌+◌, ◌*◌, ◌≤◌, Bool, true, false, cond, List, [], ◌∷◌, ◌++◌, length, get_or, take, drop, sym, refl, ap, ◌∙◌, arith}
use Rattle.std.specs.List.{AllByRecursion}
use Rattle.std.proofs.lemmas.List.{drop-drop, length_push, get_or-take}
use Rattle.change.specs.Change.{Change, line}
use Rattle.change.specs.Records.{rows, table, written}
use Rattle.change.proofs.Rows.{rows_append}
use Rattle.change.proofs.Tables.{table_push}
use Rattle.run.specs.Records.{run_width}
use Rattle.run.specs.Numbers.{Begins}
use Rattle.run.specs.declared.run.Run as declared
use Rattle.plan.specs.Plan.{kept}
use Rattle.plan.specs.Rows.{Holds}

module _ {A : Type 0} (t : A → Bool) where
  -- one more, kept or not
  kept_yes : (xs : List A) (x : A) → t x ≡ true → kept t (xs ++ x ∷ []) ≡ kept t xs ++ x ∷ []
  kept_yes [] x e = ap (λ b. cond b (x ∷ []) []) e
  kept_yes (y ∷ ys) x e = go (kept_yes ys x e) (t y)
    where
      go : kept t (ys ++ x ∷ []) ≡ kept t ys ++ x ∷ [] → (b : Bool) → cond b (y ∷ kept t (ys ++ x ∷ [])) (kept t (ys ++ x ∷ [])) ≡ cond b (y ∷ kept t ys) (kept t ys) ++ x ∷ []
      go ih true = ap (λ l. y ∷ l) ih
      go ih false = ih

  kept_no : (xs : List A) (x : A) → t x ≡ false → kept t (xs ++ x ∷ []) ≡ kept t xs
  kept_no [] x e = ap (λ b. cond b (x ∷ []) []) e
  kept_no (y ∷ ys) x e = ap (λ l. cond (t y) (y ∷ l) l) (kept_no ys x e)

  all-kept : (P : A → Type 0) → ((x : A) → t x ≡ true → P x) → (xs : List A) → AllByRecursion P (kept t xs)
  all-kept P h [] = tt
  all-kept P h (x ∷ xs) = go (all-kept P h xs) (t x) refl
    where
      go : AllByRecursion P (kept t xs) → (b : Bool) → t x ≡ b → AllByRecursion P (cond b (x ∷ kept t xs) (kept t xs))
      go ih true e = (h x e, ih)
      go ih false e = ih

  length-kept : (xs : List A) → length (kept t xs) ≤ length xs
  length-kept [] = omega arith
  length-kept (x ∷ xs) = go (length-kept xs) (t x)
    where
      go : length (kept t xs) ≤ length xs → (b : Bool) → length (cond b (x ∷ kept t xs) (kept t xs)) ≤ suc (length xs)
      go ih true = omega arith
      go ih false = omega arith

-- one record more was looked at: it is kept and written behind those kept so far, or it is not
module _ {A : Type 0} (f : List ℕ → A) (row : A → List ℕ) (w n : ℕ) (len : (x : A) → length (row x) ≡ w) (t : A → Bool) (xs : List ℕ) (base k : ℕ) (x : A) (is : x ≡ f (drop (base + w * k) xs)) where
  abbrev so_far : ℕ → List A
  so_far i = kept t (rows f w i (drop base xs))

  more : rows f w (k + 1) (drop base xs) ≡ rows f w k (drop base xs) ++ x ∷ []
  more = rows_append f w k 1 (drop base xs) ∙ ap (λ y. rows f w k (drop base xs) ++ y ∷ []) (ap f (drop-drop (w * k) base xs) ∙ sym is)

  pub keep_yes : t x ≡ true → (out : List ℕ) (c : ℕ) → out ≡ table row n (so_far k) → c ≡ length (so_far k) → w * c + w ≤ n →
      (written (w * c) (row x) out ≡ table row n (so_far (k + 1))) × (c + 1 ≡ length (so_far (k + 1)))
  keep_yes e out c g h le =
      let m : so_far (k + 1) ≡ so_far k ++ x ∷ [] = ap (kept t) more ∙ kept_yes t (rows f w k (drop base xs)) x e in (
        ap (written (w * c) (row x)) g ∙ (table_push row w len n (w * c) (so_far k) x (ap (λ u. w * u) h) le ∙ ap (table row n) (sym m)),
        omega (arith, ap length m, length_push (so_far k) x),
      )

  pub keep_no : t x ≡ false → so_far (k + 1) ≡ so_far k
  keep_no e = ap (kept t) more ∙ kept_no t (rows f w k (drop base xs)) x e

-- what is kept and written to a section of 0 is held there
pub kept_held : {A : Type 0} (row : A → List ℕ) (P : A → Type 0) (w most n : ℕ) (t : A → Bool) → ((x : A) → t x ≡ true → P x) → (xs : List ℕ) (ys : List A) → length ys ≤ most →
    xs ≡ table row (w * most) (kept t ys) → n ≡ length (kept t ys) → Holds row P w most n xs (kept t ys)
kept_held row P w most n t h xs ys few e f = record { is = e; all = all-kept t P h ys; count = f; few = omega (arith, f, length-kept t ys) }

-- a stored run, as it was read from a part that is lent on, fits what has landed
pub stored_at : (cs : List Change) (xs : List ℕ) (at w : ℕ) (r : declared.Run) → run_width ≤ w → r.part ≡ get_or (take w (drop at xs)) 0 0 → r.begins ≡ get_or (take w (drop at xs)) 1 0 →
    Begins cs (drop at xs) → r.begins ≤ length (line r.part cs)
stored_at cs xs at w r le e f h =
    let a : r.part ≡ get_or (drop at xs) 0 0 = e ∙ get_or-take w (drop at xs) 0 0 (omega arith) in
    let b : r.begins ≡ get_or (drop at xs) 1 0 = f ∙ get_or-take w (drop at xs) 1 0 (omega arith) in
    omega (arith, ap (λ p. length (line p cs)) a)
