-- Lists of runs: which runs stand in them, and how many different ones there can be. Assumes nothing.
use Rattle.std.proofs.Common.{◌≡◌, suc, ◌≤◌, Bool, true, false, cond, ◌&&◌, ◌||◌, ◌⊎◌, List, [], ◌∷◌, ◌++◌, length, sym, refl, ap, ◌∙◌, subst, inl, inr, true≢false, arith}
use mathlib.Core.Bool.{and-false, or-true, or-false}
use Rattle.std.proofs.lemmas.Bool.{or_from, or_cases}
use Rattle.std.specs.List.{AllByRecursion}
use Rattle.run.proofs.Compared.{same_run_true, same_run_refl}
use Rattle.run.specs.Run.{Run, same_run}
use Rattle.plan.specs.Plan.{among, kept}
use Rattle.plan.proofs.Among.{among-parts}
use Rattle.promises.specs.Day.{Different}
use Rattle.promises.proofs.Basics.{clash, not_so, neither_left, neither_right, or_swap, length-place}

-- where a run stands in a list made of others
pub among_head : (r : Run) (rs : List Run) → among r (r ∷ rs) ≡ true
among_head r rs = ap (λ (b : Bool). b || among r rs) (same_run_refl r)

pub among-left : (r : Run) (xs ys : List Run) → among r xs ≡ true → among r (xs ++ ys) ≡ true
among-left r xs ys e = among-parts r xs ys ∙ ap (λ (b : Bool). b || among r ys) e

pub among_right : (r : Run) (xs ys : List Run) → among r ys ≡ true → among r (xs ++ ys) ≡ true
among_right r xs ys e = among-parts r xs ys ∙ ap (◌||◌ (among r xs)) e ∙ or-true (among r xs)

pub among_cases : (r : Run) (xs ys : List Run) → among r (xs ++ ys) ≡ true → (among r xs ≡ true) ⊎ (among r ys ≡ true)
among_cases r xs ys e = or_cases (among r xs) (among r ys) (sym (among-parts r xs ys) ∙ e)

among_neither : (r : Run) (xs ys : List Run) → among r xs ≡ false → among r ys ≡ false → among r (xs ++ ys) ≡ false
among_neither r xs ys e h = among-parts r xs ys ∙ or_from (among r xs) (among r ys) e h

pub among_one : (r s : Run) → among r (s ∷ []) ≡ true → r ≡ s
among_one r s e = same_run_true r s (sym (or-false (same_run r s)) ∙ e)

pub among-place : (x : Run) (A : List Run) (r : Run) (B : List Run) → among x (A ++ r ∷ B) ≡ (same_run x r || among x (A ++ B))
among-place x A r B = among-parts x A (r ∷ B) ∙ or_swap (among x A) (same_run x r) (among x B) ∙ ap (◌||◌ (same_run x r)) (sym (among-parts x A B))

-- all of one list stand in the other
abbrev pub Sub : List Run → List Run → Type 0
Sub xs ys = (r : Run) → among r xs ≡ true → among r ys ≡ true

-- what holds of every run that stands in a list holds of each
pub all_from : (P : Run → Type 0) (xs : List Run) → ((r : Run) → among r xs ≡ true → P r) → AllByRecursion P xs
all_from P [] k = tt
all_from P (x ∷ xs) k = (k x (among_head x xs), all_from P xs (λ r e. k r (among_right r (x ∷ []) xs e)))

-- a run is kept if it stood in the list and passes the test
pub among-kept : (test : Run → Bool) (r : Run) (rs : List Run) → among r (kept test rs) ≡ (test r && among r rs)
among-kept test r [] = sym (and-false (test r))
among-kept test r (s ∷ rs) = go (among-kept test r rs) (same_run r s) refl (test s) refl
  where
    go : among r (kept test rs) ≡ (test r && among r rs) → (b : Bool) → same_run r s ≡ b → (t : Bool) → test s ≡ t →
        among r (cond t (s ∷ kept test rs) (kept test rs)) ≡ (test r && (b || among r rs))
    go ih true k true j = ap (λ (x : Bool). x || among r (kept test rs)) k ∙ sym (ap (λ (x : Bool). x && true) (ap test (same_run_true r s k) ∙ j))
    go ih true k false j = ih ∙ ap (λ (x : Bool). x && among r rs) (ap test (same_run_true r s k) ∙ j) ∙ sym (ap (λ (x : Bool). x && true) (ap test (same_run_true r s k) ∙ j))
    go ih false k true j = ap (λ (x : Bool). x || among r (kept test rs)) k ∙ ih
    go ih false k false j = ih

-- lists of different runs: a part of one, two that have none in common, and one run more
pub different-kept : (test : Run → Bool) (rs : List Run) → Different rs → Different (kept test rs)
different-kept test [] n = tt
different-kept test (r ∷ rs) n = go (different-kept test rs n.1) (test r)
  where
    go : Different (kept test rs) → (b : Bool) → Different (cond b (r ∷ kept test rs) (kept test rs))
    go ih true = (among-kept test r rs ∙ ap (◌&&◌ (test r)) n.0 ∙ and-false (test r), ih)
    go ih false = ih

pub different-append : (xs ys : List Run) → Different xs → Different ys → ((r : Run) → among r xs ≡ true → among r ys ≡ false) → Different (xs ++ ys)
different-append [] ys n m k = m
different-append (x ∷ xs) ys n m k = (among_neither x xs ys n.0 (k x (among_head x xs)), different-append xs ys n.1 m (λ r e. k r (among_right r (x ∷ []) xs e)))

pub different_both : (xs ys : List Run) → Different (xs ++ ys) → Different xs × Different ys
different_both [] ys d = (tt, d)
different_both (x ∷ xs) ys d = let k = different_both xs ys d.1 in ((neither_left (among x xs) (among x ys) (sym (among-parts x xs ys) ∙ d.0), k.0), k.1)

pub different_apart : (xs ys : List Run) → Different (xs ++ ys) → (r : Run) → among r xs ≡ true → among r ys ≡ false
different_apart [] ys d r e = absurd (true≢false (sym e))
different_apart (x ∷ xs) ys d r e = elim (among_cases r (x ∷ []) xs e) [
  | inl j ↦ neither_right (among r xs) (among r ys) (sym (among-parts r xs ys) ∙ subst (λ (s : Run). among s (xs ++ ys) ≡ false) (sym (among_one r x j)) d.0)
  | inr j ↦ different_apart xs ys d.1 r j
]

pub different_push : (xs : List Run) (r : Run) → Different xs → among r xs ≡ false → Different (xs ++ r ∷ [])
different_push xs r n e = different-append xs (r ∷ []) n (refl, tt) (λ s k. not_so (among s (r ∷ [])) (λ l. clash (subst (λ (x : Run). among x xs ≡ true) (among_one s r l) k) e))

-- a run that stands in a list, with what stands before and behind it
pub record SplitAt (r : Run) (rs : List Run) : Type 0 where
  pub before : List Run
  pub behind : List Run
  pub is : rs ≡ before ++ r ∷ behind

-- a run that the test finds has such a place
pub split_at : (r : Run) (rs : List Run) → among r rs ≡ true → SplitAt r rs
split_at r [] e = absurd (true≢false (sym e))
split_at r (s ∷ rs) e = go (split_at r rs) (same_run r s) refl e
  where
    go : (among r rs ≡ true → SplitAt r rs) → (b : Bool) → same_run r s ≡ b → (b || among r rs) ≡ true → SplitAt r (s ∷ rs)
    go ih true k h = record { before = []; behind = rs; is = ap (λ (x : Run). x ∷ rs) (sym (same_run_true r s k)) }
    go ih false k h = let p = ih h in record { before = s ∷ p.before; behind = p.behind; is = ap (λ (xs : List Run). s ∷ xs) p.is }

-- a list of different runs that all stand in another is no longer than it
pub pigeons : (rs us : List Run) → Different rs → Sub rs us → length rs ≤ length us
pigeons [] us n s = omega arith
pigeons (r ∷ rs) us n s = go (split_at r us (s r (among_head r rs))) (pigeons rs)
  where
    go : SplitAt r us → ((vs : List Run) → Different rs → Sub rs vs → length rs ≤ length vs) → suc (length rs) ≤ length us
    go p ih = omega (
      arith,
      ap length p.is ∙ length-place p.before r p.behind,
      ih (p.before ++ p.behind) n.1 (λ x e. elim (or_cases (same_run x r) (among x (p.before ++ p.behind)) (sym (among-place x p.before r p.behind) ∙ ap (among x) (sym p.is) ∙ s x (among_right x (r ∷ []) rs e))) [
        | inl k ↦ clash (ap (λ (y : Run). among y rs) (sym (same_run_true x r k)) ∙ e) n.0
        | inr k ↦ k
      ]),
    )
