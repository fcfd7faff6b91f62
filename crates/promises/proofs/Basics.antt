-- Small laws of tests, of a part's line and of numbers. Assumes nothing.
use Rattle.std.proofs.Common.{◌≡◌, ℕ, suc, Bool, true, false, cond, ◌&&◌, ◌||◌, eqb, List, [], ◌∷◌, ◌++◌, length, sym, refl, ap, ◌∙◌, subst, true≢false, append-nil}
use mathlib.Core.Bool.{or-true, or-false, or_assoc, or_comm}
use Rattle.std.proofs.lemmas.Bool.{eqb-true, eq-eqb}
use Rattle.std.specs.List.{AllByRecursion}
use Rattle.change.proofs.ChangeLaws.{line-append}
use Rattle.change.specs.Change.{Change, has, share, line, numbered}
use Rattle.plan.specs.Plan.{kept}

-- a test does not both hold and fail
pub clash : {A : Type 0} → {b : Bool} → b ≡ true → b ≡ false → A
clash p q = absurd (true≢false (sym p ∙ q))

-- by contradiction
pub not_so : (b : Bool) → (b ≡ true → ⊥) → b ≡ false
not_so true k = absurd (k refl)
not_so false k = refl

-- if one of two tests would do and both fail, each fails; if both must hold and do, each holds
pub neither_left : (a b : Bool) → (a || b) ≡ false → a ≡ false
neither_left true b e = e
neither_left false b e = refl

pub neither_right : (a b : Bool) → (a || b) ≡ false → b ≡ false
neither_right true b e = absurd (true≢false e)
neither_right false b e = e

-- the order of tests does not matter
pub or_swap : (a b c : Bool) → (a || (b || c)) ≡ (b || (a || c))
or_swap true true c = refl
or_swap true false c = refl
or_swap false b c = refl

pub both_left : (a b : Bool) → (a && b) ≡ true → a ≡ true
both_left true b e = refl
both_left false b e = e

pub both_right : (a b : Bool) → (a && b) ≡ true → b ≡ true
both_right true b e = e
both_right false b e = absurd (true≢false (sym e))

-- two lists of parts have none in common
abbrev pub Off : List ℕ → List ℕ → Type 0
Off ps qs = (p : ℕ) → has ps p ≡ true → has qs p ≡ false

-- which goes both ways, and is what the test of sharing says
pub off_sym : (ps qs : List ℕ) → Off ps qs → Off qs ps
off_sym ps qs o p h = go (has ps p) refl
  where
    go : (b : Bool) → has ps p ≡ b → has ps p ≡ false
    go true e = clash h (o p e)
    go false e = e

pub share_off : (ps qs : List ℕ) → share ps qs ≡ false → Off ps qs
share_off [] qs e p h = absurd (true≢false (sym h))
share_off (q ∷ ps) qs e p h = go (share_off ps qs (neither_right (has qs q) (share ps qs) e) p) (eqb q p) refl h
  where
    go : (has ps p ≡ true → has qs p ≡ false) → (b : Bool) → eqb q p ≡ b → (b || has ps p) ≡ true → has qs p ≡ false
    go ih true k h = subst (λ (x : ℕ). has qs x ≡ false) (eqb-true q p k) (neither_left (has qs q) (share ps qs) e)
    go ih false k h = ih h

-- the line of one change
pub line-without : (p : ℕ) (c : Change) → has c.parts p ≡ false → line p (c ∷ []) ≡ []
line-without p c e = ap (λ (b : Bool). cond b (c.number ∷ []) []) e

pub line_with : (p : ℕ) (c : Change) → has c.parts p ≡ true → line p (c ∷ []) ≡ c.number ∷ []
line_with p c e = ap (λ (b : Bool). cond b (c.number ∷ []) []) e

-- a change that does not touch the part can be left off
pub line_off : (p : ℕ) (xs : List Change) (c : Change) → has c.parts p ≡ false → line p (xs ++ c ∷ []) ≡ line p xs
line_off p xs c e = line-append p xs (c ∷ []) ∙ ap (λ (r : List ℕ). line p xs ++ r) (line-without p c e) ∙ append-nil (line p xs)

-- numbers in a list made of others
pub numbered-append : (n : ℕ) (xs ys : List Change) → numbered n (xs ++ ys) ≡ (numbered n xs || numbered n ys)
numbered-append n [] ys = refl
numbered-append n (c ∷ xs) ys = ap (◌||◌ (eqb c.number n)) (numbered-append n xs ys) ∙ sym (or_assoc (eqb c.number n) (numbered n xs) (numbered n ys))

pub numbered_push : (n : ℕ) (xs : List Change) (c : Change) → numbered n (xs ++ c ∷ []) ≡ (eqb c.number n || numbered n xs)
numbered_push n xs c = numbered-append n xs (c ∷ []) ∙ ap (◌||◌ (numbered n xs)) (or-false (eqb c.number n)) ∙ or_comm (numbered n xs) (eqb c.number n)

pub has_head : (p : ℕ) (ps : List ℕ) → has (p ∷ ps) p ≡ true
has_head p ps = ap (λ (b : Bool). (b || has ps p)) (eq-eqb p p refl)

pub has_tail : (q : ℕ) (ps : List ℕ) (p : ℕ) → has ps p ≡ true → has (q ∷ ps) p ≡ true
has_tail q ps p e = ap (◌||◌ (eqb q p)) e ∙ or-true (eqb q p)

-- what holds of each of a list
pub all_both : {A : Type 0} (P : A → Type 0) (xs ys : List A) → AllByRecursion P (xs ++ ys) → AllByRecursion P xs × AllByRecursion P ys
all_both P [] ys h = (tt, h)
all_both P (x ∷ xs) ys h = let k = all_both P xs ys h.1 in ((h.0, k.0), k.1)

pub all-kept : {A : Type 0} (P : A → Type 0) (test : A → Bool) (xs : List A) → AllByRecursion P xs → AllByRecursion P (kept test xs)
all-kept P test [] h = tt
all-kept P test (x ∷ xs) h = go (all-kept P test xs h.1) (test x)
  where
    go : AllByRecursion P (kept test xs) → (b : Bool) → AllByRecursion P (cond b (x ∷ kept test xs) (kept test xs))
    go ih true = (h.0, ih)
    go ih false = ih

-- a filter that all pass keeps all
pub kept-all : {A : Type 0} (test : A → Bool) (xs : List A) → AllByRecursion (λ x. test x ≡ true) xs → kept test xs ≡ xs
kept-all test [] h = refl
kept-all test (x ∷ xs) h = ap (λ (b : Bool). cond b (x ∷ kept test xs) (kept test xs)) h.0 ∙ ap (λ (r : List _). x ∷ r) (kept-all test xs h.1)

-- one more stands in the list, wherever it stands
pub length-place : {A : Type 0} (xs : List A) (x : A) (ys : List A) → length (xs ++ x ∷ ys) ≡ suc (length (xs ++ ys))
length-place [] x ys = refl
length-place (y ∷ xs) x ys = ap suc (length-place xs x ys)
