-- Laws of the searches through records that the checks make.
use Rattle.std.proofs.Common.{◌≡◌, ℕ, zero, suc, ◌+◌, ◌*◌, ◌<◌, ◌≤◌, Bool, true, false, cond, ◌||◌, leb, List, length, get_or, drop, is_some, Some, None, Option, sym, refl, ap, ◌∙◌, subst, true≢false, mul-zero, mul-suc, arith}
use Rattle.std.specs.Option.{option_map}
use Rattle.std.proofs.lemmas.List.{get_or-drop}
use Rattle.std.proofs.lemmas.Bool.{leb-true}
use Rattle.change.specs.Change.{Change, line, place_of}
use Rattle.change.proofs.ChangeLaws.{place_numbered}
use Rattle.run.specs.Numbers.{Begins, waiting_in}
use Rattle.queue.specs.Refusals.{overlong, unless, waits_check}
use Rattle.queue.specs.declared.reply.Refusal.TheVariants.{NotWaiting}

-- a search through n records of width w from `at` on, which ends at the first that fails a test
module _ (w : ℕ) (ok : ℕ → Bool) (out : ℕ → ℕ) (search_of : ℕ → ℕ → Option ℕ) (none : (at : ℕ) → search_of 0 at ≡ None)
    (next : (n at : ℕ) → search_of (suc n) at ≡ cond (ok at) (search_of n (at + w)) (Some (out at))) where
  later : (n at : ℕ) → ok at ≡ true → search_of (suc n) at ≡ search_of n (at + w)
  later n at e = next n at ∙ ap (λ b. cond b (search_of n (at + w)) (Some (out at))) e

  moved : (k at : ℕ) (b : Bool) → ok (at + w * suc k) ≡ b → ok (at + w + w * k) ≡ b
  moved k at b e = ap ok (omega (arith, mul-suc w k)) ∙ e

  first_ok : (at : ℕ) (b : Bool) → ok (at + w * 0) ≡ b → ok at ≡ b
  first_ok at b e = ap ok (omega (arith, mul-zero w)) ∙ e

  pub all_pass : (n at : ℕ) → ((k : ℕ) → k < n → ok (at + w * k) ≡ true) → search_of n at ≡ None
  all_pass zero at h = none at
  all_pass (suc n) at h = later n at (first_ok at true (h 0 (omega arith))) ∙ all_pass n (at + w) (λ k lt. moved k at true (h (suc k) (omega arith)))

  pub one_fails : (i n at : ℕ) → i < n → ok (at + w * i) ≡ false → ((k : ℕ) → k < i → ok (at + w * k) ≡ true) → search_of n at ≡ Some (out (at + w * i))
  one_fails i zero at lt e h = absurd (omega arith)
  one_fails zero (suc n) at lt e h =
      next n at ∙ ap (λ b. cond b (search_of n (at + w)) (Some (out at))) (first_ok at false e) ∙ ap (λ u. Some (out u)) (omega (arith, mul-zero w))
  one_fails (suc i) (suc n) at lt e h =
      later n at (first_ok at true (h 0 (omega arith))) ∙ one_fails i n (at + w) (omega arith) (moved i at false e) (λ k l. moved k at true (h (suc k) (omega arith)))
      ∙ ap (λ u. Some (out u)) (omega (arith, mul-suc w i))

pub none_mapped : {A B : Type 0} (f : A → B) (o : Option A) → None ≡ option_map f o → o ≡ None
none_mapped f None e = refl
none_mapped f (Some x) e = absurd (true≢false (sym (ap is_some e)))

-- where none is overlong, every run begins with no more landed changes than its part has
pub all_begin : (landed : List Change) (w n at : ℕ) (xs : List ℕ) → overlong landed w n at xs ≡ None → (k : ℕ) → k < n → Begins landed (drop (at + w * k) xs)
all_begin landed w zero at xs e k lt = absurd (omega arith)
all_begin landed w (suc n) at xs e k lt = go (leb (get_or xs (at + 1) 0) (length (line (get_or xs at 0) landed))) refl e (all_begin landed w n (at + w) xs) k lt
  where
    go : (b : Bool) → leb (get_or xs (at + 1) 0) (length (line (get_or xs at 0) landed)) ≡ b → cond b (overlong landed w n (at + w) xs) (Some at) ≡ None →
        (overlong landed w n (at + w) xs ≡ None → (k : ℕ) → k < n → Begins landed (drop (at + w + w * k) xs)) → (k : ℕ) → k < suc n → Begins landed (drop (at + w * k) xs)
    go false f none ih k lt = let z : ◌≡◌ {A = ℕ} 0 1 = cc in absurd (omega arith)
    go true f none ih zero lt =
        let first : get_or xs at 0 ≡ get_or (drop (at + w * 0) xs) 0 0 = ap (λ u. get_or xs u 0) (omega (arith, mul-zero w)) ∙ sym (get_or-drop (at + w * 0) xs 0 0) in
        let second : get_or xs (at + 1) 0 ≡ get_or (drop (at + w * 0) xs) 1 0 = ap (λ u. get_or xs u 0) (omega (arith, mul-zero w)) ∙ sym (get_or-drop (at + w * 0) xs 1 0) in
        subst (λ (p : ℕ). get_or (drop (at + w * 0) xs) 1 0 ≤ length (line p landed)) first
        (subst (λ (b : ℕ). b ≤ length (line (get_or xs at 0) landed)) second (leb-true (get_or xs (at + 1) 0) (length (line (get_or xs at 0) landed)) f))
    go true f none ih (suc k) lt =
        subst (λ (u : ℕ). Begins landed (drop u xs)) (omega (arith, mul-suc w k)) (ih none k (omega arith))

-- whether one of two tests passes, where the first does, and where the second decides
pub or_first : (a b v : Bool) → a ≡ true → v ≡ true → v ≡ (a || b)
or_first a b v e f = f ∙ sym (ap (λ x. x || b) e)

pub or_second : (a b v : Bool) → a ≡ false → v ≡ b → v ≡ (a || b)
or_second a b v e f = f ∙ sym (ap (λ x. x || b) e)

-- what is asked of the code's changes is asked of those that they are
pub asked : {B : Type 0} (P : List Change → B) {cs ds : List Change} {b : B} → cs ≡ ds → b ≡ P cs → P ds ≡ b
asked P e f = ap P (sym e) ∙ sym f

-- whether a change waits, by its place
pub waits_by : (xs : List ℕ) (n : ℕ) (r : Option ℕ) → place_of n (waiting_in xs) ≡ r → waits_check xs n ≡ unless (is_some r) (NotWaiting n)
waits_by xs n r e = ap (λ b. unless b (NotWaiting n)) (sym (place_numbered n (waiting_in xs)) ∙ ap is_some e)
