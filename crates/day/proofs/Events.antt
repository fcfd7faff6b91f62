-- Events one behind the other. Assumes nothing.
use Rattle.std.proofs.Common.{◌≡◌, ℕ, zero, suc, ◌+◌, ◌<◌, ◌≤◌, Bool, true, false, cond, leb, List, [], ◌∷◌, length, get_or, drop, Some, None, sym, refl, ap, ◌∙◌, arith, length-drop, leb-true}
use Rattle.day.specs.DayFile.{Taken, taken, of_kind, next_event, followed, events_from, events_of}

-- an event takes some bytes, and no more than there are
abbrev pub Fits : List ℕ → ℕ × List ℕ → Type 0
Fits bs t = (0 < t.0) × (t.0 ≤ length bs)

taken_fits : (n : ℕ) (event bs : List ℕ) (t : ℕ × List ℕ) → 0 < n → taken n event bs ≡ Some t → Fits bs t
taken_fits n event bs t pos = go (leb n (length bs)) refl
  where
    go : (b : Bool) → leb n (length bs) ≡ b → cond b (Some (n, event)) None ≡ Some t → Fits bs t
    go true le e = let k : n ≡ t.0 = cc in (omega arith, omega (arith, leb-true n (length bs) le))
    go false le e = let z : ◌≡◌ {A = ℕ} 0 1 = cc in absurd (omega arith)

of_kind_fits : (k : ℕ) (bs : List ℕ) (t : ℕ × List ℕ) → of_kind k bs ≡ Some t → Fits bs t
of_kind_fits zero bs t e = taken_fits (6 + get_or bs 5 0) _ bs t (omega arith) e
of_kind_fits (suc zero) bs t e = taken_fits 5 _ bs t (omega arith) e
of_kind_fits (suc (suc zero)) bs t e = taken_fits 3 _ bs t (omega arith) e
of_kind_fits (suc (suc (suc k))) bs t e = let z : ◌≡◌ {A = ℕ} 0 1 = cc in absurd (omega arith)

pub next_fits : (bs : List ℕ) (t : ℕ × List ℕ) → next_event bs ≡ Some t → Fits bs t
next_fits bs t e = of_kind_fits (get_or bs 0 0) bs t e

-- where there are bytes enough, it does not matter how many events were allowed
none_left : (n : ℕ) → events_from n [] ≡ []
unfolding events_from
none_left zero = refl
none_left (suc n) = refl

same-events : (m n : ℕ) (bs : List ℕ) → length bs ≤ m → length bs ≤ n → events_from m bs ≡ events_from n bs
unfolding events_from
same-events m n [] lm ln = none_left m ∙ sym (none_left n)
same-events zero n (b ∷ bs) lm ln = absurd (omega arith)
same-events (suc m) zero (b ∷ bs) lm ln = absurd (omega arith)
same-events (suc m) (suc n) (b ∷ bs) lm ln =
    go (λ k pos. same-events m n (drop k (b ∷ bs)) (omega (arith, length-drop k (b ∷ bs))) (omega (arith, length-drop k (b ∷ bs)))) (next_event (b ∷ bs)) refl
  where
    go : ((k : ℕ) → 0 < k → events_from m (drop k (b ∷ bs)) ≡ events_from n (drop k (b ∷ bs))) → (o : Taken) → next_event (b ∷ bs) ≡ o →
        followed o (λ k. events_from m (drop k (b ∷ bs))) ≡ followed o (λ k. events_from n (drop k (b ∷ bs)))
    go ih None e = refl
    go ih (Some t) e = ap (λ l. t.1 ∷ l) (ih t.0 (next_fits (b ∷ bs) t e).0)

pub events_none : (bs : List ℕ) → next_event bs ≡ None → events_of bs ≡ []
unfolding events_from
events_none [] e = refl
events_none (b ∷ bs) e = ap (λ o. followed o (λ k. events_from (length bs) (drop k (b ∷ bs)))) e

pub events_more : (bs : List ℕ) (t : ℕ × List ℕ) → next_event bs ≡ Some t → events_of bs ≡ t.1 ∷ events_of (drop t.0 bs)
unfolding events_from
events_more [] t e = let z : ◌≡◌ {A = ℕ} 0 1 = cc in absurd (omega arith)
events_more (b ∷ bs) t e =
    let fits = next_fits (b ∷ bs) t e in
    ap (λ o. followed o (λ k. events_from (length bs) (drop k (b ∷ bs)))) e
    ∙ ap (λ l. t.1 ∷ l) (same-events (length bs) (length (drop t.0 (b ∷ bs))) (drop t.0 (b ∷ bs)) (omega (arith, fits.0, fits.1, length-drop t.0 (b ∷ bs))) (omega arith))
