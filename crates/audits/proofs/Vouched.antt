-- An audit that finds no fault, and a log that vouches for every state, are the same.
use Rattle.std.proofs.Common.{◌≡◌, ℕ, zero, suc, ◌<◌, true, false, eqb, List, [], ◌∷◌, ◌++◌, length, get_or, take, is_some, None, Option, sym, refl, ap, ◌∙◌, subst, ⊎_elim, append_assoc, arith}
use Rattle.std.proofs.lemmas.Bool.{eq-eqb, eqb-true, or_cases, or_left, or_right, true≢false}
use Rattle.std.proofs.lemmas.Grind.{common_steps}
use Rattle.change.specs.Change.{Change, has}
use Rattle.run.specs.Run.{Run, Verdict}
use Rattle.audits.specs.Audit.{AcceptsExactly, Fault, faulty, first_fault, log_says, said_bad, said_good, state, states_at, states_from}

abbrev Vouched : List Verdict → Run → Type 0
Vouched vs r = (said_good r vs ≡ true) × (said_bad r vs ≡ false)

-- a state is sound exactly if it is vouched for
good_vouched : (vs : List Verdict) (r : Run) (rest : Option Fault) → is_some (faulty (log_says r vs) r rest) ≡ false → Vouched vs r × (is_some rest ≡ false)
good_vouched vs r rest e = grind (arith, common_steps)

vouched_good : (vs : List Verdict) (r : Run) (rest : Option Fault) → Vouched vs r → faulty (log_says r vs) r rest ≡ rest
vouched_good vs r rest v = grind (arith, common_steps, v.0, v.1)

-- no fault among the states of these parts, or all of them vouched for
parts_vouched : (vs : List Verdict) (main : List Change) (ps : List ℕ) (rest : List Run) → is_some (first_fault vs (states_at main ps ++ rest)) ≡ false →
    (p : ℕ) → has ps p ≡ true → Vouched vs (state main p)
parts_vouched vs main [] rest e p h = absurd (true≢false (sym h))
parts_vouched vs main (q ∷ qs) rest e p h =
    let both = good_vouched vs (state main q) (first_fault vs (states_at main qs ++ rest)) e in
    ⊎_elim (λ t. subst (λ u. Vouched vs (state main u)) (eqb-true q p t) both.0) (λ t. parts_vouched vs main qs rest both.1 p t) (or_cases (eqb q p) (has qs p) h)

parts_clear : (vs : List Verdict) (main : List Change) (ps : List ℕ) (rest : List Run) → is_some (first_fault vs (states_at main ps ++ rest)) ≡ false → is_some (first_fault vs rest) ≡ false
parts_clear vs main [] rest e = e
parts_clear vs main (q ∷ qs) rest e = parts_clear vs main qs rest (good_vouched vs (state main q) (first_fault vs (states_at main qs ++ rest)) e).1

parts_pass : (vs : List Verdict) (main : List Change) (ps : List ℕ) (rest : List Run) → ((p : ℕ) → has ps p ≡ true → Vouched vs (state main p)) →
    first_fault vs (states_at main ps ++ rest) ≡ first_fault vs rest
parts_pass vs main [] rest h = refl
parts_pass vs main (q ∷ qs) rest h =
    vouched_good vs (state main q) (first_fault vs (states_at main qs ++ rest)) (h q (or_left (eqb q q) (has qs q) (eq-eqb q q refl)))
    ∙ parts_pass vs main qs rest (λ p t. h p (or_right (eqb q p) (has qs p) t))

-- the same for the states of these changes on top of those before
changes_vouched : (vs : List Verdict) (before cs : List Change) → is_some (first_fault vs (states_from before cs)) ≡ false →
    (k p : ℕ) (c : Change) → k < length cs → has (get_or cs k c).parts p ≡ true → Vouched vs (state (before ++ take (suc k) cs) p)
changes_vouched vs before [] e k p c lt h = absurd (omega arith)
changes_vouched vs before (d ∷ ds) e zero p c lt h = parts_vouched vs (before ++ d ∷ []) d.parts (states_from (before ++ d ∷ []) ds) e p h
changes_vouched vs before (d ∷ ds) e (suc k) p c lt h =
    subst (λ l. Vouched vs (state l p)) (append_assoc before (d ∷ []) (take (suc k) ds))
    (changes_vouched vs (before ++ d ∷ []) ds (parts_clear vs (before ++ d ∷ []) d.parts (states_from (before ++ d ∷ []) ds) e) k p c (omega arith) h)

changes_pass : (vs : List Verdict) (before cs : List Change) →
    ((k p : ℕ) (c : Change) → k < length cs → has (get_or cs k c).parts p ≡ true → Vouched vs (state (before ++ take (suc k) cs) p)) →
    first_fault vs (states_from before cs) ≡ None
changes_pass vs before [] h = refl
changes_pass vs before (d ∷ ds) h =
    parts_pass vs (before ++ d ∷ []) d.parts (states_from (before ++ d ∷ []) ds) (λ p t. h 0 p d (omega arith) t)
    ∙ changes_pass vs (before ++ d ∷ []) ds (λ k p c lt t. subst (λ l. Vouched vs (state l p)) (sym (append_assoc before (d ∷ []) (take (suc k) ds))) (h (suc k) p c (omega arith) t))

pub accepts_exactly : AcceptsExactly
accepts_exactly vs main = (λ e. changes_vouched vs [] main (ap is_some e), λ h. changes_pass vs [] main h)
