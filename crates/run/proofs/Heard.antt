-- Laws of looking at verdicts one by one: which of them is of a run, and what is then known of it.
use Rattle.std.proofs.Common.{◌≡◌, ℕ, ◌+◌, ◌*◌, ◌<◌, ◌≤◌, Bool, true, false, cond, eqb, List, length, get_or, take, drop, sym, ap, ◌∙◌, arith, length-drop}
use Rattle.std.proofs.lemmas.List.{get_or-take}
use Rattle.change.specs.Change.{Change, line}
use Rattle.change.proofs.Rows.{rest, rest_all, rest_more}
use Rattle.run.specs.Layout.{verdicts_at}
use Rattle.run.specs.Numbers.{Begins}
use Rattle.run.specs.Records.{run_in, run_width, verdict_in, verdict_width}
use Rattle.run.specs.Run.{Run, heard, same_run}
use Rattle.run.specs.declared.known.Known.TheVariants.{Nothing, Good, Bad}
use Rattle.run.specs.declared.run.Run as declared
use Rattle.run.proofs.Compared.{other_part, same_run_swap}
use Rattle.run.proofs.Rows.{run_in_row}

-- the part of the queue that is the k-th verdict
abbrev pub verdict_at : List ℕ → ℕ → List ℕ
verdict_at xs k = take verdict_width (drop (verdicts_at + verdict_width * k) xs)

module _ (xs : List ℕ) (k : ℕ) where
  number_of_verdict : (j : ℕ) → j < verdict_width → get_or (verdict_at xs k) j 0 ≡ get_or (drop (verdicts_at + verdict_width * k) xs) j 0
  number_of_verdict j lt = get_or-take verdict_width (drop (verdicts_at + verdict_width * k) xs) j 0 lt

  -- a run that is read from it fits
  pub stored_fits : (cs : List Change) (r : declared.Run) → r.part ≡ get_or (verdict_at xs k) 0 0 → r.begins ≡ get_or (verdict_at xs k) 1 0 → Begins cs (drop (verdicts_at + verdict_width * k) xs) → r.begins ≤ length (line r.part cs)
  stored_fits cs r e f fits =
      let a = e ∙ number_of_verdict 0 (omega arith) in
      let b = f ∙ number_of_verdict 1 (omega arith) in
      omega (arith, ap (λ p. length (line p cs)) a)

-- what is known of a run by the verdicts from the k-th on: the k-th is of it, and good or bad, or is not
module _ (cs : List Change) (xs : List ℕ) (n k : ℕ) (top stored : Run) (long : verdicts_at + verdict_width * n ≤ length xs) (lt : k < n) (is : stored ≡ run_in cs (verdict_at xs k)) where
  abbrev at : ℕ
  at = verdicts_at + verdict_width * k

  compared : (b : Bool) → same_run stored top ≡ b → same_run top (run_in cs (drop at xs)) ≡ b
  compared b e =
      let w = run_in_row cs (drop at xs) verdict_width (omega arith) (omega (arith, length-drop at xs)) in
      same_run_swap top (run_in cs (drop at xs)) ∙ (ap (λ r. same_run r top) (sym (is ∙ w)) ∙ e)

  heard_next : (t g : Bool) → same_run stored top ≡ t → eqb (get_or (drop at xs) run_width 0) 1 ≡ g →
      heard top (rest (verdict_in cs) verdict_width xs verdicts_at n k) ≡ cond t (cond g Good Bad) (heard top (rest (verdict_in cs) verdict_width xs verdicts_at n (k + 1)))
  heard_next t g e f =
      ap (heard top) (rest_more (verdict_in cs) verdict_width xs verdicts_at n k lt)
      ∙ (λ i. cond (compared t e i) (cond (f i) Good Bad) (heard top (rest (verdict_in cs) verdict_width xs verdicts_at n (k + 1))))

  pub heard-good : same_run stored top ≡ true → eqb (get_or (verdict_at xs k) run_width 0) 1 ≡ true → heard top (rest (verdict_in cs) verdict_width xs verdicts_at n k) ≡ Good
  heard-good e g = heard_next true true e (ap (λ u. eqb u 1) (sym (number_of_verdict xs k run_width (omega arith))) ∙ g)

  pub heard_bad : same_run stored top ≡ true → eqb (get_or (verdict_at xs k) run_width 0) 1 ≡ false → heard top (rest (verdict_in cs) verdict_width xs verdicts_at n k) ≡ Bad
  heard_bad e g = heard_next true false e (ap (λ u. eqb u 1) (sym (number_of_verdict xs k run_width (omega arith))) ∙ g)

  pub heard_later : same_run stored top ≡ false → heard top (rest (verdict_in cs) verdict_width xs verdicts_at n k) ≡ heard top (rest (verdict_in cs) verdict_width xs verdicts_at n (k + 1))
  heard_later e = heard_next false (eqb (get_or (drop at xs) run_width 0) 1) e (λ i. eqb (get_or (drop at xs) run_width 0) 1)

-- a verdict on a run of another part
pub heard_elsewhere : (cs : List Change) (xs : List ℕ) (n k : ℕ) (top : Run) → verdicts_at + verdict_width * n ≤ length xs → k < n → (get_or (verdict_at xs k) 0 0 ≡ top.part → ⊥) →
    heard top (rest (verdict_in cs) verdict_width xs verdicts_at n k) ≡ heard top (rest (verdict_in cs) verdict_width xs verdicts_at n (k + 1))
heard_elsewhere cs xs n k top long lt differ =
    let stored : Run = run_in cs (verdict_at xs k) in
    heard_later cs xs n k top stored long lt (λ i. stored) (sym (other_part stored top differ))

pub heard_none : (cs : List Change) (xs : List ℕ) (n k : ℕ) (top : Run) → n ≤ k → heard top (rest (verdict_in cs) verdict_width xs verdicts_at n k) ≡ Nothing
heard_none cs xs n k top all = ap (heard top) (rest_all (verdict_in cs) verdict_width xs verdicts_at n k all)
