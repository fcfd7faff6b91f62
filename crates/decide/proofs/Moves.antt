-- Laws of moving one change between sections: it is put behind the others of a section, or taken out of it; and it is counted.
use Rattle.std.proofs.Common.{◌≡◌, ℕ, zero, suc, ◌+◌, ◌*◌, ◌<◌, ◌≤◌, Bool, true, false, cond, List, [], ◌∷◌, ◌++◌, length, get_or, take, drop, sym, refl, ap, ◌∙◌, add-one, arith, length-append}
use Rattle.std.specs.List.{AllByRecursion}
use Rattle.change.specs.Change.{Change, has, line, part_limit, without}
use Rattle.change.specs.Records.{change_row, change_width, written, row_out, Tallies}
use Rattle.change.proofs.ChangeLaws.{length-change_row, line-append}
use Rattle.change.proofs.Tables.{table_push, table_out}
use Rattle.run.specs.Numbers.{changes_section}

-- a change that says nothing, where one must be named
abbrev pub none : Change
none = record { number = 0; parts = [] }

module _ {A : Type 0} where
  cut_out : (i : ℕ) (xs : List A) → i < length xs → without i xs ≡ take i xs ++ drop (suc i) xs
  cut_out i [] lt = absurd (omega arith)
  cut_out zero (x ∷ xs) lt = refl
  cut_out (suc i) (x ∷ xs) lt = ap (λ l. x ∷ l) (cut_out i xs (omega arith))

  pub without_is : (i : ℕ) (xs : List A) → i < length xs → without i xs ≡ take i xs ++ drop (i + 1) xs
  without_is i xs lt = cut_out i xs lt ∙ ap (λ u. take i xs ++ drop u xs) (sym (add-one i))

  pub length_without : (i : ℕ) (xs : List A) → i < length xs → length (without i xs) + 1 ≡ length xs
  length_without i [] lt = absurd (omega arith)
  length_without zero (x ∷ xs) lt = omega arith
  length_without (suc i) (x ∷ xs) lt = omega (arith, length_without i xs (omega arith))

  pub all_without : (P : A → Type 0) (i : ℕ) (xs : List A) → AllByRecursion P xs → AllByRecursion P (without i xs)
  all_without P i [] h = tt
  all_without P zero (x ∷ xs) h = h.1
  all_without P (suc i) (x ∷ xs) h = (h.0, all_without P i xs h.1)

-- one more stands in a section
pub section_more : (most : ℕ) (cs : List Change) (c : Change) (n : ℕ) → n ≡ length cs → n < most →
    written (change_width * n) (change_row c) (changes_section most cs) ≡ changes_section most (cs ++ c ∷ [])
section_more most cs c n e lt = table_push change_row change_width length-change_row (change_width * most) (change_width * n) cs c (ap (λ u. change_width * u) e) (omega arith)

-- one stands there no more
pub section_less : (most : ℕ) (cs : List Change) (n i : ℕ) → n ≡ length cs → i < n → n ≤ most → row_out change_width n i (changes_section most cs) ≡ changes_section most (without i cs)
section_less most cs n i e lt few =
    ap (λ u. row_out change_width u i (changes_section most cs)) e
    ∙ (table_out change_row change_width length-change_row (change_width * most) i cs none (omega arith) (omega arith) ∙ ap (changes_section most) (sym (without_is i cs (omega arith))))

-- counts of the landed changes, where one more is counted at each of its parts
pub tallies_land : (ts us : List ℕ) (cs : List Change) (c : Change) → Tallies ts cs → ((p : ℕ) → p < part_limit → get_or us p 0 ≡ get_or ts p 0 + cond (has c.parts p) 1 0) → Tallies us (cs ++ c ∷ [])
tallies_land ts us cs c h f p lt = f p lt ∙ (ap (λ u. u + cond (has c.parts p) 1 0) (h p lt) ∙ sym (ap length (line-append p cs (c ∷ [])) ∙ (length-append (line p cs) (line p (c ∷ [])) ∙ ap (λ u. length (line p cs) + u) (one (has c.parts p)))))
  where
    one : (b : Bool) → length (cond b (c.number ∷ []) []) ≡ cond b 1 0
    one true = refl
    one false = refl
