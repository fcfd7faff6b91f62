-- The lines of a text, read one after another. Assumes nothing.
use Rattle.std.proofs.Common.{◌≡◌, ℕ, List, [], ◌∷◌, ◌++◌, map, length, sym, refl, ap, subst, append-nil}
use Rattle.std.specs.Str.Lines.{IsFirstLine}
use Rattle.audits.specs.Text.{LinesAre}

module _ {A : Type 0} (t : A → List ℕ) where
  -- the first lines of the text w are those of what was read, and rest is left of it
  abbrev pub Read : List ℕ → List A → List ℕ → Type 0
  Read w done rest = (xs : List (List ℕ)) → LinesAre rest xs → LinesAre w (map t done ++ xs)

  pushed : (done : List A) (a : A) (xs : List (List ℕ)) → map t done ++ (t a ∷ xs) ≡ map t (done ++ a ∷ []) ++ xs
  pushed [] a xs = refl
  pushed (d ∷ done) a xs = ap (λ (l : List (List ℕ)). t d ∷ l) (pushed done a xs)

  -- one more that was read stands for the next line
  pub read_more : (w : List ℕ) (done more : List A) (a : A) (rest x left : List ℕ) → more ≡ done ++ a ∷ [] → t a ≡ x → IsFirstLine rest x left → Read w done rest → Read w more left
  read_more w done more a rest x left p s l h = λ xs k.
      subst (λ ds. LinesAre w (map t ds ++ xs)) (sym p) (subst (LinesAre w) (pushed done a xs) (h (t a ∷ xs) (left, subst (λ y. IsFirstLine rest y left) (sym s) l, k)))

  pub read_all : (w : List ℕ) (done : List A) (rest : List ℕ) → length rest ≡ 0 → Read w done rest → LinesAre w (map t done)
  read_all w done rest e h = subst (LinesAre w) (append-nil (map t done)) (h [] e)
