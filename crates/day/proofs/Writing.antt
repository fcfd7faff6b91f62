-- Records that are gone through one by one, and a text that is written of each. Assumes nothing.
use Rattle.std.proofs.Common.{◌≡◌, ℕ, zero, suc, List, ◌∷◌, ◌++◌, map, drop, sym, refl, ap, ◌∙◌}
use Rattle.std.specs.List.{flat_map}
use Rattle.std.specs.declared.fmt.Formatter.{Formatter}
use Rattle.std.specs.Fmt.{IsPlainFormatter, HasWritten}
use Rattle.change.specs.Records.{rows}
use Rattle.run.proofs.Writing.{Sofar, sofar_more}

module _ {A : Type 0} (read : List ℕ → A) (w : ℕ) where
  rows-map : (n : ℕ) (xs : List ℕ) → rows read w n xs ≡ map read (rows (λ l. l) w n xs)
  rows-map zero xs = refl
  rows-map (suc n) xs = ap (λ l. read xs ∷ l) (rows-map n (drop w xs))

  -- the records, where the numbers from each on are these
  pub rows_as : (n : ℕ) (xs : List ℕ) (ls : List (List ℕ)) → rows (λ l. l) w n xs ≡ ls → rows read w n xs ≡ map read ls
  rows_as n xs ls e = rows-map n xs ∙ ap (map read) e

  -- where they are those from one on and those that are left
  pub rows_step : (n m : ℕ) (xs ys row : List ℕ) → rows (λ l. l) w n xs ≡ row ∷ rows (λ l. l) w m ys → rows read w n xs ≡ read row ∷ rows read w m ys
  rows_step n m xs ys row e = rows_as n xs _ e ∙ ap (λ l. read row ∷ l) (sym (rows-map m ys))

  -- one record is written, and others are left
  pub sofar_row : {W : Type 0} (took : W → List ℕ → W → Type 0) (text : A → List ℕ) (n m : ℕ) (xs ys row piece whole : List ℕ) (f g h : Formatter W) →
      Sofar took f whole (flat_map text (rows read w n xs)) g → rows (λ l. l) w n xs ≡ row ∷ rows (λ l. l) w m ys → text (read row) ≡ piece →
      (IsPlainFormatter g → HasWritten took g piece h) → Sofar took f whole (flat_map text (rows read w m ys)) h
  sofar_row took text n m xs ys row piece whole f g h s e is k =
      sofar_more took f whole _ g piece _ h s (ap (flat_map text) (rows_step n m xs ys row e) ∙ ap (λ l. l ++ flat_map text (rows read w m ys)) is) k
