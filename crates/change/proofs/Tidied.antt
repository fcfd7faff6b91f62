-- Laws of a record whose parts are written over one by one: those that are used as they are, 0 for the others.
use Rattle.std.proofs.Common.{◌≡◌, ℕ, ◌+◌, ◌-◌, ◌<◌, ◌≤◌, min, List, [], ◌∷◌, ◌++◌, length, get_or, take, drop, set, replicate, sym, ap, ◌∙◌, arith, length-append}
use lib.ListN.{get_or-replicate}
use lib.Seq.{take-length}
use Rattle.std.proofs.lemmas.List.{append_assoc, append-nil, drop_all, drop_more, take_more, set_at, get_or_at, get_or-take, get_or_append_left, get_or-append_right, length-take-le}
use Rattle.change.specs.Change.{most_parts}
use Rattle.change.specs.Records.{change_in, change_row, change_width, fixed}
use Rattle.change.proofs.Rows.{fixed_is, length-fixed}

module _ (front ps : List ℕ) (count j : ℕ) (two : length front ≡ 2) (eight : length ps ≡ most_parts) (few : count ≤ most_parts) (lt : j < most_parts) where
  abbrev used : List ℕ
  used = fixed most_parts (take count ps)

  long : length (take count ps) ≡ count
  long = length-take-le count ps (omega arith)

  used_is : used ≡ take count ps ++ replicate (most_parts - length (take count ps)) 0
  used_is = fixed_is most_parts (take count ps) (omega (arith, long))

  pub used_part : j < count → get_or used j 0 ≡ get_or ps j 0
  used_part less =
      ap (λ l. get_or l j 0) used_is ∙ (get_or_append_left (take count ps) (replicate (most_parts - length (take count ps)) 0) 0 j (omega (arith, long)) ∙ get_or-take count ps j 0 less)

  pub unused_part : count ≤ j → get_or used j 0 ≡ 0
  unused_part more =
      ap (λ l. get_or l j 0) used_is
      ∙ (get_or-append_right (take count ps) (replicate (most_parts - length (take count ps)) 0) count j 0 long more ∙ get_or-replicate {A = ℕ} (most_parts - length (take count ps)) (j - count) 0 0 (omega (arith, long)))

  length_front : length (front ++ take j used) ≡ 2 + j
  length_front = length-append front (take j used) ∙ omega (arith, two, length-take-le j used (omega (arith, length-fixed most_parts (take count ps))))

  split : front ++ (take j used ++ drop j ps) ≡ (front ++ take j used) ++ get_or ps j 0 ∷ drop (j + 1) ps
  split = sym (append_assoc front (take j used) (drop j ps)) ∙ ap (λ l. (front ++ take j used) ++ l) (drop_more ps j 0 (omega arith))

  -- the part at hand is as it was, and then one more is written
  pub part_is : (row : List ℕ) → row ≡ front ++ (take j used ++ drop j ps) → get_or row (2 + j) 0 ≡ get_or ps j 0
  part_is row is = ap (λ l. get_or l (2 + j) 0) (is ∙ split) ∙ get_or_at (front ++ take j used) (get_or ps j 0) (drop (j + 1) ps) 0 (2 + j) length_front

  pub part_written : (row : List ℕ) (v : ℕ) → row ≡ front ++ (take j used ++ drop j ps) → v ≡ get_or used j 0 → set row (2 + j) v ≡ front ++ (take (j + 1) used ++ drop (j + 1) ps)
  part_written row v is e =
      ap (λ l. set l (2 + j) v) (is ∙ split)
      ∙ (set_at (front ++ take j used) (get_or ps j 0) (drop (j + 1) ps) v (2 + j) length_front
      ∙ (append_assoc front (take j used) (v ∷ drop (j + 1) ps)
      ∙ ap (λ l. front ++ l)
      (ap (λ u. take j used ++ u ∷ drop (j + 1) ps) e
      ∙ (sym (append_assoc (take j used) (get_or used j 0 ∷ []) (drop (j + 1) ps))
      ∙ ap (λ l. l ++ drop (j + 1) ps) (sym (take_more used j 0 (omega (arith, length-fixed most_parts (take count ps)))))))))

-- once all parts are written the record is as it reads
pub record_tidied : (xs row : List ℕ) (count j : ℕ) → length xs ≡ change_width → count ≡ min (get_or xs 1 0) most_parts → j ≡ most_parts →
    row ≡ take 2 (set xs 1 count) ++ (take j (fixed most_parts (take count (drop 2 (set xs 1 count)))) ++ drop j (drop 2 (set xs 1 count))) → row ≡ change_row (change_in xs)
record_tidied [] row count j ten e all is = absurd (omega arith)
record_tidied (a ∷ []) row count j ten e all is = absurd (omega arith)
record_tidied (a ∷ b ∷ ps) row count j ten e all is =
    let F : List ℕ = fixed most_parts (take count ps) in
    let none : drop j ps ≡ [] = drop_all j ps (omega arith) in
    let whole : take j F ≡ F = ap (λ u. take u F) (all ∙ sym (length-fixed most_parts (take count ps))) ∙ take-length F in
    let n : count ≡ length (take count ps) = sym (length-take-le count ps (omega arith)) in
    is ∙ ((λ i. a ∷ n i ∷ (whole i ++ none i)) ∙ (ap (λ l. a ∷ length (take count ps) ∷ l) (append-nil F) ∙ (λ i. a ∷ length (take (e i) ps) ∷ fixed most_parts (take (e i) ps))))
