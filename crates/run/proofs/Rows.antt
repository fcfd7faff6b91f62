-- Laws of runs and verdicts as records: how long they are, what is read from them, and which numbers that depends on.
use Rattle.std.proofs.Common.{◌≡◌, ℕ, ◌-◌, ◌≤◌, min, Bool, true, false, cond, eqb, List, [], ◌∷◌, ◌++◌, length, get_or, take, drop, sym, refl, ap, ◌∙◌, arith, length-append, length-drop, take-append-drop}
use lib.Seq.{take-length}
use Rattle.std.proofs.lemmas.List.{append_assoc, drop_at, get_or_at, get_or_append_left, take-append-le, drop-append-le, length_push, length-take-le}
use Rattle.change.specs.Change.{Change, line}
use Rattle.change.specs.Records.{fixed}
use Rattle.change.proofs.Rows.{Local, length-fixed, take-fixed}
use Rattle.run.specs.Run.{Run, Verdict}
use Rattle.run.specs.Records.{run_width, verdict_width, run_in, run_of, row_of, verdict_row_of, verdict_in, run_row, verdict_row, Ahead, AheadVerdict}
use Rattle.run.specs.Limits.{most_following}
use Rattle.run.specs.declared.run.Run as declared

module _ (landed : List Change) where
  pub length-run_row : (r : Run) → length (run_row landed r) ≡ run_width
  unfolding run_row
  length-run_row r = omega (arith, length-fixed most_following (drop (length (line r.part landed)) r.changes))

  pub length-verdict_row : (v : Verdict) → length (verdict_row landed v) ≡ verdict_width
  unfolding verdict_row
  length-verdict_row v = length_push (run_row landed v.run) (cond v.good 1 0) ∙ omega (arith, length-run_row v.run)

  -- what the record of a run says is the run
  pub read_run_row : (r : Run) (ys : List ℕ) → Ahead landed r → run_in landed (run_row landed r ++ ys) ≡ r
  unfolding run_row
  read_run_row r ys h =
      let L : List ℕ = line r.part landed in
      let F : List ℕ = h.following in
      let d : drop (length L) r.changes ≡ F = ap (drop (length L)) h.is ∙ drop_at L F (length L) refl in
      let m : min (length r.changes - length L) most_following ≡ length F = omega (arith, ap length h.is, length-append L F, h.few) in
      let f : take (length F) (fixed most_following F ++ ys) ≡ F =
      take-append-le (length F) (fixed most_following F) ys (omega (arith, length-fixed most_following F, h.few)) ∙ take-fixed most_following F h.few in
      let t : take (min (length r.changes - length L) most_following) (fixed most_following (drop (length L) r.changes) ++ ys) ≡ F =
      (λ i. take (m i) (fixed most_following (d i) ++ ys)) ∙ f in
      let c : take (length L) L ++ take (min (length r.changes - length L) most_following) (fixed most_following (drop (length L) r.changes) ++ ys) ≡ r.changes =
      (λ i. take-length L i ++ t i) ∙ sym h.is in
      λ i. record { part = r.part; changes = c i }

  -- what the record of a verdict says is the verdict
  pub read_verdict_row : (v : Verdict) (ys : List ℕ) → AheadVerdict landed v → verdict_in landed (verdict_row landed v ++ ys) ≡ v
  unfolding verdict_row
  read_verdict_row v ys h =
      let R : List ℕ = run_row landed v.run in
      let a = append_assoc R (cond v.good 1 0 ∷ []) ys in
      let r = ap (run_in landed) a ∙ read_run_row v.run (cond v.good 1 0 ∷ ys) h in
      let g = ap (λ l. get_or l run_width 0) a ∙ get_or_at R (cond v.good 1 0) ys 0 run_width (length-run_row v.run) in
      let b = ap (λ u. eqb u 1) g ∙ back v.good in
      λ i. record { run = r i; good = b i }
    where
      back : (b : Bool) → eqb (cond b 1 0) 1 ≡ b
      back true = refl
      back false = refl

  -- a run is in the first numbers of its record
  pub run_in-local : Local (run_in landed) run_width
  run_in-local xs ys le =
      let a : get_or (xs ++ ys) 0 0 ≡ get_or xs 0 0 = get_or_append_left xs ys 0 0 (omega arith) in
      let b : get_or (xs ++ ys) 1 0 ≡ get_or xs 1 0 = get_or_append_left xs ys 0 1 (omega arith) in
      let c : get_or (xs ++ ys) 2 0 ≡ get_or xs 2 0 = get_or_append_left xs ys 0 2 (omega arith) in
      let m : ℕ = min (get_or xs 2 0) most_following in
      let t : take m (drop 3 xs ++ ys) ≡ take m (drop 3 xs) = take-append-le m (drop 3 xs) ys (omega (arith, length-drop 3 xs)) in
      let d : drop 3 (xs ++ ys) ≡ drop 3 xs ++ ys = drop-append-le 3 xs ys (omega arith) in
      let f : take (min (get_or (xs ++ ys) 2 0) most_following) (drop 3 (xs ++ ys)) ≡ take m (drop 3 xs) = (λ i. take (min (c i) most_following) (d i)) ∙ t in
      λ i. record { part = a i; changes = take (b i) (line (a i) landed) ++ f i }

  pub verdict_in-local : Local (verdict_in landed) verdict_width
  verdict_in-local xs ys le =
      let r = run_in-local xs ys (omega arith) in
      let g : get_or (xs ++ ys) run_width 0 ≡ get_or xs run_width 0 = get_or_append_left xs ys 0 run_width (omega arith) in
      λ i. record { run = r i; good = eqb (g i) 1 }

  -- the record of the code's struct is that of its run, where it begins with all landed changes of its part
  pub row_is : (r : declared.Run) → r.begins ≡ length (line r.part landed) → r.follows ≤ length r.numbers → row_of r ≡ run_row landed (run_of landed r)
  unfolding run_row
  row_is r begins few =
      let L : List ℕ = line r.part landed in
      let F : List ℕ = take r.follows r.numbers in
      let e : (run_of landed r).changes ≡ L ++ F = ap (λ l. l ++ F) (ap (λ k. take k L) begins ∙ take-length L) in
      let n : length (run_of landed r).changes - length L ≡ r.follows = omega (arith, ap length e, length-append L F, length-take-le r.follows r.numbers few) in
      let f : drop (length L) (run_of landed r).changes ≡ F = ap (drop (length L)) e ∙ drop_at L F (length L) refl in
      λ i. r.part ∷ begins i ∷ sym n i ∷ fixed most_following (sym f i)

-- a run is in the first numbers of a longer record
pub run_in_row : (landed : List Change) (xs : List ℕ) (w : ℕ) → run_width ≤ w → w ≤ length xs → run_in landed (take w xs) ≡ run_in landed xs
run_in_row landed xs w wide long =
    sym (run_in-local landed (take w xs) (drop w xs) (omega (arith, length-take-le w xs long))) ∙ ap (run_in landed) (take-append-drop w xs)

-- the record of a verdict on a run by value is as long as it should be
pub length-verdict_row_of : (r : declared.Run) (good : Bool) → length (verdict_row_of r good) ≡ verdict_width
length-verdict_row_of r good =
    length_push (row_of r) (cond good 1 0) ∙ omega (arith, length-fixed most_following (take r.follows r.numbers))
