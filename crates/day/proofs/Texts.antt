-- The texts of runs and of the state, from the numbers that the code reads. Assumes nothing.
use Rattle.std.proofs.Common.{◌≡◌, ℕ, suc, ◌+◌, ◌-◌, ◌<◌, ◌≤◌, min, Bool, true, false, cond, ◌||◌, List, [], ◌∷◌, ◌++◌, get_or, take, drop, codes, decimal, sym, ap, ◌∙◌, subst, append_assoc, add-zero, arith}
use Rattle.std.specs.List.{flat_map}
use Rattle.std.proofs.Math.Bool.{or-false, or-true}
use Rattle.std.specs.Fmt.{IsPlainFormatter, HasWritten}
use Rattle.std.specs.declared.fmt.Formatter.{Formatter}
use Rattle.std.proofs.lemmas.List.{get_or-drop, drop-drop}
use Rattle.change.specs.Change.{Change, has, line}
use Rattle.change.proofs.ChangeLaws.{line_touched}
use Rattle.change.specs.Records.{rows, change_in, changes_in, change_width}
use Rattle.run.specs.Records.{run_in, runs_in}
use Rattle.run.specs.Limits.{most_following}
use Rattle.run.specs.Layout.{landed_count, waiting_count, rejected_count, running_count, requested_at, landed_at, waiting_at, rejected_at, running_at}
use Rattle.run.specs.Numbers.{decode}
use Rattle.run.specs.Text.{changes_text}
use Rattle.run.proofs.Writing.{Sofar, sofar_none, sofar_more, sofar_all, text_more}
use Rattle.day.proofs.Writing.{rows_step}
use Rattle.day.specs.Text.{change_text, run_text, line_text, some, Begun}

-- the numbers behind a count that stands in others
pub counted_at : (k most : ℕ) (xs ys : List ℕ) → ys ≡ drop k xs → take (min (get_or ys 0 0) most) (drop 1 ys) ≡ take (min (get_or xs k 0) most) (drop (k + 1) xs)
counted_at k most xs ys e =
    ap (λ l. take (min (get_or l 0 0) most) (drop 1 l)) e
    ∙ (λ j. take (min ((get_or-drop k xs 0 0 ∙ ap (λ i. get_or xs i 0) (add-zero k)) j) most) (drop-drop 1 k xs j))

module _ (p n m : ℕ) (xs ys row : List ℕ) (e : rows (λ l. l) change_width n xs ≡ row ∷ rows (λ l. l) change_width m ys) where
  -- what is left to write of the part's line, at a change that is written
  pub begun_yes : (left number : ℕ) → 0 < left → number ≡ get_or row 0 0 → has (change_in row).parts p ≡ true →
      take left (line p (changes_in n xs)) ≡ number ∷ take (left - 1) (line p (changes_in m ys))
  begun_yes left number more is touched =
      let k : left ≡ suc (left - 1) = omega arith in
      ap (λ l. take left (line p l)) (rows_step change_in change_width n m xs ys row e)
      ∙ ap (take left) (line_touched p (change_in row) (changes_in m ys) touched)
      ∙ ap (λ u. take u (get_or row 0 0 ∷ line p (changes_in m ys))) k
      ∙ ap (λ u. u ∷ take (left - 1) (line p (changes_in m ys))) (sym is)

  -- at one that is not
  pub begun_no : (left : ℕ) → has (change_in row).parts p ≡ false → take left (line p (changes_in n xs)) ≡ take left (line p (changes_in m ys))
  begun_no left touched =
      let cs = changes_in m ys in
      ap (λ l. take left (line p l)) (rows_step change_in change_width n m xs ys row e) ∙ ap (λ b. take left (cond b (get_or row 0 0 ∷ line p cs) (line p cs))) touched

-- none is left to write, whatever stands there
pub begun_full : (left : ℕ) (ns ms : List ℕ) → left ≤ 0 → take left ns ≡ take left ms
begun_full left ns ms le = let z : left ≡ 0 = omega arith in ap (λ u. take u ns) z ∙ sym (ap (λ u. take u ms) z)

-- changes behind others
pub text-append : (led : Bool) (ns ms : List ℕ) → changes_text led (ns ++ ms) ≡ changes_text led ns ++ changes_text (led || some ns) ms
text-append led [] ms = ap (λ b. changes_text b ms) (sym (or-false led))
text-append led (n ∷ ns) ms =
    let mark = cond led (codes "+") [] in
    ap (λ l. mark ++ (decimal n ++ l)) (text-append true ns ms ∙ ap (λ b. changes_text true ns ++ changes_text b ms) (sym (or-true led)))
    ∙ ap (λ l. mark ++ l) (sym (append_assoc (decimal n) (changes_text true ns) (changes_text (led || true) ms)))
    ∙ sym (append_assoc mark (decimal n ++ changes_text true ns) (changes_text (led || true) ms))

-- a run's text: its part and the colon, the changes that it begins with, and those that follow
pub run_is : (landed : List Change) (row ms : List ℕ) (part most : ℕ) (led : Bool) → part ≡ get_or row 0 0 → most ≡ get_or row 1 0 → ms ≡ take (min (get_or row 2 0) most_following) (drop 3 row) →
    led ≡ some (take most (line part landed)) →
    (codes " " ++ (decimal part ++ codes ":")) ++ (changes_text false (take most (line part landed)) ++ changes_text led ms) ≡ run_text (run_in landed row)
run_is landed row ms part most led ep em es el =
    let ns = take most (line part landed) in
    ap (λ l. codes " " ++ l) (append_assoc (decimal part) (codes ":") (changes_text false ns ++ changes_text led ms))
    ∙ ap (λ b. codes " " ++ (decimal part ++ (codes ":" ++ (changes_text false ns ++ changes_text b ms)))) el
    ∙ ap (λ l. codes " " ++ (decimal part ++ (codes ":" ++ l))) (sym (text-append false ns ms))
    ∙ (λ j. codes " " ++ (decimal (ep j) ++ (codes ":" ++ changes_text false (take (em j) (line (ep j) landed) ++ es j))))

module _ {W : Type 0} (took : W → List ℕ → W → Type 0) (f : Formatter W) (all : List ℕ) where
  -- of a run's first changes these are left, and `led` says whether some were written
  abbrev pub Left : Bool → List ℕ → Formatter W → Type 0
  Left led left g = Sofar took f (changes_text false all) (changes_text led left) g × (some all ≡ (led || some left))

  pub left_none : (ns : List ℕ) → ns ≡ all → Left false ns f
  left_none ns e = (sofar_none took f _ _ (ap (changes_text false) e), ap some (sym e))

  pub left_more : (led : Bool) (n : ℕ) (ns left : List ℕ) (g h : Formatter W) → Left led left g → left ≡ n ∷ ns → (IsPlainFormatter g → HasWritten took g (cond led (codes "+") [] ++ decimal n) h) → Left true ns h
  left_more led n ns left g h s e k =
      (sofar_more took f _ _ g _ _ h s.0 (text_more led n ns left e) k, s.1 ∙ ap (λ l. led || some l) e ∙ or-true led)

  pub left-same : (led : Bool) (ns left : List ℕ) (g : Formatter W) → Left led left g → left ≡ ns → Left led ns g
  left-same led ns left g s e = subst (λ l. Left led l g) e s

  pub left-all : (led : Bool) (left : List ℕ) (g : Formatter W) → Left led left g → left ≡ [] → Begun took f all led g
  left-all led left g s e = (sofar_all took f _ _ g s.0 (ap (changes_text led) e), sym (s.1 ∙ ap (λ l. led || some l) e ∙ or-false led))

-- so many records, and the numbers that begin with them, are those of a section
pub record Holds (xs : List ℕ) (count_at at n : ℕ) (ys : List ℕ) : Type 0 where
  pub count : n ≡ get_or xs count_at 0
  pub numbers : ys ≡ drop at xs

-- the state's text, from its sections
pub line_is : (xs : List ℕ) (l w b r n : ℕ) (ls ws bs rs : List ℕ) → Holds xs landed_count landed_at l ls → Holds xs waiting_count waiting_at w ws → Holds xs rejected_count rejected_at b bs →
    Holds xs running_count running_at r rs → n ≡ get_or xs requested_at 0 →
    codes "landed" ++ (flat_map change_text (changes_in l ls) ++ (codes " waits" ++ (flat_map change_text (changes_in w ws) ++ (codes " back" ++ (flat_map change_text (changes_in b bs)
    ++ (codes " out" ++ (flat_map run_text (runs_in (changes_in l ls) r rs) ++ (codes " asked " ++ decimal n)))))))) ≡ line_text (decode xs)
unfolding line_text decode
line_is xs l w b r n ls ws bs rs hl hw hb hr hn = λ j.
    codes "landed" ++ (flat_map change_text (changes_in (hl.count j) (hl.numbers j)) ++ (codes " waits" ++ (flat_map change_text (changes_in (hw.count j) (hw.numbers j))
    ++ (codes " back" ++ (flat_map change_text (changes_in (hb.count j) (hb.numbers j))
    ++ (codes " out" ++ (flat_map run_text (runs_in (changes_in (hl.count j) (hl.numbers j)) (hr.count j) (hr.numbers j)) ++ (codes " asked " ++ decimal (hn j)))))))))
