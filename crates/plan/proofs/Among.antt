-- Laws of useful runs: which of them a run can be, and that each begins with all landed changes of its part.
use Rattle.std.proofs.Common.{◌≡◌, ℕ, zero, suc, ◌+◌, ◌-◌, ◌*◌, ◌<◌, ◌≤◌, min, Bool, true, false, ◌||◌, List, [], ◌∷◌, ◌++◌, length, get_or, take, drop, sym, refl, ap, ◌∙◌, subst, ⊎_elim, arith, length-append}
use Rattle.std.proofs.lemmas.List.{take_all, take_more, append_assoc, append-nil, drop_all, drop_more, drop-drop, length_push, same_from_push}
use Rattle.std.proofs.lemmas.Bool.{eq-eqb, ne_eqb, cases_Bool, cases_eq, cases_lt, or_right, false≢true}
use Rattle.change.specs.Change.{Change, has, line}
use Rattle.change.specs.Records.{change_in, change_width}
use Rattle.change.proofs.Rows.{front_rows, length-rows}
use Rattle.change.proofs.ChangeLaws.{line-append, length-line_le}
use Rattle.change.proofs.Tables.{get_d_rows}
use Rattle.run.specs.Limits.{most_following}
use Rattle.run.specs.Run.{Run, same_run, run_on, runs_on}
use Rattle.run.specs.Records.{run_of, Ahead}
use Rattle.run.specs.declared.run.Run as declared
use Rattle.run.specs.Layout.{waiting_at, depth_at}
use Rattle.run.specs.Numbers.{landed_in, waiting_in}
use Rattle.plan.specs.Plan.{among, useful}
use Rattle.plan.specs.Numbers.{first_waiting, useful_now, Ready}
use Rattle.run.proofs.Compared.{same_run_true, other_part, other_changes}
use Rattle.plan.proofs.Ahead.{ahead_on}

-- a run among two lists is among the one or the other
pub among-parts : (r : Run) (xs ys : List Run) → among r (xs ++ ys) ≡ (among r xs || among r ys)
among-parts r [] ys = refl
among-parts r (x ∷ xs) ys = go (among-parts r xs ys) (same_run r x)
  where
    go : among r (xs ++ ys) ≡ (among r xs || among r ys) → (b : Bool) → (b || among r (xs ++ ys)) ≡ ((b || among r xs) || among r ys)
    go ih true = refl
    go ih false = ih

among-append : (r : Run) (b : Bool) (xs ys : List Run) → among r xs ≡ b → among r (xs ++ ys) ≡ (b || among r ys)
among-append r b xs ys e = among-parts r xs ys ∙ ap (λ u. u || among r ys) e

-- a run among those of a change: only the one of its own part can be it
module _ (r : Run) (before : List Change) (n : ℕ) where
  not_this : (p : ℕ) → (p ≡ r.part → ⊥) → same_run r (run_on before n p) ≡ false
  not_this p ne = sym (other_part r (run_on before n p) (λ e. ne (sym e)))

  pub among_none : (ps : List ℕ) → has ps r.part ≡ false → among r (runs_on before n ps) ≡ false
  among_none [] h = refl
  among_none (p ∷ ps) h = ⊎_elim
      (λ e. absurd (false≢true (sym h ∙ ap (λ u. u || has ps r.part) (eq-eqb p r.part e))))
      (λ ne. ap (λ u. u || among r (runs_on before n ps)) (not_this p ne) ∙ among_none ps (sym (ap (λ u. u || has ps r.part) (ne_eqb p r.part ne)) ∙ h))
      (cases_eq p r.part)

  pub among_not : (ps : List ℕ) → same_run r (run_on before n r.part) ≡ false → among r (runs_on before n ps) ≡ false
  among_not [] h = refl
  among_not (p ∷ ps) h = ⊎_elim
      (λ e. ap (λ u. u || among r (runs_on before n ps)) (ap (λ q. same_run r (run_on before n q)) e ∙ h) ∙ among_not ps h)
      (λ ne. ap (λ u. u || among r (runs_on before n ps)) (not_this p ne) ∙ among_not ps h)
      (cases_eq p r.part)

  pub among_yes : (ps : List ℕ) → has ps r.part ≡ true → same_run r (run_on before n r.part) ≡ true → among r (runs_on before n ps) ≡ true
  among_yes [] h s = absurd (false≢true h)
  among_yes (p ∷ ps) h s = ⊎_elim
      (λ e. ap (λ u. u || among r (runs_on before n ps)) (ap (λ q. same_run r (run_on before n q)) e ∙ s))
      (λ ne. or_right (same_run r (run_on before n p)) (among r (runs_on before n ps)) (among_yes ps (sym (ap (λ u. u || has ps r.part) (ne_eqb p r.part ne)) ∙ h) s))
      (cases_eq p r.part)

  -- it is not one that ends with another number
  pub last_not : (ys : List ℕ) (m : ℕ) → r.changes ≡ ys ++ m ∷ [] → (n ≡ m → ⊥) → same_run r (run_on before n r.part) ≡ false
  last_not ys m e ne = sym (other_changes r (run_on before n r.part) (λ q. ne (sym (same_from_push ys (line r.part before) m n (sym e ∙ q)).1)))

  -- it is not one that is longer
  short_not : length r.changes ≤ length (line r.part before) → same_run r (run_on before n r.part) ≡ false
  short_not le = sym (other_changes r (run_on before n r.part) (λ q. omega (arith, ap length q, length_push (line r.part before) n)))

-- a run that has no more than what landed is not useful
pub short_useless : (r : Run) (d : ℕ) (before ws : List Change) → length r.changes ≤ length (line r.part before) → among r (useful d before ws) ≡ false
unfolding useful
short_useless r zero before ws le = refl
short_useless r (suc d) before [] le = refl
short_useless r (suc d) before (c ∷ ws) le =
    among-append r false (runs_on before c.number c.parts) (useful d (before ++ c ∷ []) ws) (among_not r before c.number c.parts (short_not r before c.number le))
    ∙ short_useless r d (before ++ c ∷ []) ws (omega (arith, ap length (line-append r.part before (c ∷ [])), length-append (line r.part before) (line r.part (c ∷ []))))

-- the useful runs from the i-th that waits on: those of the i-th, and those from the next on
useful_more : (d i : ℕ) (cs ws : List Change) (x : Change) → i < d → i < length ws →
    useful (d - i) (cs ++ take i ws) (drop i ws) ≡ runs_on (cs ++ take i ws) (get_or ws i x).number (get_or ws i x).parts ++ useful (d - (i + 1)) (cs ++ take (i + 1) ws) (drop (i + 1) ws)
unfolding useful
useful_more d i cs ws x ld lw =
    let m : d - i ≡ suc (d - (i + 1)) = omega arith in
    ap (λ u. useful u (cs ++ take i ws) (drop i ws)) m
    ∙ (ap (useful (suc (d - (i + 1))) (cs ++ take i ws)) (drop_more ws i x lw)
    ∙ ap (λ b. runs_on (cs ++ take i ws) (get_or ws i x).number (get_or ws i x).parts ++ useful (d - (i + 1)) b (drop (i + 1) ws)) (append_assoc cs (take i ws) (get_or ws i x ∷ []) ∙ ap (λ b. cs ++ b) (sym (take_more ws i x lw))))

-- past the last that is looked at nothing is useful
useful_none : (before : List Change) (n : ℕ) → useful n before [] ≡ []
unfolding useful
useful_none before zero = refl
useful_none before (suc n) = refl

pub useful-all : (d i : ℕ) (before ws : List Change) → min d (length ws) ≤ i → useful (d - i) before (drop i ws) ≡ []
unfolding useful
useful-all d i before ws le = ⊎_elim
    (λ h. ap (useful (d - i) before) (drop_all i ws (omega arith)) ∙ useful_none before (d - i))
    (λ h. let z : d - i ≡ 0 = omega arith in ap (λ u. useful u before (drop i ws)) z)
    (cases_lt i d)

-- the i-th that waits is looked at: a run is one of its own, or it is among the later ones if it is useful
module _ (cs : List Change) (xs : List ℕ) (m d i : ℕ) (x : Change) (lm : i < m) (ld : i < d) (is : x ≡ change_in (drop (waiting_at + change_width * i) xs)) where
  abbrev ws : List Change
  ws = first_waiting m xs

  abbrev own : List Run
  own = runs_on (cs ++ first_waiting i xs) x.number x.parts

  abbrev later : List Run
  later = useful (d - (i + 1)) (cs ++ take (i + 1) ws) (drop (i + 1) ws)

  here : get_or ws i x ≡ x
  here = get_d_rows change_in change_width m i (drop waiting_at xs) x lm ∙ (ap change_in (drop-drop (change_width * i) waiting_at xs) ∙ sym is)

  pub ahead_more : useful (d - i) (cs ++ take i ws) (drop i ws) ≡ own ++ later
  ahead_more =
      useful_more d i cs ws x ld (omega (arith, length-rows change_in change_width m (drop waiting_at xs)))
      ∙ (ap (λ y. runs_on (cs ++ take i ws) y.number y.parts ++ later) here ∙ ap (λ l. runs_on (cs ++ l) x.number x.parts ++ later) (front_rows change_in change_width m i (drop waiting_at xs) (omega arith)))

  pub look_on : (r : Run) (b : Bool) → among r own ≡ false → among r (useful (d - i) (cs ++ take i ws) (drop i ws)) ≡ b → among r later ≡ b
  look_on r b e f = sym (among-append r false own later e) ∙ (ap (among r) (sym ahead_more) ∙ f)

  pub look_found : (r : Run) (b : Bool) → among r own ≡ true → among r (useful (d - i) (cs ++ take i ws) (drop i ws)) ≡ b → b ≡ true
  look_found r b e f = sym f ∙ (ap (among r) ahead_more ∙ among-append r true own later e)

-- the last number of a stored run
pub last_is : (cs : List Change) (a : declared.Run) (ns : List ℕ) → ns ≡ take a.follows a.numbers → 0 < length ns →
    (run_of cs a).changes ≡ (take a.begins (line a.part cs) ++ take (length ns - 1) ns) ++ get_or ns (length ns - 1) 0 ∷ []
last_is cs a ns e some =
    let k : ℕ = length ns - 1 in
    let all : take a.follows a.numbers ≡ take k ns ++ get_or ns k 0 ∷ [] = sym e ∙ (sym (take_all (k + 1) ns (omega arith)) ∙ take_more ns k 0 (omega arith)) in
    ap (λ l. take a.begins (line a.part cs) ++ l) all ∙ sym (append_assoc (take a.begins (line a.part cs)) (take k ns) (get_or ns k 0 ∷ []))

-- a useful run begins with all landed changes of its part
ahead_runs : (r : Run) (cs vs : List Change) (n : ℕ) (ps : List ℕ) → length vs < most_following → among r (runs_on (cs ++ vs) n ps) ≡ true → Ahead cs r
ahead_runs r cs vs n [] lt e = absurd (false≢true e)
ahead_runs r cs vs n (p ∷ ps) lt e = go (λ h. ahead_runs r cs vs n ps lt h) (same_run r (run_on (cs ++ vs) n p)) refl
  where
    go : (among r (runs_on (cs ++ vs) n ps) ≡ true → Ahead cs r) → (b : Bool) → same_run r (run_on (cs ++ vs) n p) ≡ b → Ahead cs r
    go ih true h = subst (Ahead cs) (sym (same_run_true r (run_on (cs ++ vs) n p) h)) (ahead_on cs vs n p (omega (arith, length-line_le p vs)))
    go ih false h = ih (sym (ap (λ u. u || among r (runs_on (cs ++ vs) n ps)) h) ∙ e)

ahead_useful : (r : Run) (d : ℕ) (cs vs ws : List Change) → length vs + d ≤ most_following → among r (useful d (cs ++ vs) ws) ≡ true → Ahead cs r
unfolding useful
ahead_useful r zero cs vs ws le e = absurd (false≢true e)
ahead_useful r (suc d) cs vs [] le e = absurd (false≢true e)
ahead_useful r (suc d) cs vs (c ∷ ws) le e =
    let f = sym (among-parts r (runs_on (cs ++ vs) c.number c.parts) (useful d ((cs ++ vs) ++ c ∷ []) ws)) ∙ e in
    ⊎_elim (λ h. ahead_runs r cs vs c.number c.parts (omega arith) h)
    (λ h. ahead_useful r d cs (vs ++ c ∷ []) ws (omega (arith, length_push vs c))
    (ap (λ l. among r (useful d l ws)) (sym (append_assoc cs vs (c ∷ []))) ∙ (sym (ap (λ u. u || among r (useful d ((cs ++ vs) ++ c ∷ []) ws)) h) ∙ f)))
    (cases_Bool (among r (runs_on (cs ++ vs) c.number c.parts)))

pub useful_ahead : (xs ts : List ℕ) (r : Run) → Ready xs ts → among r (useful_now xs) ≡ true → Ahead (landed_in xs) r
useful_ahead xs ts r h e =
    ahead_useful r (get_or xs depth_at 0) (landed_in xs) [] (waiting_in xs) (omega (arith, h.depth)) (ap (λ l. among r (useful (get_or xs depth_at 0) l (waiting_in xs))) (append-nil (landed_in xs)) ∙ e)
