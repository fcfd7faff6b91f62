-- Which runs are useful: how they begin and end, how many there are, and what stays useful. Assumes nothing.
use Rattle.std.proofs.Common.{◌≡◌, ℕ, zero, suc, ◌+◌, ◌*◌, ◌<◌, ◌≤◌, Bool, true, false, cond, not, ◌&&◌, ◌||◌, eqb, ltb, leb, ◌⊎◌, List, [], ◌∷◌, ◌++◌, length, is_some, Some, sym, refl, ap, ◌∙◌, subst, ap₂, inl, inr, true≢false, append_assoc, append-nil, arith, length-append}
use mathlib.Core.Bool.{or-true}
use Rattle.std.proofs.lemmas.Bool.{eqb-true, eq-eqb, not-true, leb-true, or_cases}
use Rattle.std.specs.List.{AllByRecursion}
use Rattle.change.proofs.ChangeLaws.{line-append, length-line_le}
use Rattle.run.proofs.Compared.{same_run_true}
use Rattle.change.specs.Change.{part_limit, most_parts, Change, has, line, numbered, fault_from, fault}
use Rattle.run.specs.Run.{Run, same_run, run_on, runs_on}
use Rattle.plan.specs.Plan.{useful, among}
use Rattle.queue.specs.Queue.{proper}
use Rattle.promises.specs.Day.{Different, parts_in, AheadBy}
use Rattle.promises.proofs.Basics.{clash, not_so, neither_left, neither_right, both_left, both_right, Off, off_sym, line_off, has_head, has_tail}
use Rattle.promises.proofs.Serial.{Alike, alike_push, off_swap, Apart}
use Rattle.promises.proofs.Runs.{among_head, among-left, among_right, among_cases, Sub}

-- lists of numbers without repeats
abbrev pub Once : List ℕ → Type 0
Once [] = Unit {0}
Once (p ∷ ps) = (has ps p ≡ false) × Once ps

-- a change as submissions must be: 1 to 8 parts, different ones
pub record Proper (c : Change) : Type 0 where
  pub some : 1 ≤ length c.parts
  pub few : length c.parts ≤ most_parts
  pub once : Once c.parts

-- a list without fault has different parts, none of them seen before
no_fault : (seen : List ℕ) (i : ℕ) (ps : List ℕ) → is_some (fault_from seen i ps) ≡ false → Once ps × Off ps seen
no_fault seen i [] e = (tt, λ p h. absurd (true≢false (sym h)))
no_fault seen i (p ∷ ps) e = go (no_fault (p ∷ seen) (suc i) ps) (ltb p part_limit && not (has seen p)) refl e
  where
    go : (is_some (fault_from (p ∷ seen) (suc i) ps) ≡ false → Once ps × Off ps (p ∷ seen)) → (b : Bool) → (ltb p part_limit && not (has seen p)) ≡ b →
        is_some (cond b (fault_from (p ∷ seen) (suc i) ps) (Some i)) ≡ false → Once (p ∷ ps) × Off (p ∷ ps) seen
    go ih true k h = let r = ih h in (
      (not_so (has ps p) (λ j. clash (eq-eqb p p refl) (neither_left (eqb p p) (has seen p) (r.1 p j))), r.0),
      λ q j. elim (or_cases (eqb p q) (has ps q) j) [
        | inl l ↦ subst (λ (x : ℕ). has seen x ≡ false) (eqb-true p q l) (not-true (has seen p) (both_right (ltb p part_limit) (not (has seen p)) k))
        | inr l ↦ neither_right (eqb p q) (has seen q) (r.1 q l)
      ],
    )
    go ih false k h = absurd (true≢false h)

-- a submission that is taken is proper
pub proper_is : (c : Change) → proper c ≡ true → Proper c
proper_is c e = go (leb 1 (length c.parts) && leb (length c.parts) most_parts) refl (not-true (is_some (fault c)) e)
  where
    go : (b : Bool) → (leb 1 (length c.parts) && leb (length c.parts) most_parts) ≡ b → is_some (cond b (fault_from [] 0 c.parts) (Some most_parts)) ≡ false →
        Proper c
    go true k h = record {
      some = leb-true 1 (length c.parts) (both_left (leb 1 (length c.parts)) (leb (length c.parts) most_parts) k);
      few = leb-true (length c.parts) most_parts (both_right (leb 1 (length c.parts)) (leb (length c.parts) most_parts) k);
      once = (no_fault [] 0 c.parts h).0;
    }
    go false k h = absurd (true≢false h)

-- the runs of a change on lines that are the same on its parts
pub runs_alike : (n : ℕ) (xs ys : List Change) (ps : List ℕ) → ((p : ℕ) → has ps p ≡ true → line p xs ≡ line p ys) → runs_on xs n ps ≡ runs_on ys n ps
runs_alike n xs ys [] e = refl
runs_alike n xs ys (p ∷ ps) e =
    ap₂ (λ (w : List ℕ) (rs : List Run). record { part = p; changes = w ++ n ∷ [] } ∷ rs) (e p (has_head p ps)) (runs_alike n xs ys ps (λ q h. e q (has_tail p ps q h)))

-- what is useful rests on the lines alone
useful_alike : (n : ℕ) (ws xs ys : List Change) → Alike xs ys → useful n xs ws ≡ useful n ys ws
unfolding useful
useful_alike zero ws xs ys e = refl
useful_alike (suc n) [] xs ys e = refl
useful_alike (suc n) (w ∷ ws) xs ys e = ap₂ ◌++◌ (runs_alike w.number xs ys w.parts (λ p h. e p)) (useful_alike n ws (xs ++ w ∷ []) (ys ++ w ∷ []) (alike_push w xs ys e))

pub length-runs_on : (xs : List Change) (n : ℕ) (ps : List ℕ) → length (runs_on xs n ps) ≡ length ps
length-runs_on xs n [] = refl
length-runs_on xs n (p ∷ ps) = ap suc (length-runs_on xs n ps)

-- a part of a change has a run among its runs
pub among-runs : (L : List Change) (n : ℕ) (ps : List ℕ) (p : ℕ) → has ps p ≡ true → among (run_on L n p) (runs_on L n ps) ≡ true
among-runs L n [] p h = absurd (true≢false (sym h))
among-runs L n (q ∷ ps) p h = go (among-runs L n ps p) (eqb q p) refl h
  where
    go : (has ps p ≡ true → among (run_on L n p) (runs_on L n ps) ≡ true) → (b : Bool) → eqb q p ≡ b → (b || has ps p) ≡ true →
        among (run_on L n p) (run_on L n q ∷ runs_on L n ps) ≡ true
    go ih true k j = subst (λ (x : ℕ). among (run_on L n x) (run_on L n q ∷ runs_on L n ps) ≡ true) (eqb-true q p k) (among_head (run_on L n q) (runs_on L n ps))
    go ih false k j = among_right (run_on L n p) (run_on L n q ∷ []) (runs_on L n ps) (ih j)

-- a deeper look, and more that wait
useful_deeper : (n : ℕ) (ws xs : List Change) → Sub (useful n xs ws) (useful (suc n) xs ws)
unfolding useful
useful_deeper zero ws xs r e = absurd (true≢false (sym e))
useful_deeper (suc n) [] xs r e = e
useful_deeper (suc n) (w ∷ ws) xs r e = elim (among_cases r (runs_on xs w.number w.parts) (useful n (xs ++ w ∷ []) ws) e) [
  | inl k ↦ among-left r (runs_on xs w.number w.parts) (useful (suc n) (xs ++ w ∷ []) ws) k
  | inr k ↦ among_right r (runs_on xs w.number w.parts) (useful (suc n) (xs ++ w ∷ []) ws) (useful_deeper n ws (xs ++ w ∷ []) r k)
]

pub useful_more : (n : ℕ) (ws vs xs : List Change) → Sub (useful n xs ws) (useful n xs (ws ++ vs))
unfolding useful
useful_more zero ws vs xs r e = absurd (true≢false (sym e))
useful_more (suc n) [] vs xs r e = absurd (true≢false (sym e))
useful_more (suc n) (w ∷ ws) vs xs r e = elim (among_cases r (runs_on xs w.number w.parts) (useful n (xs ++ w ∷ []) ws) e) [
  | inl k ↦ among-left r (runs_on xs w.number w.parts) (useful n (xs ++ w ∷ []) (ws ++ vs)) k
  | inr k ↦ among_right r (runs_on xs w.number w.parts) (useful n (xs ++ w ∷ []) (ws ++ vs)) (useful_more n ws vs (xs ++ w ∷ []) r k)
]

-- a change lands that shares no part with those that wait before it: what was useful is one of its runs or still useful
pub useful-land : (n : ℕ) (W₁ : List Change) (c : Change) (W₂ xs ys : List Change) → Apart c W₁ → Alike ys (xs ++ c ∷ []) → (r : Run) →
    among r (useful n xs (W₁ ++ c ∷ W₂)) ≡ true →
    (among r (runs_on xs c.number c.parts) ≡ true) ⊎ (among r (useful n ys (W₁ ++ W₂)) ≡ true)
unfolding useful
useful-land zero W₁ c W₂ xs ys a e r h = absurd (true≢false (sym h))
useful-land (suc n) [] c W₂ xs ys a e r h = elim (among_cases r (runs_on xs c.number c.parts) (useful n (xs ++ c ∷ []) W₂) h) [
  | inl k ↦ inl k
  | inr k ↦ inr (useful_deeper n W₂ ys r (ap (among r) (useful_alike n W₂ ys (xs ++ c ∷ []) e) ∙ k))
]
useful-land (suc n) (w ∷ W₁) c W₂ xs ys a e r h = elim (among_cases r (runs_on xs w.number w.parts) (useful n (xs ++ w ∷ []) (W₁ ++ c ∷ W₂)) h) [
  | inl k ↦ inr (among-left r (runs_on ys w.number w.parts) (useful n (ys ++ w ∷ []) (W₁ ++ W₂))
      (ap (among r) (runs_alike w.number ys xs w.parts (λ p j. e p ∙ line_off p xs c (off_sym c.parts w.parts a.0 p j))) ∙ k))
  | inr k ↦ elim (useful-land n W₁ c W₂ (xs ++ w ∷ []) (ys ++ w ∷ []) a.1 (λ p. alike_push w ys (xs ++ c ∷ []) e p ∙ off_swap c w a.0 xs p) r k) [
    | inl l ↦ inl (ap (among r) (runs_alike c.number xs (xs ++ w ∷ []) c.parts (λ p j. sym (line_off p xs w (a.0 p j)))) ∙ l)
    | inr l ↦ inr (among_right r (runs_on ys w.number w.parts) (useful n (ys ++ w ∷ []) (W₁ ++ W₂)) l)
  ]
]

-- the last change of a run
abbrev last_or : ℕ → List ℕ → ℕ
last_or d [] = d
last_or d (x ∷ xs) = last_or x xs

last_push : (d : ℕ) (xs : List ℕ) (m : ℕ) → last_or d (xs ++ m ∷ []) ≡ m
last_push d [] m = refl
last_push d (x ∷ xs) m = last_push x xs m

abbrev pub last : Run → ℕ
last r = last_or 0 r.changes

-- the runs of a change end in its number, so a useful run ends in the number of one that waits
pub runs_last : (b : List Change) (n : ℕ) (ps : List ℕ) (r : Run) → among r (runs_on b n ps) ≡ true → n ≡ last r
runs_last b n [] r e = absurd (true≢false (sym e))
runs_last b n (p ∷ ps) r e = go (runs_last b n ps r) (same_run r (run_on b n p)) refl e
  where
    go : (among r (runs_on b n ps) ≡ true → n ≡ last r) → (t : Bool) → same_run r (run_on b n p) ≡ t → (t || among r (runs_on b n ps)) ≡ true → n ≡ last r
    go ih true j h = sym (ap last (same_run_true r (run_on b n p) j) ∙ last_push 0 (line p b) n)
    go ih false j h = ih h

pub useful-last : (n : ℕ) (cs b : List Change) (r : Run) → among r (useful n b cs) ≡ true → numbered (last r) cs ≡ true
unfolding useful
useful-last zero cs b r e = absurd (true≢false (sym e))
useful-last (suc n) [] b r e = absurd (true≢false (sym e))
useful-last (suc n) (c ∷ cs) b r e = elim (among_cases r (runs_on b c.number c.parts) (useful n (b ++ c ∷ []) cs) e) [
  | inl k ↦ ap (λ (t : Bool). t || numbered (last r) cs) (eq-eqb c.number (last r) (runs_last b c.number c.parts r k))
  | inr k ↦ ap (◌||◌ (eqb c.number (last r))) (useful-last n cs (b ++ c ∷ []) r k) ∙ or-true (eqb c.number (last r))
]

-- a run of a change is on one of its parts
runs-part : (b : List Change) (n : ℕ) (ps : List ℕ) (r : Run) → among r (runs_on b n ps) ≡ true → has ps r.part ≡ true
runs-part b n [] r e = absurd (true≢false (sym e))
runs-part b n (p ∷ ps) r e = go (runs-part b n ps r) (same_run r (run_on b n p)) refl e
  where
    go : (among r (runs_on b n ps) ≡ true → has ps r.part ≡ true) → (t : Bool) → same_run r (run_on b n p) ≡ t → (t || among r (runs_on b n ps)) ≡ true →
        (eqb p r.part || has ps r.part) ≡ true
    go ih true j h = ap (λ (t : Bool). t || has ps r.part) (eq-eqb p r.part (sym (ap (λ (s : Run). s.part) (same_run_true r (run_on b n p) j))))
    go ih false j h = ap (◌||◌ (eqb p r.part)) (ih h) ∙ or-true (eqb p r.part)

-- a change's runs are different ones, since its parts are
pub different-runs : (b : List Change) (n : ℕ) (ps : List ℕ) → Once ps → Different (runs_on b n ps)
different-runs b n [] d = tt
different-runs b n (p ∷ ps) d = (not_so (among (run_on b n p) (runs_on b n ps)) (λ e. clash (runs-part b n ps (run_on b n p) e) d.0), different-runs b n ps d.1)

-- at most eight useful runs for each change looked at, and one for each part of those that wait
pub useful-few : (n : ℕ) (ws xs : List Change) → AllByRecursion Proper ws → length (useful n xs ws) ≤ most_parts * n
unfolding useful
useful-few zero ws xs s = omega arith
useful-few (suc n) [] xs s = omega arith
useful-few (suc n) (w ∷ ws) xs s =
    omega (arith, s.0.few, length-append (runs_on xs w.number w.parts) (useful n (xs ++ w ∷ []) ws), length-runs_on xs w.number w.parts, useful-few n ws (xs ++ w ∷ []) s.1)

pub useful-parts : (n : ℕ) (ws xs : List Change) → length (useful n xs ws) ≤ parts_in ws
unfolding useful
useful-parts zero ws xs = omega arith
useful-parts (suc n) [] xs = omega arith
useful-parts (suc n) (w ∷ ws) xs = omega (arith, length-append (runs_on xs w.number w.parts) (useful n (xs ++ w ∷ []) ws), length-runs_on xs w.number w.parts, useful-parts n ws (xs ++ w ∷ []))

-- a useful run is its part's whole landed line, and then no more changes than are looked at
run-begins : (L : List Change) (k : ℕ) (pre : List Change) (n p : ℕ) → length pre < k → AheadBy L k (run_on (L ++ pre) n p)
run-begins L k pre n p l = record {
  following = line p pre ++ n ∷ [];
  is = ap (λ (w : List ℕ). w ++ n ∷ []) (line-append p L pre) ∙ append_assoc (line p L) (line p pre) (n ∷ []);
  few = omega (arith, length-append (line p pre) (n ∷ []), length-line_le p pre);
}

runs_begin : (L : List Change) (k : ℕ) (pre : List Change) (n : ℕ) (ps : List ℕ) → length pre < k → (r : Run) → among r (runs_on (L ++ pre) n ps) ≡ true → AheadBy L k r
runs_begin L k pre n [] l r e = absurd (true≢false (sym e))
runs_begin L k pre n (p ∷ ps) l r e = go (runs_begin L k pre n ps l r) (same_run r (run_on (L ++ pre) n p)) refl e
  where
    go : (among r (runs_on (L ++ pre) n ps) ≡ true → AheadBy L k r) → (b : Bool) → same_run r (run_on (L ++ pre) n p) ≡ b →
        (b || among r (runs_on (L ++ pre) n ps)) ≡ true → AheadBy L k r
    go ih true j h = subst (AheadBy L k) (sym (same_run_true r (run_on (L ++ pre) n p) j)) (run-begins L k pre n p l)
    go ih false j h = ih h

useful_begin_from : (L : List Change) (k n : ℕ) (cs pre : List Change) → length pre + n ≤ k → (r : Run) → among r (useful n (L ++ pre) cs) ≡ true → AheadBy L k r
unfolding useful
useful_begin_from L k zero cs pre l r e = absurd (true≢false (sym e))
useful_begin_from L k (suc n) [] pre l r e = absurd (true≢false (sym e))
useful_begin_from L k (suc n) (c ∷ cs) pre l r e = elim (among_cases r (runs_on (L ++ pre) c.number c.parts) (useful n (L ++ pre ++ c ∷ []) cs) e) [
  | inl j ↦ runs_begin L k pre c.number c.parts (omega arith) r j
  | inr j ↦ useful_begin_from L k n cs (pre ++ c ∷ []) (omega (arith, length-append pre (c ∷ []))) r (ap (λ (b : List Change). among r (useful n b cs)) (sym (append_assoc L pre (c ∷ []))) ∙ j)
]

pub useful_begin : (n : ℕ) (L W : List Change) (r : Run) → among r (useful n L W) ≡ true → AheadBy L n r
useful_begin n L W r e = useful_begin_from L n n W [] (omega arith) r (ap (λ (b : List Change). among r (useful n b W)) (append-nil L) ∙ e)
