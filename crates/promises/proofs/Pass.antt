-- The pass over those that wait: what a decision rests on, and what is kept by each decision is kept by the pass. Assumes nothing.
use Rattle.std.proofs.Common.{◌≡◌, ℕ, Bool, true, false, cond, ◌&&◌, ◌||◌, List, [], ◌∷◌, ◌++◌, sym, refl, ap, ◌∙◌, subst, ap₂, true≢false, append_assoc, append-nil}
use mathlib.Core.Bool.{and-false}
use Rattle.std.specs.List.{AllByRecursion}
use Rattle.decide.specs.declared.decision.Decision.{Decision}
use Rattle.decide.specs.declared.decision.Decision.TheVariants.{Wait, Land, Reject}
use Rattle.run.specs.declared.known.Known.TheVariants.{Good, Bad}
use Rattle.run.proofs.Compared.{same_run_true}
use Rattle.change.specs.Change.{Change, share}
use Rattle.run.specs.Run.{Run, Verdict, same_run, heard, is_good, is_bad, run_on, runs_on}
use Rattle.serial.specs.Serial.{Bench, passes_on}
use Rattle.decide.specs.Decide.{any_bad, all_good, shares_any, decision, by_decision, Passed, pass}
use Rattle.promises.specs.Day.{Truthful}
use Rattle.promises.proofs.Basics.{neither_left, neither_right, both_left, both_right, share_off}
use Rattle.promises.proofs.Serial.{Apart}

-- all that is known to be good is good on the bench
abbrev pub Vouched : Bench → List Verdict → Type 0
Vouched f ks = AllByRecursion (λ v. v.good ≡ true → f v.run.part v.run.changes ≡ true) ks

pub truthful-vouched : (f : Bench) (ks : List Verdict) → Truthful f ks → Vouched f ks
truthful-vouched f [] t = tt
truthful-vouched f (v ∷ ks) t = (λ e. sym t.0 ∙ e, truthful-vouched f ks t.1)

abbrev pub says : Bench → Run → Bool
says f r = f r.part r.changes

-- what is known of a run is what the bench says of it
heard_bad : (f : Bench) (r : Run) (ks : List Verdict) → Truthful f ks → is_bad (heard r ks) ≡ true → says f r ≡ false
heard_bad f r [] t e = absurd (true≢false (sym e))
heard_bad f r (v ∷ ks) t e = go (heard_bad f r ks t.1) (same_run r v.run) refl v.good refl e
  where
    go : (is_bad (heard r ks) ≡ true → says f r ≡ false) → (b : Bool) → same_run r v.run ≡ b → (g : Bool) → v.good ≡ g →
        is_bad (cond b (cond g Good Bad) (heard r ks)) ≡ true → says f r ≡ false
    go ih true k true j h = absurd (true≢false (sym h))
    go ih true k false j h = ap (says f) (same_run_true r v.run k) ∙ sym t.0 ∙ j
    go ih false k g j h = ih h

heard-good : (f : Bench) (r : Run) (ks : List Verdict) → Vouched f ks → is_good (heard r ks) ≡ true → says f r ≡ true
heard-good f r [] t e = absurd (true≢false (sym e))
heard-good f r (v ∷ ks) t e = go (heard-good f r ks t.1) (same_run r v.run) refl v.good refl e
  where
    go : (is_good (heard r ks) ≡ true → says f r ≡ true) → (b : Bool) → same_run r v.run ≡ b → (g : Bool) → v.good ≡ g →
        is_good (cond b (cond g Good Bad) (heard r ks)) ≡ true → says f r ≡ true
    go ih true k false j h = absurd (true≢false (sym h))
    go ih true k true j h = ap (says f) (same_run_true r v.run k) ∙ t.0 j
    go ih false k g j h = ih h

-- a change with a bad run does not pass
pub bad_fails : (f : Bench) (ks : List Verdict) → Truthful f ks → (xs : List Change) (c : Change) (ps : List ℕ) → any_bad (runs_on xs c.number ps) ks ≡ true →
    passes_on f xs c ps ≡ false
unfolding passes_on
bad_fails f ks t xs c [] e = absurd (true≢false (sym e))
bad_fails f ks t xs c (p ∷ ps) e = go (bad_fails f ks t xs c ps) (is_bad (heard r ks)) refl e
  where
    r : Run
    r = run_on xs c.number p

    go : (any_bad (runs_on xs c.number ps) ks ≡ true → passes_on f xs c ps ≡ false) → (b : Bool) → is_bad (heard r ks) ≡ b →
        (b || any_bad (runs_on xs c.number ps) ks) ≡ true → (says f r && passes_on f xs c ps) ≡ false
    go ih true k h = ap (λ (b : Bool). b && passes_on f xs c ps) (heard_bad f r ks t k)
    go ih false k h = ap (λ (b : Bool). says f r && b) (ih h) ∙ and-false (says f r)

-- one with all runs good does
pub good-passes : (f : Bench) (ks : List Verdict) → Vouched f ks → (xs : List Change) (c : Change) (ps : List ℕ) → all_good (runs_on xs c.number ps) ks ≡ true →
    passes_on f xs c ps ≡ true
unfolding passes_on
good-passes f ks t xs c [] e = refl
good-passes f ks t xs c (p ∷ ps) e =
    ap₂ ◌&&◌ (heard-good f r ks t (both_left (is_good (heard r ks)) (all_good (runs_on xs c.number ps) ks) e))
    (good-passes f ks t xs c ps (both_right (is_good (heard r ks)) (all_good (runs_on xs c.number ps) ks) e))
  where
    r : Run
    r = run_on xs c.number p

-- the test of sharing with any of a list, by meaning
pub shares_apart : (c : Change) (ws : List Change) → shares_any c ws ≡ false → Apart c ws
shares_apart c [] e = tt
shares_apart c (w ∷ ws) e = (
  share_off c.parts w.parts (neither_left (share c.parts w.parts) (shares_any c ws) e),
  shares_apart c ws (neither_right (share c.parts w.parts) (shares_any c ws) e),
)

-- why a change lands, is rejected or waits: L has landed, H waits before it
pub record WhyLand (ks : List Verdict) (L H : List Change) (c : Change) : Type 0 where
  pub apart : Apart c H
  pub runs : all_good (runs_on L c.number c.parts) ks ≡ true

pub record WhyReject (ks : List Verdict) (L H : List Change) (c : Change) : Type 0 where
  pub apart : Apart c H
  pub bad : any_bad (runs_on L c.number c.parts) ks ≡ true

pub data WhyWait (ks : List Verdict) (L H : List Change) (c : Change) : Type 0 where
  for_parts : shares_any c H ≡ true → WhyWait ks L H c
  for_runs : any_bad (runs_on L c.number c.parts) ks ≡ false → all_good (runs_on L c.number c.parts) ks ≡ false → WhyWait ks L H c

abbrev Why : List Verdict → List Change → List Change → Change → Decision → Type 0
Why ks L H c Wait = WhyWait ks L H c
Why ks L H c Land = WhyLand ks L H c
Why ks L H c Reject = WhyReject ks L H c

-- the only lemma on what a decision rests on
why : (ks : List Verdict) (L H : List Change) (c : Change) → Why ks L H c (decision ks H L c)
unfolding decision
why ks L H c = go (shares_any c H) refl (any_bad (runs_on L c.number c.parts) ks) refl (all_good (runs_on L c.number c.parts) ks) refl
  where
    go : (s : Bool) → shares_any c H ≡ s → (b : Bool) → any_bad (runs_on L c.number c.parts) ks ≡ b → (g : Bool) →
        all_good (runs_on L c.number c.parts) ks ≡ g →
        Why ks L H c (cond s Wait (cond b Reject (cond g Land Wait)))
    go true e b i g j = for_parts e
    go false e true i g j = record { apart = shares_apart c H e; bad = i }
    go false e false i true j = record { apart = shares_apart c H e; runs = j }
    go false e false i false j = for_runs i j

-- the only lemma that recurses over the pass: L landed, H waits before, R is still to come, B rejected
abbrev pub State : Type 1
State = List Change → List Change → List Change → List Change → Type 0

pub pass_by : (ks : List Verdict) (P : State) →
    ((L H : List Change) (c : Change) (R B : List Change) → WhyWait ks L H c → P L H (c ∷ R) B → P L (H ++ c ∷ []) R B) →
    ((L H : List Change) (c : Change) (R B : List Change) → WhyLand ks L H c → P L H (c ∷ R) B → P (L ++ c ∷ []) H R B) →
    ((L H : List Change) (c : Change) (R B : List Change) → WhyReject ks L H c → P L H (c ∷ R) B → P L H R (B ++ c ∷ [])) →
    (R L H B : List Change) → P L H R B → P (pass ks H L B R).landed (pass ks H L B R).waiting [] (pass ks H L B R).rejected
unfolding pass
pass_by ks P w l b [] L H B h = h
pass_by ks P w l b (c ∷ R) L H B h = go (decision ks H L c) (why ks L H c)
    (pass_by ks P w l b R L (H ++ c ∷ []) B) (pass_by ks P w l b R (L ++ c ∷ []) H B) (pass_by ks P w l b R L H (B ++ c ∷ []))
  where
    s₀ : Passed
    s₀ = pass ks (H ++ c ∷ []) L B R

    s₁ : Passed
    s₁ = pass ks H (L ++ c ∷ []) B R

    s₂ : Passed
    s₂ = pass ks H L (B ++ c ∷ []) R

    go : (x : Decision) → Why ks L H c x → (P L (H ++ c ∷ []) R B → P s₀.landed s₀.waiting [] s₀.rejected) →
        (P (L ++ c ∷ []) H R B → P s₁.landed s₁.waiting [] s₁.rejected) →
        (P L H R (B ++ c ∷ []) → P s₂.landed s₂.waiting [] s₂.rejected) → P (by_decision x s₀ s₁ s₂).landed (by_decision x s₀ s₁ s₂).waiting [] (by_decision x s₀ s₁ s₂).rejected
    go Wait y q₀ q₁ q₂ = q₀ (w L H c R B y h)
    go Land y q₀ q₁ q₂ = q₁ (l L H c R B y h)
    go Reject y q₀ q₁ q₂ = q₂ (b L H c R B y h)

-- what landing a change and rejecting one keep
abbrev pub Triple : Type 1
Triple = List Change → List Change → List Change → Type 0

abbrev pub Lands : List Verdict → Triple → Type 0
Lands ks P = (L W₁ : List Change) (c : Change) (W₂ B : List Change) → WhyLand ks L W₁ c → P L (W₁ ++ c ∷ W₂) B → P (L ++ c ∷ []) (W₁ ++ W₂) B

abbrev pub Rejects : List Verdict → Triple → Type 0
Rejects ks P = (L W₁ : List Change) (c : Change) (W₂ B : List Change) → WhyReject ks L W₁ c → P L (W₁ ++ c ∷ W₂) B → P L (W₁ ++ W₂) (B ++ c ∷ [])

abbrev pub Holds : Triple → Passed → Type 0
Holds P s = P s.landed s.waiting s.rejected

-- what each decision keeps holds after the pass
pub pass_all : (ks : List Verdict) (P : Triple) → Lands ks P → Rejects ks P →
    (L W B : List Change) → P L W B → Holds P (pass ks [] L B W)
pass_all ks P l t L W B h =
    subst (λ (x : List Change). P (pass ks [] L B W).landed x (pass ks [] L B W).rejected) (append-nil (pass ks [] L B W).waiting)
    (pass_by ks (λ L H R B. P L (H ++ R) B) (λ L H c R B y q. subst (λ (x : List Change). P L x B) (sym (append_assoc H (c ∷ []) R)) q) (λ L H c R B y q. l L H c R B y q) (λ L H c R B y q. t L H c R B y q) W L [] B h)
