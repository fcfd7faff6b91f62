-- Laws of looking at verdicts: which of them is of a run, what that says of a change's runs, and whether the change shares a part with an earlier one.
use Rattle.std.proofs.Common.{◌≡◌, ℕ, ◌+◌, ◌*◌, ◌<◌, ◌≤◌, Bool, true, false, cond, eqb, ◌&&◌, ◌||◌, List, ◌∷◌, length, get_or, drop, sym, refl, ap, ◌∙◌}
use Rattle.std.proofs.lemmas.List.{at_drop_more, drop_all}
use Rattle.change.specs.Change.{Change}
use Rattle.change.proofs.Rows.{rest}
use Rattle.run.specs.Layout.{verdicts_at}
use Rattle.run.specs.Records.{run_in, run_width, verdict_in, verdict_width, verdicts_in}
use Rattle.run.specs.Run.{Run, Verdict, heard, is_bad, is_good, run_on, runs_on, same_run}
use Rattle.run.specs.declared.known.Known.{Known}
use Rattle.run.specs.declared.known.Known.TheVariants.{Nothing, Good, Bad}
use Rattle.run.proofs.Heard.{heard_bad, heard-good, heard_later, heard_none, verdict_at}
use Rattle.decide.specs.Decide.{all_good, any_bad, decision, decision_by, shares_any}
use Rattle.decide.specs.declared.decision.Decision.{Decision}
use Rattle.decide.specs.declared.decision.Decision.TheVariants.{Wait, Land, Reject}

-- the decision by the runs on a change's parts from the p-th on: that one is known good, known bad, or not known
module _ (cs : List Change) (number : ℕ) (ps : List ℕ) (p : ℕ) (vs : List Verdict) (d : Decision) (lt : p < length ps) where
  by_next : decision_by d (runs_on cs number (drop p ps)) vs ≡ decision_by d (run_on cs number (get_or ps p 0) ∷ runs_on cs number (drop (p + 1) ps)) vs
  by_next = at_drop_more (λ qs. decision_by d (runs_on cs number qs) vs) ps p 0 lt

  by_known : (w : Known) → heard (run_on cs number (get_or ps p 0)) vs ≡ w →
      decision_by d (runs_on cs number (drop p ps)) vs ≡ cond (is_bad w || any_bad (runs_on cs number (drop (p + 1) ps)) vs) Reject (cond (is_good w && all_good (runs_on cs number (drop (p + 1) ps)) vs) d Wait)
  by_known w e = by_next ∙ ap (λ v. cond (is_bad v || any_bad (runs_on cs number (drop (p + 1) ps)) vs) Reject (cond (is_good v && all_good (runs_on cs number (drop (p + 1) ps)) vs) d Wait)) e

  pub by_good : heard (run_on cs number (get_or ps p 0)) vs ≡ Good → decision_by d (runs_on cs number (drop p ps)) vs ≡ decision_by d (runs_on cs number (drop (p + 1) ps)) vs
  by_good e = by_known Good e

  pub by_bad : heard (run_on cs number (get_or ps p 0)) vs ≡ Bad → decision_by d (runs_on cs number (drop p ps)) vs ≡ Reject
  by_bad e = by_known Bad e

  pub by_unknown : heard (run_on cs number (get_or ps p 0)) vs ≡ Nothing → decision_by d (runs_on cs number (drop p ps)) vs ≡ decision_by Wait (runs_on cs number (drop (p + 1) ps)) vs
  by_unknown e = by_known Nothing e ∙ ap (λ y. cond (any_bad (runs_on cs number (drop (p + 1) ps)) vs) Reject y) (sym (either (all_good (runs_on cs number (drop (p + 1) ps)) vs)))
    where
      either : (b : Bool) → cond b Wait Wait ≡ Wait
      either true = refl
      either false = refl

-- the k-th verdict is looked at, for the run on the p-th part; those before it were not of this run
module _ (cs : List Change) (xs : List ℕ) (n k p number : ℕ) (ps : List ℕ) (top : Run) (lp : p < length ps) (on : top ≡ run_on cs number (get_or ps p 0))
    (inv : heard top (rest (verdict_in cs) verdict_width xs verdicts_at n k) ≡ heard top (verdicts_in cs n (drop verdicts_at xs))) where
  abbrev vs : List Verdict
  vs = verdicts_in cs n (drop verdicts_at xs)

  abbrev from_part : Decision → ℕ → Decision
  from_part d i = decision_by d (runs_on cs number (drop i ps)) vs

  known_is : (w : Known) → heard top (rest (verdict_in cs) verdict_width xs verdicts_at n k) ≡ w → heard (run_on cs number (get_or ps p 0)) vs ≡ w
  known_is w e = ap (λ r. heard r vs) (sym on) ∙ (sym inv ∙ e)

  module _ (stored : Run) (t : Bool) (long : verdicts_at + verdict_width * n ≤ length xs) (lk : k < n) (is : stored ≡ run_in cs (verdict_at xs k)) (test : t ≡ same_run stored top) where
    pub looks_good : (d : Decision) → t ≡ true → eqb (get_or (verdict_at xs k) run_width 0) 1 ≡ true → from_part d p ≡ from_part d (p + 1)
    looks_good d e g = by_good cs number ps p vs d lp (known_is Good (heard-good cs xs n k top stored long lk is (sym test ∙ e) g))

    pub looks_bad : (d : Decision) → t ≡ true → eqb (get_or (verdict_at xs k) run_width 0) 1 ≡ false → from_part d p ≡ Reject
    looks_bad d e g = by_bad cs number ps p vs d lp (known_is Bad (heard_bad cs xs n k top stored long lk is (sym test ∙ e) g))

    pub looks_on : t ≡ false → heard top (rest (verdict_in cs) verdict_width xs verdicts_at n (k + 1)) ≡ heard top vs
    looks_on e = sym (heard_later cs xs n k top stored long lk is (sym test ∙ e)) ∙ inv

  -- no verdict was of it
  pub looks_in_vain : (d : Decision) → n ≤ k → from_part d p ≡ from_part Wait (p + 1)
  looks_in_vain d all = by_unknown cs number ps p vs d lp (known_is Nothing (heard_none cs xs n k top all))

-- all parts were looked at
pub looked : (cs : List Change) (vs : List Verdict) (p number : ℕ) (ps : List ℕ) (d : Decision) → length ps ≤ p → decision_by d (runs_on cs number (drop p ps)) vs ≡ d
looked cs vs p number ps d le = ap (λ qs. decision_by d (runs_on cs number qs) vs) (drop_all p ps le)

-- the decision of a change that shares a part with an earlier one, and of one that does not
module _ (vs : List Verdict) (held landed : List Change) (x : Change) where
  pub waits_behind : shares_any x held ≡ true → decision vs held landed x ≡ Wait
  unfolding decision
  waits_behind e = ap (λ b. cond b Wait (decision_by Land (runs_on landed x.number x.parts) vs)) e

  pub decided : (d : Decision) → shares_any x held ≡ false → decision_by Land (runs_on landed x.number x.parts) vs ≡ d → decision vs held landed x ≡ d
  unfolding decision
  decided d e f = ap (λ b. cond b Wait (decision_by Land (runs_on landed x.number x.parts) vs)) e ∙ f
