-- A change's decision, and the pass over those that wait. Assumes nothing: these are definitions.
use Rattle.std.specs.Prelude.{Bool, true, false, cond, ◌&&◌, ◌||◌, List, [], ◌∷◌, ◌++◌}
use Rattle.change.specs.Change.{Change, share}
use Rattle.run.specs.Run.{Run, Verdict, counts_as, is_good, is_bad, runs_on}
use Rattle.decide.specs.declared.decision.Decision.{Decision}
use Rattle.decide.specs.declared.decision.Decision.TheVariants.{Wait, Land, Reject}

abbrev pub any_bad : List Run → List Verdict → Bool
any_bad [] vs = false
any_bad (r ∷ rs) vs = is_bad (counts_as r vs) || any_bad rs vs

abbrev pub all_good : List Run → List Verdict → Bool
all_good [] vs = true
all_good (r ∷ rs) vs = is_good (counts_as r vs) && all_good rs vs

-- the decision by these runs: reject on a bad one, else so_far if all are good, else wait
abbrev pub decision_by : Decision → List Run → List Verdict → Decision
decision_by so_far rs vs = cond (any_bad rs vs) Reject (cond (all_good rs vs) so_far Wait)

-- the change shares a part with one of these
abbrev pub shares_any : Change → List Change → Bool
shares_any c [] = false
shares_any c (w ∷ ws) = share c.parts w.parts || shares_any c ws

-- a change waits behind those before it that still wait (held) and share a part; otherwise its runs on top of landed decide
unfoldable pub decision : List Verdict → List Change → List Change → Change → Decision
decision vs held landed c = cond (shares_any c held) Wait (decision_by Land (runs_on landed c.number c.parts) vs)

abbrev pub by_decision : {A : Type 0} → Decision → A → A → A → A
by_decision Wait w l r = w
by_decision Land w l r = l
by_decision Reject w l r = r

-- where every change stands after the pass
pub record Passed : Type 0 where
  pub landed : List Change
  pub waiting : List Change
  pub rejected : List Change

-- once through those that wait, in order: each is decided on top of what has landed by then
unfoldable pub pass : List Verdict → List Change → List Change → List Change → List Change → Passed
pass vs held landed rejected [] = record { landed = landed; waiting = held; rejected = rejected }
pass vs held landed rejected (c ∷ cs) =
    by_decision (decision vs held landed c) (pass vs (held ++ c ∷ []) landed rejected cs) (pass vs held (landed ++ c ∷ []) rejected cs)
    (pass vs held landed (rejected ++ c ∷ []) cs)
