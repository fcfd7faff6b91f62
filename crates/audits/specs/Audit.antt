-- What an audit finds: the first state of the main line that the log of verdicts does not vouch for. Assumes nothing: these are definitions and a statement.
use Rattle.std.specs.Prelude.{◌≡◌, ℕ, suc, ◌<◌, Bool, true, false, cond, not, ◌&&◌, ◌||◌, List, [], ◌∷◌, ◌++◌, length, take, Some, None, vec_items, Option, slice_index_or}
use Rattle.change.specs.Change.{Change, has, line}
use Rattle.run.specs.Run.{Run, Verdict, same_run}
use Rattle.run.specs.declared.known.Known.{Known}
use Rattle.run.specs.declared.known.Known.TheVariants.{Nothing, Good, Bad}
use Rattle.audits.specs.declared.verdict.Verdict as CodeVerdict
use Rattle.audits.specs.declared.fault.Fault as CodeFault
use Rattle.audits.specs.declared.fault.Why.{Why}
use Rattle.audits.specs.declared.fault.Why.TheVariants.{NeverRun, WasBad}

-- the state of a part in a main line: the part with its line
abbrev pub state : List Change → ℕ → Run
state main p = record { part = p; changes = line p main }

abbrev pub states_at : List Change → List ℕ → List Run
states_at main [] = []
states_at main (p ∷ ps) = state main p ∷ states_at main ps

-- the states that came with each of these changes, on top of those before: one for each part that it touches
abbrev pub states_from : List Change → List Change → List Run
states_from before [] = []
states_from before (c ∷ cs) = states_at (before ++ c ∷ []) c.parts ++ states_from (before ++ c ∷ []) cs

-- all states that parts had in the main line
abbrev pub states : List Change → List Run
states main = states_from [] main

-- one of the verdicts says good of the run; one of them says bad
abbrev pub said_good : Run → List Verdict → Bool
said_good r [] = false
said_good r (v ∷ vs) = same_run r v.run && v.good || said_good r vs

abbrev pub said_bad : Run → List Verdict → Bool
said_bad r [] = false
said_bad r (v ∷ vs) = same_run r v.run && not v.good || said_bad r vs

-- what the log says of a run: bad if one of its verdicts is, else good if one is
abbrev pub log_says : Run → List Verdict → Known
log_says r vs = cond (said_bad r vs) Bad (cond (said_good r vs) Good Nothing)

-- what is wrong with a state
pub record Fault : Type 0 where
  pub why : Why
  pub run : Run

abbrev pub faulty : Known → Run → Option Fault → Option Fault
faulty Nothing r rest = Some (record { why = NeverRun; run = r })
faulty Good r rest = rest
faulty Bad r rest = Some (record { why = WasBad; run = r })

-- the first of these states that was never run, or was bad
abbrev pub first_fault : List Verdict → List Run → Option Fault
first_fault vs [] = None
first_fault vs (r ∷ rs) = faulty (log_says r vs) r (first_fault vs rs)

-- what the audit of a main line finds in a log
abbrev pub audited : List Verdict → List Change → Option Fault
audited vs main = first_fault vs (states main)

-- the verdict, and the fault, that the code's structs say
abbrev pub verdict_of : CodeVerdict.Verdict → Verdict
verdict_of v = record { run = record { part = v.part; changes = vec_items v.changes }; good = v.good }

abbrev pub fault_of : CodeFault.Fault → Fault
fault_of f = record { why = f.why; run = record { part = f.part; changes = vec_items f.changes } }

-- every state that a part had in the main line was reported good, and never bad
abbrev pub AllVouched : List Verdict → List Change → Type 0
AllVouched vs main =
    (k p : ℕ) (c : Change) → k < length main → has (slice_index_or main k c).parts p ≡ true →
    (said_good (state (take (suc k) main) p) vs ≡ true) × (said_bad (state (take (suc k) main) p) vs ≡ false)

-- the audit accepts exactly the main lines that the log vouches for
abbrev pub AcceptsExactly : Type 0
AcceptsExactly = (vs : List Verdict) (main : List Change) → (audited vs main ≡ None → AllVouched vs main) × (AllVouched vs main → audited vs main ≡ None)
