-- Runs, verdicts, and what is known of a run. Assumes nothing: these are definitions.
use Rattle.std.specs.Prelude.{ℕ, Bool, true, false, cond, ◌&&◌, List, [], ◌∷◌, ◌++◌, ◌==◌}
use Rattle.change.specs.Change.{Change, line}
use Rattle.run.specs.declared.known.Known.{Known}
use Rattle.run.specs.declared.known.Known.TheVariants.{Nothing, Good, Bad}

-- a part with these changes in it, in this order
pub record Run : Type 0 where
  pub part : ℕ
  pub changes : List ℕ

-- what a bench said of a run
pub record Verdict : Type 0 where
  pub run : Run
  pub good : Bool

abbrev pub same_list : List ℕ → List ℕ → Bool
same_list [] [] = true
same_list [] (y ∷ ys) = false
same_list (x ∷ xs) [] = false
same_list (x ∷ xs) (y ∷ ys) = x == y && same_list xs ys

-- runs are the same if they are of one part with the same changes in the same order
abbrev pub same_run : Run → Run → Bool
same_run r s = r.part == s.part && same_list r.changes s.changes

-- what is known of a run: what its first verdict says
abbrev pub heard : Run → List Verdict → Known
heard r [] = Nothing
heard r (v ∷ vs) = cond (same_run r v.run) (cond v.good Good Bad) (heard r vs)

-- what a run counts as where a change is decided: what is known of it
abbrev pub counts_as : Run → List Verdict → Known
counts_as r vs = heard r vs

abbrev pub is_good : Known → Bool
is_good Nothing = false
is_good Good = true
is_good Bad = false

abbrev pub is_bad : Known → Bool
is_bad Nothing = false
is_bad Good = false
is_bad Bad = true

abbrev pub is_unknown : Known → Bool
is_unknown Nothing = true
is_unknown Good = false
is_unknown Bad = false

-- the part with all of these changes that touch it, and then the change of this number
abbrev pub run_on : List Change → ℕ → ℕ → Run
run_on before n p = record { part = p; changes = line p before ++ n ∷ [] }

-- a change's runs on top of others, one for each of these parts
abbrev pub runs_on : List Change → ℕ → List ℕ → List Run
runs_on before n [] = []
runs_on before n (p ∷ ps) = run_on before n p ∷ runs_on before n ps
