-- The text of the lines of a log and of a main line, and of what an audit finds. Assumes nothing: these are definitions.
use Rattle.std.specs.Prelude.{◌≡◌, ℕ, cond, List, [], ◌∷◌, ◌++◌, length, codes, decimal}
use Rattle.std.specs.Str.Lines.{IsFirstLine}
use Rattle.change.specs.Change.{Change}
use Rattle.run.specs.Run.{Verdict}
use Rattle.run.specs.Text.{run_text}
use Rattle.audits.specs.Audit.{Fault}
use Rattle.audits.specs.declared.fault.Why.{Why}
use Rattle.audits.specs.declared.fault.Why.TheVariants.{NeverRun, WasBad}

-- a line of the log: a run, a blank, and good or bad
abbrev pub verdict_text : Verdict → List ℕ
verdict_text v = run_text v.run ++ cond v.good (codes " good") (codes " bad")

-- parts, each behind a blank
abbrev pub parts_text : List ℕ → List ℕ
parts_text [] = []
parts_text (p ∷ ps) = codes " " ++ (decimal p ++ parts_text ps)

-- a line of the main line: a change's number, then its parts
abbrev pub landed_text : Change → List ℕ
landed_text c = decimal c.number ++ parts_text c.parts

abbrev pub why_text : Why → List ℕ
why_text NeverRun = codes "never run "
why_text WasBad = codes "bad "

-- what is printed of a fault
abbrev pub fault_text : Fault → List ℕ
fault_text f = why_text f.why ++ run_text f.run

-- the lines of a text, in order, are these
abbrev pub LinesAre : List ℕ → List (List ℕ) → Type 0
LinesAre w [] = length w ≡ 0
LinesAre w (x ∷ xs) = (rest : List ℕ) × IsFirstLine w x rest × LinesAre rest xs
