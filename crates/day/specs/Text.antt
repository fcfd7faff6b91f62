-- The text that is printed for an event: the state's line, or the refusal. Assumes nothing: these are definitions.
use Rattle.std.specs.Prelude.{◌≡◌, ℕ, Bool, true, false, List, [], ◌∷◌, ◌++◌, codes, decimal, Ok, Err}
use Rattle.std.specs.List.{flat_map}
use Rattle.std.specs.Fmt.{IsPlainFormatter, HasWritten}
use Rattle.std.specs.declared.fmt.Formatter.{Formatter}
use Rattle.change.specs.Change.{Change}
use Rattle.run.specs.Run.{Run}
use Rattle.run.specs.State.{Queue}
use Rattle.run.specs.Text.{changes_text}
use Rattle.run.specs.Text as text
use Rattle.queue.specs.Refusals.{refusal_text}
use Rattle.queue.specs.Entry.{Reply}

-- in a list of changes: a blank, and the change's number
abbrev pub change_text : Change → List ℕ
change_text c = codes " " ++ decimal c.number

-- whether there are any
abbrev pub some : List ℕ → Bool
some [] = false
some (n ∷ ns) = true

-- these changes were written as the first of a run, from f to g, and `led` says whether there were any
abbrev pub Begun : {W : Type 0} → (W → List ℕ → W → Type 0) → Formatter W → List ℕ → Bool → Formatter W → Type 0
Begun took f ns led g = (IsPlainFormatter f → HasWritten took f (changes_text false ns) g) × (led ≡ some ns)

-- in a list of runs: a blank, and the run's text
abbrev pub run_text : Run → List ℕ
run_text r = codes " " ++ text.run_text r

-- a state: the changes that landed, wait and were rejected, the runs that run, and how many were requested
unfoldable pub line_text : Queue → List ℕ
line_text q =
    codes "landed" ++ (flat_map change_text q.landed
    ++ (codes " waits" ++ (flat_map change_text q.waiting
    ++ (codes " back" ++ (flat_map change_text q.rejected
    ++ (codes " out" ++ (flat_map run_text q.running
    ++ (codes " asked " ++ decimal q.requested))))))))

-- what is printed once an event was answered: the state, or the refusal
abbrev pub reply_text : Reply → Queue → List ℕ
reply_text (Ok n) q = line_text q
reply_text (Err r) q = refusal_text r
