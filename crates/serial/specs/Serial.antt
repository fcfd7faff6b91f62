-- Benches, and serial testing: the reference that the queue's decisions must equal. Assumes nothing: these are definitions.
use Rattle.std.specs.Prelude.{ℕ, Bool, true, cond, ◌&&◌, List, [], ◌∷◌, ◌++◌}
use Rattle.change.specs.Change.{Change, line}

-- a deterministic bench: whether it says good of a part with these changes in it, in this order
abbrev pub Bench : Type 0
Bench = ℕ → List ℕ → Bool

-- the change is good on each of these parts, on top of what has landed
unfoldable pub passes_on : Bench → List Change → Change → List ℕ → Bool
passes_on bench landed c [] = true
passes_on bench landed c (p ∷ ps) = bench p (line p landed ++ c.number ∷ []) && passes_on bench landed c ps

unfoldable pub passes : Bench → List Change → Change → Bool
passes bench landed c = passes_on bench landed c c.parts

-- the main line once these changes were taken one at a time: a change that passes lands behind it
unfoldable pub serial_landed : Bench → List Change → List Change → List Change
serial_landed bench landed [] = landed
serial_landed bench landed (c ∷ cs) = serial_landed bench (cond (passes bench landed c) (landed ++ c ∷ []) landed) cs

-- those of them that are rejected: a change that does not pass
unfoldable pub serial_rejected : Bench → List Change → List Change → List Change
serial_rejected bench landed [] = []
serial_rejected bench landed (c ∷ cs) =
    cond (passes bench landed c) (serial_rejected bench (landed ++ c ∷ []) cs) (c ∷ serial_rejected bench landed cs)
