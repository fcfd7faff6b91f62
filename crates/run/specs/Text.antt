-- The text of a run and of its changes. Assumes nothing: these are definitions.
use Rattle.std.specs.Prelude.{ℕ, Bool, true, false, cond, List, [], ◌∷◌, ◌++◌, codes, decimal}
use Rattle.run.specs.Run.{Run}

-- the changes of a run, parted by a plus; `led` if others stand before them
abbrev pub changes_text : Bool → List ℕ → List ℕ
changes_text led [] = []
changes_text led (n ∷ ns) = cond led (codes "+") [] ++ (decimal n ++ changes_text true ns)

-- a part, a colon, and the changes in it
abbrev pub run_text : Run → List ℕ
run_text r = decimal r.part ++ (codes ":" ++ changes_text false r.changes)
