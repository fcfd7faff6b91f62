-- What a queue's sections of changes hold, however large their counts are. Assumes nothing: these are definitions.
use Rattle.std.specs.Prelude.{ℕ, min, List, drop, slice_index}
use Rattle.change.specs.Change.{Change}
use Rattle.change.specs.Records.{changes_in}
use Rattle.run.specs.Layout.{depth_at, landed_at, landed_count, most_depth, most_landed, most_rejected, most_waiting, rejected_at, rejected_count, waiting_at, waiting_count}

-- the changes of the section that begins at `at`: as many as its count says, and at most so many
abbrev pub held : ℕ → ℕ → ℕ → List ℕ → List Change
held count at most xs = changes_in (min (slice_index xs count) most) (drop at xs)

abbrev pub landed_held : List ℕ → List Change
landed_held xs = held landed_count landed_at most_landed xs

abbrev pub waiting_held : List ℕ → List Change
waiting_held xs = held waiting_count waiting_at most_waiting xs

abbrev pub rejected_held : List ℕ → List Change
rejected_held xs = held rejected_count rejected_at most_rejected xs

-- those that wait and are looked at
abbrev pub looked_at_held : List ℕ → List Change
looked_at_held xs = changes_in (min (min (slice_index xs waiting_count) (slice_index xs depth_at)) most_depth) (drop waiting_at xs)
