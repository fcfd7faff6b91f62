-- The event that the numbers of an event say. Assumes nothing: these are definitions.
use Rattle.std.specs.Prelude.{ℕ, zero, suc, List, drop, ◌==◌, slice_index}
use Rattle.change.specs.Records.{change_in}
use Rattle.queue.specs.Queue.{Event, submit, withdraw, report}

-- the event that eleven numbers say
abbrev pub event_by : ℕ → List ℕ → Event
event_by zero xs = submit (change_in xs)
event_by (suc zero) xs = withdraw (slice_index xs 0)
event_by (suc (suc k)) xs = report (slice_index xs 0) (slice_index xs 1 == 1)

abbrev pub event_in : List ℕ → Event
event_in xs = event_by (slice_index xs 0) (drop 1 xs)
