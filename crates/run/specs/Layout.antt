-- Where everything stands in the lent queue, and how much of it there may be. Assumes nothing: these are definitions.
use Rattle.std.specs.Prelude.{ℕ, ◌+◌, ◌*◌, ◌^◌, List, [], ◌∷◌}
use Rattle.change.specs.Change.{most_parts, part_limit}
use Rattle.change.specs.Records.{change_width}
use Rattle.run.specs.Records.{run_width, verdict_width}
use Rattle.run.specs.Limits.{most_following}

-- how many changes can land, wait and be rejected, how many verdicts can be held, how many runs can run
abbrev pub most_landed : ℕ
most_landed = 4096

abbrev pub most_waiting : ℕ
most_waiting = 64

abbrev pub most_rejected : ℕ
most_rejected = 1024

abbrev pub most_verdicts : ℕ
most_verdicts = 128

abbrev pub most_running : ℕ
most_running = 16

-- at most so many benches, and at most so many waiting changes looked at
abbrev pub most_benches : ℕ
most_benches = 16

abbrev pub most_depth : ℕ
most_depth = 16

-- numbers of changes, and the count of runs requested, stay below this
abbrev pub number_limit : ℕ
number_limit = 2 ^ 32

-- the counters in front: the config, the counts of the five sections, and the runs requested in all
abbrev pub benches_at : ℕ
benches_at = 0

abbrev pub depth_at : ℕ
depth_at = 1

abbrev pub landed_count : ℕ
landed_count = 2

abbrev pub waiting_count : ℕ
waiting_count = 3

abbrev pub rejected_count : ℕ
rejected_count = 4

abbrev pub verdicts_count : ℕ
verdicts_count = 5

abbrev pub running_count : ℕ
running_count = 6

abbrev pub requested_at : ℕ
requested_at = 7

-- the five sections, one behind the other, and the length of the whole
abbrev pub landed_at : ℕ
landed_at = 8

abbrev pub waiting_at : ℕ
waiting_at = landed_at + change_width * most_landed

abbrev pub rejected_at : ℕ
rejected_at = waiting_at + change_width * most_waiting

abbrev pub verdicts_at : ℕ
verdicts_at = rejected_at + change_width * most_rejected

abbrev pub running_at : ℕ
running_at = verdicts_at + verdict_width * most_verdicts

abbrev pub queue_length : ℕ
queue_length = running_at + run_width * most_running

-- an event: its kind, and then a change's record, a number, or a place and a verdict
abbrev pub event_length : ℕ
event_length = 1 + change_width

-- all of these, and the widths that they rest on, in the order in which the code hands them out
abbrev pub layout_numbers : List ℕ
layout_numbers =
    most_parts ∷ part_limit ∷ most_following ∷ change_width ∷ verdict_width ∷ run_width ∷ event_length
    ∷ most_landed ∷ most_waiting ∷ most_rejected ∷ most_verdicts ∷ most_running ∷ most_benches ∷ most_depth ∷ number_limit
    ∷ benches_at ∷ depth_at ∷ landed_count ∷ waiting_count ∷ rejected_count ∷ verdicts_count ∷ running_count ∷ requested_at
    ∷ landed_at ∷ waiting_at ∷ rejected_at ∷ verdicts_at ∷ running_at ∷ []
