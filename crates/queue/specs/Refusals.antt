-- Which refusal a lent queue and an event meet first. Assumes nothing: these are definitions.
use Rattle.std.specs.Prelude.{ℕ, zero, suc, ◌+◌, Bool, cond, not, ◌&&◌, List, ◌++◌, length, drop, codes, decimal, Some, None, Ok, Err, Option, Result, nat_le, nat_lt, slice_index}
use Rattle.std.specs.Option.{option_map}
use Rattle.change.specs.Change.{Change, most_parts, line, numbered, fault}
use Rattle.change.specs.Records.{change_in, change_width}
use Rattle.run.specs.Records.{run_width, verdict_width}
use Rattle.run.specs.Limits.{most_following}
use Rattle.run.specs.Layout.{most_landed, most_waiting, most_rejected, most_verdicts, most_running, most_benches, most_depth, number_limit, benches_at, depth_at, landed_count, waiting_count, rejected_count, verdicts_count, running_count, requested_at, landed_at, waiting_at, rejected_at, verdicts_at, running_at, queue_length, event_length}
use Rattle.queue.specs.Queue.{used}
use Rattle.run.specs.Numbers.{landed_in, waiting_in, rejected_in}
use Rattle.queue.specs.declared.reply.Refusal.{Refusal}
use Rattle.queue.specs.declared.reply.Refusal.TheVariants.{Malformed, Benches, Depth, Event, NumberUsed, Parts, NotWaiting, NotRunning, WaitingFull, LandedFull, RejectedFull, VerdictsFull, RequestsSpent}

-- a refusal's number and its place
pub record Code : Type 0 where
  pub number : ℕ
  pub place : ℕ

abbrev pub code : ℕ → ℕ → Code
code n p = record { number = n; place = p }

abbrev pub refusal_code : Refusal → Code
refusal_code (Malformed p) = code 1 p
refusal_code Benches = code 2 0
refusal_code Depth = code 3 1
refusal_code Event = code 4 0
refusal_code (NumberUsed n) = code 5 n
refusal_code (Parts p) = code 6 p
refusal_code (NotWaiting n) = code 7 n
refusal_code (NotRunning p) = code 8 p
refusal_code WaitingFull = code 9 0
refusal_code LandedFull = code 9 1
refusal_code RejectedFull = code 9 2
refusal_code VerdictsFull = code 10 0
refusal_code RequestsSpent = code 10 1

-- what is printed of a refusal: its number, and its place
abbrev pub refusal_text : Refusal → List ℕ
refusal_text r = codes "refused " ++ (decimal (refusal_code r).number ++ (codes " at " ++ decimal (refusal_code r).place))

-- a check refuses or does not
abbrev pub Check : Type 0
Check = Option Refusal

-- the first of two that refuses
abbrev pub then : Check → Check → Check
then None d = d
then (Some r) d = Some r

abbrev pub unless : Bool → Refusal → Check
unless b r = cond b None (Some r)

-- what a check in the code says, and what it hands on
abbrev pub check_of : {A : Type 0} → Result A Refusal → Check
check_of (Ok x) = None
check_of (Err r) = Some r

abbrev pub Hands : {A : Type 0} → Result A Refusal → (A → Type 0) → Type 0
Hands (Ok x) P = P x
Hands (Err r) P = Unit {0}

abbrev pub length_check : List ℕ → Check
length_check xs = unless (nat_le queue_length (length xs)) (Malformed (length xs))

abbrev pub count_check : ℕ → ℕ → List ℕ → Check
count_check at most xs = unless (nat_le (slice_index xs at) most) (Malformed at)

abbrev pub counts_check : List ℕ → Check
counts_check xs =
    then (count_check landed_count most_landed xs)
    (then (count_check waiting_count most_waiting xs)
    (then (count_check rejected_count most_rejected xs)
    (then (count_check verdicts_count most_verdicts xs) (count_check running_count most_running xs))))

-- of n records of width w from `at` on, the index of the first count, at this field of its record, that is above the most
abbrev pub over : ℕ → ℕ → ℕ → ℕ → ℕ → List ℕ → Option ℕ
over w field most zero at xs = None
over w field most (suc n) at xs = cond (nat_le (slice_index xs (at + field)) most) (over w field most n (at + w) xs) (Some (at + field))

abbrev pub changes_check : ℕ → ℕ → List ℕ → Check
changes_check count at xs = option_map Malformed (over change_width 1 most_parts (slice_index xs count) at xs)

abbrev pub following_check : ℕ → ℕ → ℕ → List ℕ → Check
following_check w count at xs = option_map Malformed (over w 2 most_following (slice_index xs count) at xs)

-- no change has too many parts, and no run too many changes that follow
abbrev pub records_check : List ℕ → Check
records_check xs =
    then (changes_check landed_count landed_at xs)
    (then (changes_check waiting_count waiting_at xs)
    (then (changes_check rejected_count rejected_at xs)
    (then (following_check verdict_width verdicts_count verdicts_at xs) (following_check run_width running_count running_at xs))))

-- all that wait could land, and all could be rejected
abbrev pub sums_check : List ℕ → Check
sums_check xs =
    then (unless (nat_le (slice_index xs landed_count + slice_index xs waiting_count) most_landed) (Malformed landed_count))
    (unless (nat_le (slice_index xs rejected_count + slice_index xs waiting_count) most_rejected) (Malformed rejected_count))

-- of n runs in records of width w from `at` on, the first that begins with more landed changes than its part has
abbrev pub overlong : List Change → ℕ → ℕ → ℕ → List ℕ → Option ℕ
overlong landed w zero at xs = None
overlong landed w (suc n) at xs =
    cond (nat_le (slice_index xs (at + 1)) (length (line (slice_index xs at) landed))) (overlong landed w n (at + w) xs) (Some at)

abbrev pub begins_check : ℕ → ℕ → ℕ → List ℕ → Check
begins_check w count at xs = option_map Malformed (overlong (landed_in xs) w (slice_index xs count) at xs)

abbrev pub runs_check : List ℕ → Check
runs_check xs = then (begins_check verdict_width verdicts_count verdicts_at xs) (begins_check run_width running_count running_at xs)

-- the slice is a queue, whoever wrote it
abbrev pub queue_check : List ℕ → Check
queue_check xs = then (length_check xs) (then (counts_check xs) (then (records_check xs) (then (sums_check xs) (runs_check xs))))

abbrev pub benches_check : ℕ → Check
benches_check b = unless (nat_le 1 b && nat_le b most_benches) Benches

abbrev pub depth_check : ℕ → Check
depth_check k = unless (nat_le 1 k && nat_le k most_depth) Depth

-- events of kinds up to the last are known
abbrev pub event_check : ℕ → List ℕ → Check
event_check last es = unless (nat_le event_length (length es) && (nat_le (slice_index es 0) last && nat_lt (slice_index es 1) number_limit)) Event

abbrev pub number_check : List ℕ → ℕ → Check
number_check xs n = unless (not (used n (landed_in xs) (waiting_in xs) (rejected_in xs))) (NumberUsed n)

abbrev pub parts_check : List ℕ → Check
parts_check es = then (unless (nat_le (slice_index es 2) most_parts) (Parts most_parts)) (option_map Parts (fault (change_in (drop 1 es))))

abbrev pub waits_check : List ℕ → ℕ → Check
waits_check xs n = unless (numbered n (waiting_in xs)) (NotWaiting n)

abbrev pub place_check : List ℕ → ℕ → Check
place_check xs i = unless (nat_lt i (slice_index xs running_count)) (NotRunning i)

abbrev pub room_check : List ℕ → Check
room_check xs =
    then (unless (nat_lt (slice_index xs waiting_count) most_waiting) WaitingFull)
    (then (unless (nat_lt (slice_index xs landed_count + slice_index xs waiting_count) most_landed) LandedFull)
    (unless (nat_lt (slice_index xs rejected_count + slice_index xs waiting_count) most_rejected) RejectedFull))

abbrev pub verdicts_check : List ℕ → Check
verdicts_check xs = unless (nat_lt (slice_index xs verdicts_count) most_verdicts) VerdictsFull

abbrev pub requests_check : List ℕ → Check
requests_check xs = unless (nat_lt (slice_index xs requested_at) number_limit) RequestsSpent

-- what an event of each kind must meet
abbrev pub kind_check : ℕ → List ℕ → List ℕ → Check
kind_check zero xs es = then (number_check xs (slice_index es 1)) (then (parts_check es) (then (room_check xs) (requests_check xs)))
kind_check (suc zero) xs es = then (waits_check xs (slice_index es 1)) (requests_check xs)
kind_check (suc (suc k)) xs es = then (place_check xs (slice_index es 1)) (then (verdicts_check xs) (requests_check xs))

-- the kinds of event: submit 0, withdraw 1, report 2, which is the last
abbrev pub report_kind : ℕ
report_kind = 2

-- what every event must meet, where kinds of event up to the last are known: the queue, its config, the event's form
abbrev pub front_check : ℕ → List ℕ → List ℕ → Check
front_check last xs es =
    then (queue_check xs) (then (benches_check (slice_index xs benches_at)) (then (depth_check (slice_index xs depth_at)) (event_check last es)))

-- the first refusal that applies
abbrev pub refusal : ℕ → List ℕ → List ℕ → Check
refusal last xs es = then (front_check last xs es) (kind_check (slice_index es 0) xs es)
