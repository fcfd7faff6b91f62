-- The merge queue on records: its events, and the step. Assumes nothing: these are definitions.
use Rattle.std.specs.Prelude.{ℕ, ◌+◌, Bool, cond, not, ◌&&◌, ◌||◌, List, [], ◌∷◌, ◌++◌, length, is_some, nat_lt, slice_index_or}
use Rattle.change.specs.Change.{Change, numbered, dropped, without, fault}
use Rattle.run.specs.Run.{Run}
use Rattle.run.specs.State.{Config, Queue}
use Rattle.decide.specs.Decide.{Passed, pass}
use Rattle.plan.specs.Plan.{planned}
use Rattle.run.specs.Layout.{most_landed, most_waiting, most_rejected}

-- a change is submitted; the change of a number is withdrawn; the run at a place among those running was good or bad
pub data Event : Type 0 where
  submit : Change → Event
  withdraw : ℕ → Event
  report : ℕ → Bool → Event

-- a change of this number landed, waits or was rejected
abbrev pub used : ℕ → List Change → List Change → List Change → Bool
used n landed waiting rejected = numbered n landed || (numbered n waiting || numbered n rejected)

abbrev pub fresh : Queue → ℕ → Bool
fresh q n = not (used n q.landed q.waiting q.rejected)

-- the change has 1 to 8 parts, different ones, each small enough
abbrev pub proper : Change → Bool
proper c = not (is_some (fault c))

-- one more can wait, and all that wait could land, and all could be rejected
abbrev pub roomy : Queue → Bool
roomy q =
    nat_lt (length q.waiting) most_waiting
    && (nat_lt (length q.landed + length q.waiting) most_landed && nat_lt (length q.rejected + length q.waiting) most_rejected)

-- which events are taken
unfoldable pub accepts : Config → Queue → Event → Bool
accepts t q (submit c) = fresh q c.number && (proper c && roomy q)
accepts t q (withdraw n) = numbered n q.waiting
accepts t q (report i g) = nat_lt i (length q.running)

-- where a submitted change stands among those that wait: last
abbrev pub join : Change → List Change → List Change
join c ws = ws ++ c ∷ []

abbrev pub with_waiting : Queue → List Change → Queue
with_waiting q ws = record {
  landed = q.landed;
  waiting = ws;
  rejected = q.rejected;
  verdicts = q.verdicts;
  running = q.running;
  requested = q.requested;
}

abbrev pub no_run : Run
no_run = record { part = 0; changes = [] }

-- the run at the place runs no more, and its verdict is held
abbrev pub answered : Queue → ℕ → Bool → Queue
answered q i g = record {
  landed = q.landed;
  waiting = q.waiting;
  rejected = q.rejected;
  verdicts = q.verdicts ++ record { run = slice_index_or q.running i no_run; good = g } ∷ [];
  running = without i q.running;
  requested = q.requested;
}

-- the event is recorded
unfoldable pub recorded : Queue → Event → Queue
recorded q (submit c) = with_waiting q (join c q.waiting)
recorded q (withdraw n) = with_waiting q (dropped n q.waiting)
recorded q (report i g) = answered q i g

abbrev pub with_passed : Queue → Passed → Queue
with_passed q s = record {
  landed = s.landed;
  waiting = s.waiting;
  rejected = s.rejected;
  verdicts = q.verdicts;
  running = q.running;
  requested = q.requested;
}

-- what can be decided is decided
unfoldable pub decided : Queue → Queue
decided q = with_passed q (pass q.verdicts [] q.landed q.rejected q.waiting)

-- an event that is taken is recorded, what can be decided is decided, and runs are requested
unfoldable pub step : Config → Queue → Event → Queue
step t q e = planned t (decided (recorded q e))

-- an event that is not taken leaves the queue as it was
unfoldable pub after : Config → Queue → Event → Queue
after t q e = cond (accepts t q e) (step t q e) q

-- a whole day
unfoldable pub replayed : Config → Queue → List Event → Queue
replayed t q [] = q
replayed t q (e ∷ es) = replayed t (after t q e) es
