-- The day over lent numbers, and the first two promises over it. Assumes nothing: these are definitions.
use Rattle.std.specs.Prelude.{◌≡◌, ℕ, zero, suc, Bool, true, false, cond, ◌&&◌, List, [], ◌∷◌, length, drop, nat_le, nat_lt, slice_index, Ok, Err}
use Rattle.change.specs.Change.{most_parts}
use Rattle.run.specs.Layout.{number_limit, queue_length, event_length}
use Rattle.run.specs.State.{Config, Queue, empty}
use Rattle.run.specs.Numbers.{decode, encode}
use Rattle.serial.specs.Serial.{Bench}
use Rattle.queue.specs.Queue.{Event, accepts, after, replayed}
use Rattle.queue.specs.Events.{event_in}
use Rattle.queue.specs.Refusals.{report_kind}
use Rattle.queue.specs.Entry.{Reply, config, opened, stepped}
use Rattle.promises.specs.Day.{logged, Truthful}
use Rattle.promises.specs.Promises.{AsSerial, AllTested}

-- the reply says that the event was taken
abbrev pub is_done : Reply → Bool
is_done (Ok n) = true
is_done (Err r) = false

-- the numbers after these events, each of them numbers itself, stepped one after another
unfoldable pub lent_day : List ℕ → List (List ℕ) → List ℕ
lent_day xs [] = xs
lent_day xs (es ∷ more) = lent_day (stepped xs es).1 more

-- those of the events that were taken
unfoldable pub taken_events : List ℕ → List (List ℕ) → List Event
taken_events xs [] = []
taken_events xs (es ∷ more) =
    cond (is_done (stepped xs es).0) (event_in es ∷ taken_events (stepped xs es).1 more) (taken_events (stepped xs es).1 more)

-- each event is taken in its turn
abbrev pub AllAccepted : Config → Queue → List Event → Type 0
AllAccepted t q [] = Unit {0}
AllAccepted t q (e ∷ es) = (accepts t q e ≡ true) × AllAccepted t (after t q e) es

-- A day that begins with a queue opened in a lent slice is the day on records over the events that were taken: all of these are taken there too, the numbers are those
-- of its queue, what lies behind the queue is as it was, and read again the numbers say that queue.
abbrev pub LentDays : Type 0
LentDays =
    (slice : List ℕ) (b k : ℕ) (ess : List (List ℕ)) → is_done (opened slice b k).0 ≡ true →
    let t = config b k in
    let xs = (opened slice b k).1 in
    let es = taken_events xs ess in
    AllAccepted t empty es
    × (lent_day xs ess ≡ encode t (replayed t empty es) (drop queue_length slice))
    × (decode (lent_day xs ess) ≡ replayed t empty es)

-- a submission counts no more parts than a record has room for
abbrev pub parts_counted : ℕ → List ℕ → Bool
parts_counted zero es = nat_le (slice_index es 2) most_parts
parts_counted (suc kind) es = true

-- at least eleven numbers, of a known kind, whose second is small enough
abbrev pub well_formed : List ℕ → Bool
well_formed es =
    (nat_le event_length (length es) && (nat_le (slice_index es 0) report_kind && nat_lt (slice_index es 1) number_limit)) && parts_counted (slice_index es 0) es

-- In such a day an event is taken exactly if it is well formed, the queue takes it on records, and fewer than 2 ^ 32 runs were requested. So the checks of the
-- numbers themselves and of room for a verdict never refuse.
abbrev pub LentTaken : Type 0
LentTaken =
    (slice : List ℕ) (b k : ℕ) (ess : List (List ℕ)) → is_done (opened slice b k).0 ≡ true → (es : List ℕ) →
    let xs = lent_day (opened slice b k).1 ess in
    is_done (stepped xs es).0 ≡ (well_formed es && (accepts (config b k) (decode xs) (event_in es) && nat_lt (decode xs).requested number_limit))

-- SerialEquivalence, of what the numbers say.
abbrev pub LentSerialEquivalence : Type 0
LentSerialEquivalence =
    (bench : Bench) (slice : List ℕ) (b k : ℕ) (ess : List (List ℕ)) → is_done (opened slice b k).0 ≡ true →
    let xs = (opened slice b k).1 in
    let g = logged (config b k) (taken_events xs ess) in
    Truthful bench g.reports → AsSerial bench g (decode (lent_day xs ess))

-- EveryStateTested, of what the numbers say.
abbrev pub LentEveryStateTested : Type 0
LentEveryStateTested =
    (slice : List ℕ) (b k : ℕ) (ess : List (List ℕ)) → is_done (opened slice b k).0 ≡ true →
    let xs = (opened slice b k).1 in
    AllTested (logged (config b k) (taken_events xs ess)).reports (decode (lent_day xs ess)).landed
