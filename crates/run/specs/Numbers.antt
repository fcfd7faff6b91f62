-- The queue as numbers: its sections, what they say, and how a state is written. Assumes nothing: these are definitions.
use Rattle.std.specs.Prelude.{◌≡◌, ℕ, ◌+◌, ◌-◌, ◌*◌, ◌<◌, ◌≤◌, List, [], ◌∷◌, ◌++◌, length, take, drop, replicate, slice_index, slice_index_or}
use Rattle.std.specs.List.{AllByRecursion}
use Rattle.change.specs.Change.{Change, most_parts, line}
use Rattle.change.specs.Records.{change_in, changes_in, change_row, change_width, table}
use Rattle.run.specs.Records.{run_in, runs_in, verdict_in, verdicts_in, run_row, verdict_row, run_width, verdict_width, Ahead, AheadVerdict}
use Rattle.run.specs.Layout.{most_landed, most_waiting, most_rejected, most_verdicts, most_running, benches_at, depth_at, landed_count, waiting_count, rejected_count, verdicts_count, running_count, requested_at, landed_at, waiting_at, rejected_at, verdicts_at, running_at, queue_length}
use Rattle.run.specs.State.{Config, Queue}

-- the counters, the five sections, and what lies behind the queue in a longer slice
pub record Sections : Type 0 where
  pub counters : List ℕ
  pub landed : List ℕ
  pub waiting : List ℕ
  pub rejected : List ℕ
  pub verdicts : List ℕ
  pub running : List ℕ
  pub behind : List ℕ

abbrev pub sections : List ℕ → Sections
sections xs = record {
  counters = take landed_at xs;
  landed = take (change_width * most_landed) (drop landed_at xs);
  waiting = take (change_width * most_waiting) (drop waiting_at xs);
  rejected = take (change_width * most_rejected) (drop rejected_at xs);
  verdicts = take (verdict_width * most_verdicts) (drop verdicts_at xs);
  running = take (run_width * most_running) (drop running_at xs);
  behind = drop queue_length xs;
}

abbrev pub whole : Sections → List ℕ
whole s = s.counters ++ (s.landed ++ (s.waiting ++ (s.rejected ++ (s.verdicts ++ (s.running ++ s.behind)))))

-- what the numbers say
abbrev pub config_in : List ℕ → Config
config_in xs = record { benches = slice_index xs benches_at; depth = slice_index xs depth_at }

abbrev pub landed_in : List ℕ → List Change
landed_in xs = changes_in (slice_index xs landed_count) (drop landed_at xs)

abbrev pub waiting_in : List ℕ → List Change
waiting_in xs = changes_in (slice_index xs waiting_count) (drop waiting_at xs)

abbrev pub rejected_in : List ℕ → List Change
rejected_in xs = changes_in (slice_index xs rejected_count) (drop rejected_at xs)

unfoldable pub decode : List ℕ → Queue
decode xs = record {
  landed = landed_in xs;
  waiting = waiting_in xs;
  rejected = rejected_in xs;
  verdicts = verdicts_in (landed_in xs) (slice_index xs verdicts_count) (drop verdicts_at xs);
  running = runs_in (landed_in xs) (slice_index xs running_count) (drop running_at xs);
  requested = slice_index xs requested_at;
}

-- how a state is written: 0 in all that is not used, and every run begins with all landed changes of its part
abbrev pub changes_section : ℕ → List Change → List ℕ
changes_section most cs = table change_row (change_width * most) cs

abbrev pub sections_of : Config → Queue → List ℕ → Sections
sections_of t q behind = record {
  counters = t.benches ∷ t.depth ∷ length q.landed ∷ length q.waiting ∷ length q.rejected ∷ length q.verdicts ∷ length q.running ∷ q.requested ∷ [];
  landed = changes_section most_landed q.landed;
  waiting = changes_section most_waiting q.waiting;
  rejected = changes_section most_rejected q.rejected;
  verdicts = table (verdict_row q.landed) (verdict_width * most_verdicts) q.verdicts;
  running = table (run_row q.landed) (run_width * most_running) q.running;
  behind = behind;
}

-- the numbers of a state, with what lies behind them
unfoldable pub encode : Config → Queue → List ℕ → List ℕ
encode t q behind = whole (sections_of t q behind)

-- the numbers with these changes landed, waiting and rejected; verdicts, running and what lies behind stay as they stood
abbrev pub with_changes : List ℕ → List Change → List Change → List Change → Sections
with_changes xs landed waiting rejected = record {
  counters = slice_index xs benches_at ∷ slice_index xs depth_at ∷ length landed ∷ length waiting ∷ length rejected ∷ slice_index xs verdicts_count ∷ slice_index xs running_count ∷ slice_index xs requested_at ∷ [];
  landed = changes_section most_landed landed;
  waiting = changes_section most_waiting waiting;
  rejected = changes_section most_rejected rejected;
  verdicts = (sections xs).verdicts;
  running = (sections xs).running;
  behind = (sections xs).behind;
}

-- a record's run begins with no more landed changes than its part has
abbrev pub Begins : List Change → List ℕ → Type 0
Begins landed xs = slice_index xs 1 ≤ length (line (slice_index xs 0) landed)

-- numbers long enough for a queue, whose runs keep to their sections and fit what has landed
pub record RunsFit (xs : List ℕ) : Type 0 where
  pub long : queue_length ≤ length xs
  pub few_verdicts : slice_index_or xs verdicts_count 0 ≤ most_verdicts
  pub few_running : slice_index_or xs running_count 0 ≤ most_running
  pub verdicts_fit : (k : ℕ) → k < slice_index xs verdicts_count → Begins (landed_in xs) (drop (verdicts_at + verdict_width * k) xs)
  pub running_fit : (k : ℕ) → k < slice_index xs running_count → Begins (landed_in xs) (drop (running_at + run_width * k) xs)

-- numbers that a step works on: changes are written as they read, counts keep to their sections, runs fit what has landed
pub record Settled (xs : List ℕ) : Type 0 where
  pub long : queue_length ≤ length xs
  pub is : xs ≡ whole (with_changes xs (landed_in xs) (waiting_in xs) (rejected_in xs))
  pub few_landed : slice_index_or xs landed_count 0 + slice_index xs waiting_count ≤ most_landed
  pub few_waiting : slice_index_or xs waiting_count 0 ≤ most_waiting
  pub few_rejected : slice_index_or xs rejected_count 0 + slice_index xs waiting_count ≤ most_rejected
  pub few_verdicts : slice_index_or xs verdicts_count 0 ≤ most_verdicts
  pub few_running : slice_index_or xs running_count 0 ≤ most_running
  pub verdicts_fit : (k : ℕ) → k < slice_index xs verdicts_count → Begins (landed_in xs) (drop (verdicts_at + verdict_width * k) xs)
  pub running_fit : (k : ℕ) → k < slice_index xs running_count → Begins (landed_in xs) (drop (running_at + run_width * k) xs)

-- a state that fits its sections
abbrev pub Small : Change → Type 0
Small c = length c.parts ≤ most_parts

pub record Fits (q : Queue) : Type 0 where
  pub landed : length q.landed ≤ most_landed
  pub waiting : length q.waiting ≤ most_waiting
  pub rejected : length q.rejected ≤ most_rejected
  pub verdicts : length q.verdicts ≤ most_verdicts
  pub running : length q.running ≤ most_running
  pub small_landed : AllByRecursion Small q.landed
  pub small_waiting : AllByRecursion Small q.waiting
  pub small_rejected : AllByRecursion Small q.rejected
  pub verdicts_ahead : AllByRecursion (AheadVerdict q.landed) q.verdicts
  pub running_ahead : AllByRecursion (Ahead q.landed) q.running

-- decoding what was encoded gives it back
abbrev pub DecodeEncode : Type 0
DecodeEncode =
    (t : Config) (q : Queue) (behind : List ℕ) → Fits q →
    (decode (encode t q behind) ≡ q) × (config_in (encode t q behind) ≡ t) × (drop queue_length (encode t q behind) ≡ behind)

-- a tidy section: each of its n records is written as it reads, and 0 stands behind them
pub record TidySection {A : Type 0} (f : List ℕ → A) (row : A → List ℕ) (w n : ℕ) (xs : List ℕ) : Type 0 where
  pub records : (i : ℕ) → i < n → take w (drop (w * i) xs) ≡ row (f (drop (w * i) xs))
  pub rest : drop (w * n) xs ≡ replicate (length xs - w * n) 0

-- a tidy queue: it is long enough, its counts keep to their sections, and each section is tidy
pub record Tidy (xs : List ℕ) : Type 0 where
  pub long : queue_length ≤ length xs
  pub few_landed : slice_index_or xs landed_count 0 ≤ most_landed
  pub few_waiting : slice_index_or xs waiting_count 0 ≤ most_waiting
  pub few_rejected : slice_index_or xs rejected_count 0 ≤ most_rejected
  pub few_verdicts : slice_index_or xs verdicts_count 0 ≤ most_verdicts
  pub few_running : slice_index_or xs running_count 0 ≤ most_running
  pub landed : TidySection change_in change_row change_width (slice_index xs landed_count) (sections xs).landed
  pub waiting : TidySection change_in change_row change_width (slice_index xs waiting_count) (sections xs).waiting
  pub rejected : TidySection change_in change_row change_width (slice_index xs rejected_count) (sections xs).rejected
  pub verdicts : TidySection (verdict_in (landed_in xs)) (verdict_row (landed_in xs)) verdict_width (slice_index xs verdicts_count) (sections xs).verdicts
  pub running : TidySection (run_in (landed_in xs)) (run_row (landed_in xs)) run_width (slice_index xs running_count) (sections xs).running

-- a tidy queue is what encoding its decoding gives
abbrev pub EncodeDecode : Type 0
EncodeDecode = (xs : List ℕ) → Tidy xs → encode (config_in xs) (decode xs) (drop queue_length xs) ≡ xs
