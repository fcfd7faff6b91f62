-- The stages of a step on lent numbers: what the checks found, and what the numbers say after each stage.
use Rattle.std.specs.Prelude.{◌≡◌, ℕ, ◌+◌, ◌<◌, ◌≤◌, List, drop, Result, nat_le, slice_index, slice_index_or}
use Rattle.run.specs.Layout.{most_benches, most_depth, benches_at, depth_at, most_landed, most_waiting, most_rejected, landed_count, waiting_count, rejected_count, verdicts_count, running_count, queue_length}
use Rattle.run.specs.State.{Queue}
use Rattle.change.specs.Records.{Tallies}
use Rattle.run.specs.Numbers.{config_in, decode, landed_in, RunsFit, Settled}
use Rattle.queue.specs.Refusals.{Hands, check_of, report_kind, unless}
use Rattle.queue.specs.declared.reply.Refusal.{Refusal}
use Rattle.queue.specs.declared.reply.Refusal.TheVariants.{Event}
use Rattle.queue.specs.declared.counts.Counts.{Counts}
use Rattle.queue.specs.declared.kind.Kind.{Kind}
use Rattle.queue.specs.declared.kind.Kind.TheVariants.{Submit, Withdraw, Report}

-- the number of each kind of event
abbrev pub kind_number : Kind → ℕ
kind_number Submit = 0
kind_number Withdraw = 1
kind_number Report = 2

-- the kind that a number says, if it says one
abbrev pub KindOf : ℕ → Result Kind Refusal → Type 0
KindOf n r = (check_of r ≡ unless (nat_le n report_kind) Event) × Hands r (λ k. kind_number k ≡ n)

-- these are the counts of the five sections
pub record Counted (xs : List ℕ) (n : Counts) : Type 0 where
  pub landed : n.landed ≡ slice_index xs landed_count
  pub waiting : n.waiting ≡ slice_index xs waiting_count
  pub rejected : n.rejected ≡ slice_index xs rejected_count
  pub verdicts : n.verdicts ≡ slice_index xs verdicts_count
  pub running : n.running ≡ slice_index xs running_count

-- the slice is a queue with these counts
pub record Sound (xs : List ℕ) (n : Counts) : Type 0 where
  pub counted : Counted xs n
  pub runs : RunsFit xs
  pub can_land : n.landed + n.waiting ≤ most_landed
  pub can_reject : n.rejected + n.waiting ≤ most_rejected

-- one more can wait
pub record Roomy (n : Counts) : Type 0 where
  pub can_wait : n.waiting < most_waiting
  pub can_land : n.landed + n.waiting < most_landed
  pub can_reject : n.rejected + n.waiting < most_rejected

-- the numbers ys are ready for the next stage and say the state q; their config, and what lies behind them, are those of xs
pub record Says (xs : List ℕ) (q : Queue) (ys : List ℕ) : Type 0 where
  pub settled : Settled ys
  pub state : decode ys ≡ q
  pub config : config_in ys ≡ config_in xs
  pub behind : drop queue_length ys ≡ drop queue_length xs

-- the slice is a queue with these counts, and the table says how many landed changes each part has
pub record Found (xs : List ℕ) (n : Counts) (tally : List ℕ) : Type 0 where
  pub sound : Sound xs n
  pub tallied : Tallies tally (landed_in xs)

-- its benches and its depth are not too many
pub record Configured (xs : List ℕ) : Type 0 where
  pub benches : slice_index_or xs benches_at 0 ≤ most_benches
  pub depth : slice_index_or xs depth_at 0 ≤ most_depth
