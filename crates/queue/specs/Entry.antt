-- What the entry answers, and what the lent numbers are afterwards. Assumes nothing: these are definitions.
use Rattle.std.specs.Prelude.{◌≡◌, ℕ, List, length, drop, Some, None, Ok, Err, Result}
use Rattle.run.specs.Layout.{queue_length}
use Rattle.run.specs.State.{Config, Queue, empty}
use Rattle.queue.specs.Queue.{step}
use Rattle.run.specs.Numbers.{config_in, decode, encode}
use Rattle.queue.specs.Events.{event_by, event_in}
use Rattle.queue.specs.Refusals.{Check, then, length_check, benches_check, depth_check, kind_check, refusal, report_kind}
use Rattle.queue.specs.declared.reply.Refusal.{Refusal}

-- what the queue answers to an event: how many runs are running once it was taken, or why it was turned away
abbrev pub Reply : Type 0
Reply = Result ℕ Refusal

-- a refusal leaves the numbers as they were
abbrev pub unless_refused : Check → List ℕ → Reply × List ℕ → Reply × List ℕ
unless_refused None xs taken = taken
unless_refused (Some r) xs taken = (Err r, xs)

-- the reply to a check's refusal
abbrev pub Replies : {A : Type 0} → Result A Refusal → Reply → Type 0
Replies (Ok x) q = q ≡ Ok 0
Replies (Err r) q = q ≡ Err r

-- opening writes an empty queue of the config
abbrev pub config : ℕ → ℕ → Config
config b k = record { benches = b; depth = k }

abbrev pub opened : List ℕ → ℕ → ℕ → Reply × List ℕ
opened xs b k =
    unless_refused (then (length_check xs) (then (benches_check b) (depth_check k))) xs (Ok 0, encode (config b k) empty (drop queue_length xs))

-- THE STEP ON NUMBERS. The first refusal that applies; else the numbers of the state that the step gives.
abbrev pub stepped_to : Config → Queue → List ℕ → Reply × List ℕ
stepped_to t q behind = (Ok (length q.running), encode t q behind)

unfoldable pub stepped : List ℕ → List ℕ → Reply × List ℕ
stepped xs es =
    unless_refused (refusal report_kind xs es) xs (stepped_to (config_in xs) (step (config_in xs) (decode xs) (event_in es)) (drop queue_length xs))

-- the same, where the event is of this kind and well formed
abbrev pub stepped_kind : ℕ → List ℕ → List ℕ → Reply × List ℕ
stepped_kind k xs es =
    unless_refused (kind_check k xs es) xs (stepped_to (config_in xs) (step (config_in xs) (decode xs) (event_by k (drop 1 es))) (drop queue_length xs))
