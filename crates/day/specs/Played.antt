-- What the numbers of a day come from: an empty queue, and the events of the day's log. Assumes nothing: these are definitions.
use Rattle.std.specs.Prelude.{ℕ, Bool, true, ◌&&◌, List, [], ◌∷◌, replicate}
use Rattle.run.specs.Layout.{queue_length}
use Rattle.queue.specs.Entry.{Reply, opened, stepped}
use Rattle.promises.specs.Lent.{is_done}

-- the numbers in which a day opens its queue
unfoldable pub blank_numbers : List ℕ
blank_numbers = replicate queue_length 0

-- a day begins with an empty queue of its config: the reply to opening it, and its numbers
unfoldable pub started : ℕ → ℕ → Reply × List ℕ
started b k = opened blank_numbers b k

-- each event is taken in its turn
unfoldable pub all_taken : List ℕ → List (List ℕ) → Bool
all_taken xs [] = true
all_taken xs (e ∷ es) = is_done (stepped xs e).0 && all_taken (stepped xs e).1 es
