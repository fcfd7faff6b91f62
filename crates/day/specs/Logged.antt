-- What is said of a day: the promises that it keeps, and what it does with an event. Assumes nothing: these are definitions.
use Rattle.std.specs.Prelude.{◌≡◌, ℕ, true, List, [], map, Ok, Err, vec_items, Result}
use Rattle.run.specs.Numbers.{decode}
use Rattle.serial.specs.Serial.{Bench}
use Rattle.queue.specs.Events.{event_in}
use Rattle.queue.specs.Entry.{config}
use Rattle.promises.specs.Day.{logged, Truthful}
use Rattle.promises.specs.Lent.{is_done}
use Rattle.promises.specs.Promises.{AsSerial, AllTested}
use Rattle.day.specs.Played.{started}
use Rattle.day.specs.declared.logged.Day.{Day}
use Rattle.day.specs.declared.logged.NotOpened.{NotOpened}
use Rattle.day.specs.declared.logged.NotOpened.TheVariants as not_opened

-- the queue's numbers, and the numbers of each event that was taken
abbrev pub numbers_of : Day → List ℕ
numbers_of d = vec_items d.numbers

abbrev pub log_of : Day → List (List ℕ)
log_of d = vec_items d.log

-- THE PROMISES, of the config, the events taken and the numbers that a day holds. Take what a witness wrote down of these events. For every deterministic bench: if the reports are
-- what the bench says, the decisions that the numbers say are those of serial testing. And whatever the benches said: every state of the main line that the numbers say
-- was reported good.
unfoldable pub PromisedBy : ℕ → ℕ → List (List ℕ) → List ℕ → Type 0
PromisedBy b k es xs =
    let g = logged (config b k) (map event_in es) in
    ((bench : Bench) → Truthful bench g.reports → AsSerial bench g (decode xs)) × AllTested g.reports (decode xs).landed

abbrev pub Promised : Day → Type 0
Promised d = PromisedBy d.benches d.depth (log_of d) (numbers_of d)

-- a day of this config begins with an empty queue and no event; or the queue refuses the config, or there is no memory
abbrev pub Begins : ℕ → ℕ → ℕ → Result Day NotOpened → Type 0
Begins b k most (Ok d) =
    (d.benches ≡ b) × (d.depth ≡ k) × (d.most ≡ most) × (log_of d ≡ []) × (numbers_of d ≡ (started b k).1) × (is_done (started b k).0 ≡ true)
Begins b k most (Err not_opened.Memory) = Unit {0}
Begins b k most (Err (not_opened.Refused r)) = (started b k).0 ≡ Err r

-- the config and the limit stay
abbrev pub SameTerms : Day → Day → Type 0
SameTerms d e = (e.benches ≡ d.benches) × (e.depth ≡ d.depth) × (e.most ≡ d.most)
