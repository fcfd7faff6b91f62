-- A whole day: the text that is printed. Assumes nothing: these are definitions.
use Rattle.std.specs.Prelude.{◌≡◌, ℕ, ◌+◌, Bool, true, cond, ◌&&◌, List, [], ◌∷◌, ◌++◌, is_ok, Some, None, codes, Option, Result, ◌==◌, nat_le, nat_lt, slice_index, Ok, Err}
use Rattle.std.specs.Fmt.{IsPlainFormatter, HasWritten}
use Rattle.std.specs.declared.fmt.Formatter.{Formatter}
use Rattle.run.specs.Layout.{landed_count, waiting_count, rejected_count}
use Rattle.run.specs.Numbers.{decode}
use Rattle.queue.specs.Entry.{Reply, stepped}
use Rattle.queue.specs.Refusals.{refusal_code, refusal_text}
use Rattle.queue.specs.declared.reply.Refusal.TheVariants.{WaitingFull}
use Rattle.day.specs.DayFile.{config_read, events_in}
use Rattle.day.specs.Played.{started}
use Rattle.day.specs.Text.{reply_text}

-- how many changes a day usually holds at most
abbrev pub usual_changes : ℕ
usual_changes = 64

-- how many changes the queue holds: those that landed, wait and were rejected
abbrev pub changes_held : List ℕ → ℕ
changes_held xs = slice_index xs landed_count + slice_index xs waiting_count + slice_index xs rejected_count

-- a day that holds as many changes as it may takes no submission
abbrev pub held_back : ℕ → List ℕ → List ℕ → Bool
held_back most xs event = slice_index event 0 == 0 && nat_le most (changes_held xs)

-- what it answers to one: a refusal that comes before those for want of a place stands (numbers 1 to 8), and else it is one more than may wait
abbrev pub first_full : ℕ
first_full = 9

abbrev pub turned_away : Reply → Reply
turned_away (Ok n) = Err WaitingFull
turned_away (Err r) = Err (cond (nat_lt (refusal_code r).number first_full) r WaitingFull)

-- what a day that holds at most so many changes makes of an event: its reply, and the queue's numbers after it
unfoldable pub answered : ℕ → List ℕ → List ℕ → Reply × List ℕ
answered most xs event = cond (held_back most xs event) (turned_away (stepped xs event).0, xs) (stepped xs event)

-- where f is plain and nothing failed, the text was written, from f to g
abbrev pub Plays : {W E : Type 0} → (W → List ℕ → W → Type 0) → Formatter W → Result (Unit {0}) E → List ℕ → Formatter W → Type 0
Plays took f r text g = IsPlainFormatter f → is_ok r ≡ true → HasWritten took f text g

-- the line of a reply
abbrev pub printed : Reply × List ℕ → List ℕ
printed a = reply_text a.0 (decode a.1) ++ codes "\n"

-- the lines of events that come one behind the other, and the numbers at the end
unfoldable pub lines : ℕ → List ℕ → List (List ℕ) → List ℕ
lines most xs [] = []
lines most xs (e ∷ es) = printed (answered most xs e) ++ lines most (answered most xs e).1 es

unfoldable pub ends : ℕ → List ℕ → List (List ℕ) → List ℕ
ends most xs [] = xs
ends most xs (e ∷ es) = ends most (answered most xs e).1 es

-- a config that is refused ends the day at once
abbrev pub started_text : ℕ → Reply → List ℕ → List (List ℕ) → List ℕ
started_text most (Ok n) xs es = lines most xs es
started_text most (Err r) xs es = refusal_text r ++ codes "\n"

-- the day that a file says; a file without a config says none
abbrev pub text_from : ℕ → Option (ℕ × ℕ) → List (List ℕ) → List ℕ
text_from most None es = []
text_from most (Some t) es = started_text most (started t.0 t.1).0 (started t.0 t.1).1 es

unfoldable pub day_text : ℕ → List ℕ → List ℕ
day_text most bs = text_from most (config_read bs) (events_in bs)
