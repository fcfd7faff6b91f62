-- What the exported calls answer in numbers. Assumes nothing: these are definitions.
use Rattle.std.specs.Prelude.{◌≡◌, ℕ, cond, List, ◌++◌, length, drop, Some, None, nat_le, Ok, Err}
use Rattle.run.specs.Layout.{event_length}
use Rattle.queue.specs.Refusals.{Code, code, refusal_code}
use Rattle.day.specs.DayFile.{Taken}
use Rattle.capi.specs.declared.answer.Answer.{Answer}
use Rattle.queue.specs.Entry.{Reply}

-- 0 and the count of running, or the refusal's number and place
abbrev pub reply_code : Reply → Code
reply_code (Ok n) = code 0 n
reply_code (Err r) = refusal_code r

-- the answer says the reply
abbrev pub Says : Answer → Reply → Type 0
Says a reply = (a.refusal ≡ (reply_code reply).number) × (a.value ≡ (reply_code reply).place)

-- the answer says the reply, and the numbers are those that go with it
abbrev pub Answers : Reply × List ℕ → Answer → List ℕ → Type 0
Answers step a after = Says a step.0 × (after ≡ step.1)

-- how many bytes an event takes, and its numbers written over the first of these
abbrev pub read_into : Taken → List ℕ → ℕ × List ℕ
read_into None xs = (0, xs)
read_into (Some t) xs = (t.0, t.1 ++ drop event_length xs)

-- nothing is read into a list that is too short for an event
abbrev pub event_read : Taken → List ℕ → ℕ × List ℕ
event_read t xs = cond (nat_le event_length (length xs)) (read_into t xs) (0, xs)
