-- What each event that is taken keeps holds after a whole day. Assumes nothing.
use Rattle.std.proofs.Common.{◌≡◌, Bool, true, false, cond, ◌&&◌, List, [], ◌∷◌, ◌++◌, sym, refl, ap, ◌∙◌}
use Rattle.std.proofs.lemmas.Bool.{not-true}
use Rattle.change.specs.Change.{Change}
use Rattle.run.specs.State.{Config, Queue, empty}
use Rattle.queue.specs.Queue.{Event, submit, used, fresh, proper, roomy, accepts, step, after, replayed}
use Rattle.promises.specs.Day.{Log, blank, with_event, log}
use Rattle.promises.proofs.Basics.{both_left}

pub log-keeps : (t : Config) (P : Queue → Log → Type 0) → ((q : Queue) (g : Log) (e : Event) → accepts t q e ≡ true → P q g → P (step t q e) (with_event t q e g)) →
    (es : List Event) (q : Queue) (g : Log) → P q g → P (replayed t q es) (log t q es g)
unfolding replayed after log
log-keeps t P k [] q g h = h
log-keeps t P k (e ∷ es) q g h = log-keeps t P k es (after t q e) (cond (accepts t q e) (with_event t q e g) g) (go (accepts t q e) refl)
  where
    go : (b : Bool) → accepts t q e ≡ b → P (cond b (step t q e) q) (cond b (with_event t q e g) g)
    go true a = k q g e a h
    go false a = h

-- the same of the queue alone
pub day_keeps : (t : Config) (P : Queue → Type 0) → ((q : Queue) (e : Event) → accepts t q e ≡ true → P q → P (step t q e)) → (es : List Event) (q : Queue) → P q →
    P (replayed t q es)
day_keeps t P k es q h = log-keeps t (λ q g. P q) (λ q g e a i. k q e a i) es q blank h

-- an event that is taken is stepped
pub after_taken : (t : Config) (q : Queue) (e : Event) → accepts t q e ≡ true → after t q e ≡ step t q e
unfolding after
after_taken t q e a = ap (λ (b : Bool). cond b (step t q e) q) a

-- a day is replayed in two parts as in one
replayed-append : (t : Config) (q : Queue) (es fs : List Event) → replayed t q (es ++ fs) ≡ replayed t (replayed t q es) fs
unfolding replayed
replayed-append t q [] fs = refl
replayed-append t q (e ∷ es) fs = replayed-append t (after t q e) es fs

-- a queue that some day ends with
pub record Reached (t : Config) (q : Queue) : Type 0 where
  pub events : List Event
  pub is : q ≡ replayed t empty events

pub reached-empty : (t : Config) → Reached t empty
unfolding replayed
reached-empty t = record { events = []; is = refl }

pub reached-after : (t : Config) (q : Queue) (e : Event) → Reached t q → Reached t (after t q e)
unfolding replayed
reached-after t q e r = record { events = r.events ++ e ∷ []; is = ap (λ (p : Queue). after t p e) r.is ∙ sym (replayed-append t empty r.events (e ∷ [])) }

-- a change that is taken has a number of its own
pub fresh-number : (t : Config) (q : Queue) (c : Change) → accepts t q (submit c) ≡ true → used c.number q.landed q.waiting q.rejected ≡ false
unfolding accepts
fresh-number t q c a = not-true (used c.number q.landed q.waiting q.rejected) (both_left (fresh q c.number) (proper c && roomy q) a)
