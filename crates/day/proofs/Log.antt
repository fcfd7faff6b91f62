-- The log of a day gives its numbers, and the promises hold of them. Assumes nothing.
use Rattle.std.proofs.Common.{◌≡◌, ℕ, Bool, true, false, cond, ◌&&◌, List, [], ◌∷◌, ◌++◌, map, replicate, IfErr, is_ok, Some, None, Ok, Err, Result, sym, refl, ap, ◌∙◌, subst₂, true≢false}
use Rattle.run.specs.Layout.{queue_length}
use Rattle.run.specs.Numbers.{decode}
use Rattle.queue.specs.Queue.{Event}
use Rattle.queue.specs.Events.{event_in}
use Rattle.queue.specs.Refusals.{Check, refusal, report_kind}
use Rattle.queue.specs.Entry.{Reply, config, opened, stepped, unless_refused}
use Rattle.promises.specs.Day.{logged, Truthful}
use Rattle.promises.specs.Promises.{AsSerial, AllTested}
use Rattle.promises.specs.Lent.{is_done, lent_day, taken_events}
use Rattle.promises.proofs.Basics.{both_left, both_right}
use Rattle.promises.proofs.Reading.{lent_serial_equivalence, lent_every_state_tested}
use Rattle.day.specs.Played.{blank_numbers, started, all_taken}
use Rattle.day.specs.Day.{held_back, turned_away, answered}
use Rattle.day.specs.Logged.{PromisedBy}

-- numbers that are all 0 are those in which a day opens its queue
pub started_is : (xs : List ℕ) (b k : ℕ) (a : Reply × List ℕ) → xs ≡ replicate queue_length 0 → a ≡ opened xs b k → a ≡ started b k
unfolding blank_numbers started
started_is xs b k a e p = p ∙ ap (λ (l : List ℕ). opened l b k) e

-- no event yet
pub lent_day_none : (xs : List ℕ) (log : List (List ℕ)) → log ≡ [] → lent_day xs log ≡ xs
unfolding lent_day
lent_day_none xs log e = ap (lent_day xs) e

pub all_taken_none : (xs : List ℕ) (log : List (List ℕ)) → log ≡ [] → all_taken xs log ≡ true
unfolding all_taken
all_taken_none xs log e = ap (all_taken xs) e

-- one more event
lent_day_more : (xs : List ℕ) (log : List (List ℕ)) (e : List ℕ) → lent_day xs (log ++ e ∷ []) ≡ (stepped (lent_day xs log) e).1
unfolding lent_day
lent_day_more xs [] e = refl
lent_day_more xs (f ∷ log) e = lent_day_more (stepped xs f).1 log e

both : (a b : Bool) → a ≡ true → b ≡ true → (a && b) ≡ true
both true b p q = q
both false b p q = p

all_taken_more : (xs : List ℕ) (log : List (List ℕ)) (e : List ℕ) → all_taken xs log ≡ true → is_done (stepped (lent_day xs log) e).0 ≡ true → all_taken xs (log ++ e ∷ []) ≡ true
unfolding lent_day all_taken
all_taken_more xs [] e t d = both _ true d refl
all_taken_more xs (f ∷ log) e t d =
    both (is_done (stepped xs f).0) _ (both_left (is_done (stepped xs f).0) _ t)
    (all_taken_more (stepped xs f).1 log e (both_right (is_done (stepped xs f).0) _ t) d)

module _ (first xs ys e : List ℕ) (log more : List (List ℕ)) (r : Reply) (p : (r, ys) ≡ stepped xs e) (follows : xs ≡ lent_day first log) (grown : more ≡ log ++ e ∷ []) where
  pub follows_more : ys ≡ lent_day first more
  follows_more = ap (λ (a : Reply × List ℕ). a.1) p ∙ ap (λ (l : List ℕ). (stepped l e).1) follows ∙ sym (lent_day_more first log e) ∙ ap (lent_day first) (sym grown)

  pub taken_more : all_taken first log ≡ true → is_done r ≡ true → all_taken first more ≡ true
  taken_more t d =
      ap (all_taken first) grown
      ∙ all_taken_more first log e t (sym (ap (λ (a : Reply × List ℕ). is_done a.0) p ∙ ap (λ (l : List ℕ). is_done (stepped l e).0) follows) ∙ d)

-- a reply says that the event was taken if it is no error
pub is_done_by : (r : Reply) (b : Bool) → is_ok r ≡ b → is_done r ≡ b
is_done_by (Ok n) b e = e
is_done_by (Err r) b e = e

-- a refused event leaves the numbers
pub refusal-stays : (xs e ys : List ℕ) (r : Reply) → is_done r ≡ false → (r, ys) ≡ stepped xs e → ys ≡ xs
unfolding stepped
refusal-stays xs e ys r = go (refusal report_kind xs e) _ _
  where
    go : (c : Check) (n : ℕ) (zs : List ℕ) → is_done r ≡ false → ◌≡◌ {A = Reply × List ℕ} (r, ys) (unless_refused c xs (Ok n, zs)) → ys ≡ xs
    go None n zs d p = absurd (true≢false (sym (ap (λ (a : Reply × List ℕ). is_done a.0) p) ∙ d))
    go (Some s) n zs d p = ap (λ (a : Reply × List ℕ). a.1) p

-- the events taken are those of the log
taken-all : (xs : List ℕ) (log : List (List ℕ)) → all_taken xs log ≡ true → taken_events xs log ≡ map event_in log
unfolding all_taken taken_events
taken-all xs [] t = refl
taken-all xs (e ∷ log) t =
    let rest = taken_events (stepped xs e).1 log in
    ap (λ (b : Bool). cond b (event_in e ∷ rest) rest) (both_left (is_done (stepped xs e).0) _ t)
    ∙ ap (λ (es : List Event). event_in e ∷ es) (taken-all (stepped xs e).1 log (both_right (is_done (stepped xs e).0) _ t))

-- what holds of every day over lent numbers holds of numbers that a log gives
pub promised_by : (b k : ℕ) (log : List (List ℕ)) (xs : List ℕ) → is_done (started b k).0 ≡ true → xs ≡ lent_day (started b k).1 log → all_taken (started b k).1 log ≡ true → PromisedBy b k log xs
unfolding started PromisedBy
promised_by b k log xs d n t =
    let same = taken-all (opened blank_numbers b k).1 log t in (
      λ bench.
          subst₂ (λ (es : List Event) (ys : List ℕ). Truthful bench (logged (config b k) es).reports → AsSerial bench (logged (config b k) es) (decode ys)) same (sym n)
          (lent_serial_equivalence bench blank_numbers b k log d),
      subst₂ (λ (es : List Event) (ys : List ℕ). AllTested (logged (config b k) es).reports (decode ys).landed) same (sym n) (lent_every_state_tested blank_numbers b k log d),
    )

-- a day that is not full answers as the queue does; a full one takes no submission
pub answered-stepped : (most : ℕ) (xs e : List ℕ) → held_back most xs e ≡ false → answered most xs e ≡ stepped xs e
unfolding answered
answered-stepped most xs e h = ap (λ (b : Bool). cond b (turned_away (stepped xs e).0, xs) (stepped xs e)) h

pub answered-held : (most : ℕ) (xs e : List ℕ) → held_back most xs e ≡ true → answered most xs e ≡ (turned_away (stepped xs e).0, xs)
unfolding answered
answered-held most xs e h = ap (λ (b : Bool). cond b (turned_away (stepped xs e).0, xs) (stepped xs e)) h

pub never_taken : (r : Reply) → is_done (turned_away r) ≡ false
never_taken (Ok n) = refl
never_taken (Err r) = refl

-- what holds of any error holds where there is one
pub refused_any : {T E : Type 0} (r : Result T E) (P : E → Type 0) → ((y : E) → P y) → IfErr r P
refused_any (Ok x) P h = tt
refused_any (Err y) P h = h y
