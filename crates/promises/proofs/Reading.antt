-- The day over lent numbers is the day on records, and takes the same events. Assumes nothing.
use Rattle.std.proofs.Common.{◌≡◌, ℕ, zero, suc, ◌+◌, ◌<◌, ◌≤◌, Bool, true, false, cond, not, ◌&&◌, ltb, leb, ◌⊎◌, List, [], ◌∷◌, length, get_or, drop, Some, None, sym, refl, ap, ◌∙◌, subst, ap₂, subst₂, inl, inr, true≢false, arith, Ok}
use mathlib.Core.Bool.{and_assoc}
use Rattle.std.proofs.lemmas.Bool.{lt-ltb, leb-true}
use Rattle.std.proofs.lemmas.List.{get_or-drop}
use Rattle.queue.specs.declared.reply.Refusal.TheVariants.{Malformed, Benches, Depth, NumberUsed, Parts, NotWaiting, NotRunning, WaitingFull, LandedFull, RejectedFull, VerdictsFull, RequestsSpent}
use Rattle.run.proofs.Round.{decode_encode}
use Rattle.change.specs.Change.{most_parts, Change, numbered, fault}
use Rattle.change.specs.Records.{change_in}
use Rattle.run.specs.Layout.{most_landed, most_waiting, most_rejected, most_verdicts, most_benches, most_depth, number_limit, benches_at, depth_at, landed_count, waiting_count, rejected_count, verdicts_count, running_count, requested_at, queue_length, event_length}
use Rattle.run.specs.State.{Config, Queue, empty}
use Rattle.run.specs.Numbers.{config_in, landed_in, waiting_in, rejected_in, decode, encode, Fits}
use Rattle.queue.specs.Queue.{Event, used, fresh, proper, roomy, accepts, step, after, replayed}
use Rattle.queue.specs.Events.{event_by, event_in}
use Rattle.queue.specs.Refusals.{Check, then, length_check, benches_check, depth_check, number_check, parts_check, waits_check, place_check, room_check, verdicts_check, requests_check, kind_check, report_kind, front_check, refusal}
use Rattle.queue.specs.Entry.{Reply, unless_refused, config, opened, stepped_to, stepped}
use Rattle.promises.specs.Day.{logged}
use Rattle.promises.specs.Promises.{AsSerial, AllTested}
use Rattle.promises.specs.Lent.{is_done, lent_day, taken_events, AllAccepted, LentDays, parts_counted, well_formed, LentTaken, LentSerialEquivalence, LentEveryStateTested}
use Rattle.promises.proofs.Basics.{both_left, both_right}
use Rattle.promises.proofs.Days.{after_taken, Reached, reached-empty, reached-after}
use Rattle.promises.proofs.Main.{serial_equivalence}
use Rattle.promises.proofs.Tested.{every_state_tested}
use Rattle.promises.proofs.Fit.{room_day, few_verdicts, fits_day}
use Rattle.promises.proofs.Checked.{passed, Tests, turned, tests_both, tests_unless, tests_found, Says, says-encode, queue_checked}
use Rattle.queue.specs.declared.reply.Refusal.TheVariants as refused

-- ONE EVENT. What its kind asks of it is what records ask, that its parts are counted, and that requests can be.
abbrev taken_kind : Config → Queue → List ℕ → ℕ → Bool
taken_kind t q es k = parts_counted k es && (accepts t q (event_by k (drop 1 es)) && ltb q.requested number_limit)

tests_kind : (t : Config) (q : Queue) (behind xs es : List ℕ) → Says t q behind xs → length q.verdicts < most_verdicts → (k : ℕ) →
    Tests (kind_check k xs es) (taken_kind t q es k)
unfolding decode accepts
tests_kind t q behind xs es s v = go
  where
    n : ℕ
    n = get_or es 1 0

    c : Change
    c = change_in (drop 1 es)

    -- the first number behind an event's kind
    second : n ≡ get_or (drop 1 es) 0 0
    second = sym (get_or-drop 1 es 0 0)

    requests : Tests (requests_check xs) (ltb q.requested number_limit)
    requests = turned (tests_unless (ltb (get_or xs requested_at 0) number_limit) RequestsSpent) (ap (λ (x : ℕ). ltb x number_limit) s.requested_is)

    number : Tests (number_check xs n) (fresh q c.number)
    number = turned (tests_unless (not (used n (landed_in xs) (waiting_in xs) (rejected_in xs))) (NumberUsed n)) (ap₂ fresh s.decode_is second)

    parts : Tests (parts_check es) (leb (get_or es 2 0) most_parts && proper c)
    parts = tests_both (tests_unless (leb (get_or es 2 0) most_parts) (Parts most_parts)) (tests_found Parts (fault c))

    room : Tests (room_check xs) (roomy q)
    room =
        tests_both (turned (tests_unless (ltb (get_or xs waiting_count 0) most_waiting) WaitingFull) (ap (λ (x : ℕ). ltb x most_waiting) s.waiting_count_is))
        (tests_both
        (turned (tests_unless (ltb (get_or xs landed_count 0 + get_or xs waiting_count 0) most_landed) LandedFull) (ap₂ (λ (x y : ℕ). ltb (x + y) most_landed) s.landed_count_is s.waiting_count_is))
        (turned (tests_unless (ltb (get_or xs rejected_count 0 + get_or xs waiting_count 0) most_rejected) RejectedFull) (ap₂ (λ (x y : ℕ). ltb (x + y) most_rejected) s.rejected_count_is s.waiting_count_is)))

    waits : Tests (waits_check xs n) (numbered (get_or (drop 1 es) 0 0) q.waiting)
    waits = turned (tests_unless (numbered n (waiting_in xs)) (NotWaiting n)) (ap₂ (λ (m : ℕ) (x : Queue). numbered m x.waiting) second s.decode_is)

    runs : Tests (place_check xs n) (ltb (get_or (drop 1 es) 0 0) (length q.running))
    runs = turned (tests_unless (ltb n (get_or xs running_count 0)) (NotRunning n)) (ap₂ ltb second s.running_count_is)

    verdicts : Tests (verdicts_check xs) true
    verdicts = turned (tests_unless (ltb (get_or xs verdicts_count 0) most_verdicts) VerdictsFull) (lt-ltb (get_or xs verdicts_count 0) most_verdicts (omega (arith, v, s.verdicts_count_is)))

    reordered : (a b c d e : Bool) → (a && ((b && c) && (d && e))) ≡ (b && ((a && (c && d)) && e))
    reordered true true true d e = refl
    reordered true true false d e = refl
    reordered true false c d e = refl
    reordered false true c d e = refl
    reordered false false c d e = refl

    go : (k : ℕ) → Tests (kind_check k xs es) (taken_kind t q es k)
    go zero = turned (tests_both number (tests_both parts (tests_both room requests))) (reordered (fresh q c.number) (leb (get_or es 2 0) most_parts) (proper c) (roomy q) (ltb q.requested number_limit))
    go (suc zero) = tests_both waits requests
    go (suc (suc k)) = tests_both runs (tests_both verdicts requests)

-- a reachable queue of a config that opening takes
abbrev benches_taken : ℕ → Bool
benches_taken b = leb 1 b && leb b most_benches

abbrev depth_taken : ℕ → Bool
depth_taken k = leb 1 k && leb k most_depth

record Lent (t : Config) (q : Queue) : Type 0 where
  pub reached : Reached t q
  pub benches : benches_taken t.benches ≡ true
  pub depth : depth_taken t.depth ≡ true

few-benches : (b : ℕ) → benches_taken b ≡ true → b ≤ most_benches
few-benches b e = leb-true b most_benches (both_right (leb 1 b) (leb b most_benches) e)

small_depth : (k : ℕ) → depth_taken k ≡ true → k ≤ most_depth
small_depth k e = leb-true k most_depth (both_right (leb 1 k) (leb k most_depth) e)

lent_fits : (t : Config) (q : Queue) → Lent t q → Fits q
lent_fits t q l = subst Fits (sym l.reached.is) (fits_day t l.reached.events (small_depth t.depth l.depth) (few-benches t.benches l.benches))

abbrev taken_if : Config → Queue → List ℕ → Bool
taken_if t q es = well_formed es && (accepts t q (event_in es) && ltb q.requested number_limit)

-- its numbers refuse an event by nothing else
tests_event : (t : Config) (q : Queue) (behind xs es : List ℕ) → Lent t q → Says t q behind xs → Tests (refusal report_kind xs es) (taken_if t q es)
tests_event t q behind xs es l s =
    turned (tests_both front (tests_kind t q behind xs es s few (get_or es 0 0))) (sym (and_assoc form (parts_counted (get_or es 0 0) es) (accepts t q (event_in es) && ltb q.requested number_limit)))
  where
    form : Bool
    form = leb event_length (length es) && (leb (get_or es 0 0) report_kind && ltb (get_or es 1 0) number_limit)

    es₀ : List Event
    es₀ = l.reached.events

    few : length q.verdicts < most_verdicts
    few = subst (λ (p : Queue). length p.verdicts < most_verdicts) (sym l.reached.is) (few_verdicts t es₀ (small_depth t.depth l.depth))

    landing : length q.landed + length q.waiting ≤ most_landed
    landing = subst (λ (p : Queue). length p.landed + length p.waiting ≤ most_landed) (sym l.reached.is) (room_day t es₀).0

    rejecting : length q.rejected + length q.waiting ≤ most_rejected
    rejecting = subst (λ (p : Queue). length p.rejected + length p.waiting ≤ most_rejected) (sym l.reached.is) (room_day t es₀).1

    front : Tests (front_check report_kind xs es) form
    front =
        tests_both (queue_checked t q behind xs (lent_fits t q l) landing rejecting s)
        (tests_both (turned (tests_unless (benches_taken (get_or xs benches_at 0)) Benches) (ap (λ (u : Config). benches_taken u.benches) s.config_is ∙ l.benches))
        (tests_both (turned (tests_unless (depth_taken (get_or xs depth_at 0)) Depth) (ap (λ (u : Config). depth_taken u.depth) s.config_is ∙ l.depth)) (tests_unless form refused.Event)))

-- the reply is Ok if the checks are passed
done_is : (c : Check) (xs : List ℕ) (n : ℕ) (ys : List ℕ) → is_done (unless_refused c xs (Ok n, ys)).0 ≡ passed c
done_is None xs n ys = refl
done_is (Some r) xs n ys = refl

abbrev Stepped : Config → Queue → List ℕ → List ℕ → Reply × List ℕ → Type 0
Stepped t q behind es r =
    ((is_done r.0 ≡ true) × (accepts t q (event_in es) ≡ true) × (r.1 ≡ encode t (step t q (event_in es)) behind))
    ⊎ ((is_done r.0 ≡ false) × (r.1 ≡ encode t q behind))

-- it is stepped as on records, or nothing changes
stepped_is : (t : Config) (q : Queue) (behind es : List ℕ) → Lent t q → Stepped t q behind es (stepped (encode t q behind) es)
unfolding stepped
stepped_is t q behind es l = go (encode t q behind) refl (says-encode t q behind (lent_fits t q l)) (refusal report_kind (encode t q behind) es) refl
  where
    go : (xs : List ℕ) → xs ≡ encode t q behind → Says t q behind xs → (c : Check) → refusal report_kind xs es ≡ c →
        Stepped t q behind es (unless_refused c xs (stepped_to (config_in xs) (step (config_in xs) (decode xs) (event_in es)) (drop queue_length xs)))
    go xs n s None e = inl (
      refl,
      both_left (accepts t q (event_in es)) (ltb q.requested number_limit) (both_right (well_formed es) (accepts t q (event_in es) && ltb q.requested number_limit) (sym (tests_event t q behind xs es l s).is ∙ ap passed e)),
      ap₂ (λ (u : Config) (x : Queue × List ℕ). encode u (step u x.0 (event_in es)) x.1) s.config_is (ap₂ (λ (p : Queue) (ys : List ℕ). (p, ys)) s.decode_is s.behind_is),
    )
    go xs n s (Some x) e = inr (refl, n)

-- THE DAY: from any reachable queue the two days go on alike
lent-after : (t : Config) (q : Queue) (e : Event) → Lent t q → Lent t (after t q e)
lent-after t q e l = record { reached = reached-after t q e l.reached; benches = l.benches; depth = l.depth }

lent-from : (t : Config) (behind : List ℕ) (ess : List (List ℕ)) (q : Queue) → Lent t q →
    AllAccepted t q (taken_events (encode t q behind) ess) × (lent_day (encode t q behind) ess ≡ encode t (replayed t q (taken_events (encode t q behind) ess)) behind)
unfolding lent_day taken_events replayed
lent-from t behind [] q l = (tt, refl)
lent-from t behind (es ∷ ess) q l = go (stepped_is t q behind es l) (lent-from t behind ess q l) (lent-from t behind ess (after t q e) (lent-after t q e l))
  where
    e : Event
    e = event_in es

    now : Reply × List ℕ
    now = stepped (encode t q behind) es

    Goal : Bool → List ℕ → Type 0
    Goal x ys =
        AllAccepted t q (cond x (e ∷ taken_events ys ess) (taken_events ys ess))
        × (lent_day ys ess ≡ encode t (replayed t q (cond x (e ∷ taken_events ys ess) (taken_events ys ess))) behind)

    Rest : Queue → Type 0
    Rest p = AllAccepted t p (taken_events (encode t p behind) ess) × (lent_day (encode t p behind) ess ≡ encode t (replayed t p (taken_events (encode t p behind) ess)) behind)

    go : Stepped t q behind es now → Rest q → Rest (after t q e) → Goal (is_done now.0) now.1
    go (inl k) same further = subst₂ Goal (sym k.0) (sym (k.2 ∙ ap (λ (p : Queue). encode t p behind) (sym (after_taken t q e k.1)))) ((k.1, further.0), further.1)
    go (inr k) same further = subst₂ Goal (sym k.0) (sym k.1) same

-- opening writes an empty queue of a config that can be lent
opened_is : (slice : List ℕ) (b k : ℕ) → is_done (opened slice b k).0 ≡ true →
    ((opened slice b k).1 ≡ encode (config b k) empty (drop queue_length slice)) × Lent (config b k) empty
opened_is slice b k e = (
  go (then (length_check slice) (then (benches_check b) (depth_check k))) e,
  record {
    reached = reached-empty (config b k);
    benches = both_left (benches_taken b) (depth_taken k) taken;
    depth = both_right (benches_taken b) (depth_taken k) taken;
  },
)
  where
    xs : List ℕ
    xs = encode (config b k) empty (drop queue_length slice)

    go : (c : Check) → is_done (unless_refused c slice (Ok 0, xs)).0 ≡ true → (unless_refused c slice (Ok 0, xs)).1 ≡ xs
    go None h = refl
    go (Some r) h = absurd (true≢false (sym h))

    long : Bool
    long = leb queue_length (length slice)

    all : Tests (then (length_check slice) (then (benches_check b) (depth_check k))) (long && (benches_taken b && depth_taken k))
    all = tests_both (tests_unless long (Malformed (length slice))) (tests_both (tests_unless (benches_taken b) Benches) (tests_unless (depth_taken k) Depth))

    taken : (benches_taken b && depth_taken k) ≡ true
    taken = both_right long (benches_taken b && depth_taken k) (sym all.is ∙ sym (done_is (then (length_check slice) (then (benches_check b) (depth_check k))) slice 0 xs) ∙ e)

-- the numbers of the day, and what they say
record LentAt (slice : List ℕ) (b k : ℕ) (ess : List (List ℕ)) (q : Queue) : Type 0 where
  pub lent : Lent (config b k) q
  pub accepted : AllAccepted (config b k) empty (taken_events (opened slice b k).1 ess)
  pub numbers : lent_day (opened slice b k).1 ess ≡ encode (config b k) q (drop queue_length slice)

lent_at : (slice : List ℕ) (b k : ℕ) (ess : List (List ℕ)) → is_done (opened slice b k).0 ≡ true →
    LentAt slice b k ess (replayed (config b k) empty (taken_events (opened slice b k).1 ess))
lent_at slice b k ess e = record {
  lent = record { reached = record { events = taken_events (opened slice b k).1 ess; is = refl }; benches = start.1.benches; depth = start.1.depth };
  accepted = day.0;
  numbers = day.1;
}
  where
    t : Config
    t = config b k

    behind : List ℕ
    behind = drop queue_length slice

    start : ((opened slice b k).1 ≡ encode t empty behind) × Lent t empty
    start = opened_is slice b k e

    day : AllAccepted t empty (taken_events (opened slice b k).1 ess) × (lent_day (opened slice b k).1 ess ≡ encode t (replayed t empty (taken_events (opened slice b k).1 ess)) behind)
    day = subst (λ (xs : List ℕ). AllAccepted t empty (taken_events xs ess) × (lent_day xs ess ≡ encode t (replayed t empty (taken_events xs ess)) behind)) (sym start.0) (lent-from t behind ess empty start.1)

pub lent_days : LentDays
lent_days slice b k ess e =
    let t = config b k in
    let q = replayed t empty (taken_events (opened slice b k).1 ess) in
    let d = lent_at slice b k ess e in
    (d.accepted, d.numbers, ap decode d.numbers ∙ (decode_encode t q (drop queue_length slice) (lent_fits t q d.lent)).0)

-- so a reachable queue refuses only by the test
pub lent_taken : LentTaken
unfolding stepped
lent_taken slice b k ess e es =
    done_is (refusal report_kind xs es) xs (length further.running) (encode (config_in xs) further (drop queue_length xs))
    ∙ (tests_event t q behind xs es d.lent says).is ∙ ap (λ (p : Queue). taken_if t p es) (sym says.decode_is)
  where
    t : Config
    t = config b k

    behind : List ℕ
    behind = drop queue_length slice

    xs : List ℕ
    xs = lent_day (opened slice b k).1 ess

    q : Queue
    q = replayed t empty (taken_events (opened slice b k).1 ess)

    further : Queue
    further = step (config_in xs) (decode xs) (event_in es)

    d : LentAt slice b k ess q
    d = lent_at slice b k ess e

    says : Says t q behind xs
    says = subst (Says t q behind) (sym d.numbers) (says-encode t q behind (lent_fits t q d.lent))

-- a promise that holds of the day on records holds of what the numbers say
pub lent_serial_equivalence : LentSerialEquivalence
lent_serial_equivalence f slice b k ess e r =
    let g = logged (config b k) (taken_events (opened slice b k).1 ess) in
    subst (AsSerial f g) (sym (lent_days slice b k ess e).2) (serial_equivalence f (config b k) (taken_events (opened slice b k).1 ess) r)

pub lent_every_state_tested : LentEveryStateTested
lent_every_state_tested slice b k ess e =
    let g = logged (config b k) (taken_events (opened slice b k).1 ess) in
    subst (λ (q : Queue). AllTested g.reports q.landed) (sym (lent_days slice b k ess e).2) (every_state_tested (config b k) (taken_events (opened slice b k).1 ess))
