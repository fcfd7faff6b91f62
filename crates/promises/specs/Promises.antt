-- What every day comes to, for every config and every list of events, those that are not taken included. Each statement's proof stands behind the function of its name.
use Rattle.std.specs.Prelude.{◌≡◌, ℕ, suc, ◌+◌, ◌*◌, ◌<◌, ◌≤◌, Bool, true, false, List, [], ◌∷◌, ◌++◌, length, take, slice_index_or}
use Rattle.std.specs.List.{AllByRecursion}
use Rattle.run.specs.declared.known.Known.TheVariants.{Nothing}
use Rattle.change.specs.Change.{most_parts, Change, has, line}
use Rattle.run.specs.Run.{Verdict, heard, run_on, runs_on}
use Rattle.run.specs.Layout.{most_landed, most_waiting, most_rejected, most_verdicts, most_benches, most_depth}
use Rattle.run.specs.State.{Config, Queue, empty}
use Rattle.run.specs.Numbers.{Fits}
use Rattle.serial.specs.Serial.{Bench, serial_landed, serial_rejected}
use Rattle.decide.specs.Decide.{any_bad, shares_any}
use Rattle.plan.specs.Plan.{among, useful_in}
use Rattle.queue.specs.Queue.{Event, report, accepts, after, replayed}
use Rattle.promises.specs.Day.{Log, logged, Truthful, said_good, not_waiting, SameDecisions, held, Different, parts_in, AheadBy, measure, NotSubmit, AllTaken}

-- THE MAIN PROMISE. If every report that is taken is what the bench says, then the decisions are those of serial testing: take the changes that were
-- submitted and not withdrawn, in the order of their arrival, less those that still wait, and test them one at a time. On every part the same changes
-- landed in the same order, and in all the same changes landed and the same were rejected.
abbrev pub AsSerial : Bench → Log → Queue → Type 0
AsSerial bench g q =
    let cs = not_waiting g.arrivals q.waiting in
    SameDecisions q.landed q.rejected (serial_landed bench [] cs) (serial_rejected bench [] cs)

abbrev pub SerialEquivalence : Type 0
SerialEquivalence =
    (bench : Bench) (t : Config) (es : List Event) → Truthful bench (logged t es).reports → AsSerial bench (logged t es) (replayed t empty es)

-- Take any change of the main line and any part that it touches: of the part with exactly those changes that touch it, up to this one, a report that was
-- taken said good. Nothing is assumed of the benches.
abbrev pub AllTested : List Verdict → List Change → Type 0
AllTested reports landed =
    (k p : ℕ) (c : Change) → k < length landed → has (slice_index_or landed k c).parts p ≡ true →
    said_good (record { part = p; changes = line p (take (suc k) landed) }) reports ≡ true

abbrev pub EveryStateTested : Type 0
EveryStateTested = (t : Config) (es : List Event) → AllTested (logged t es).reports (replayed t empty es).landed

-- While a change waits, a run is running.
abbrev pub NeverIdle : Type 0
NeverIdle =
    (t : Config) (es : List Event) → 0 < t.benches → 0 < t.depth →
    let q = replayed t empty es in
    0 < length q.waiting → 0 < length q.running

-- A bench stands idle only if every useful run is running or known.
abbrev pub FullyBooked : Type 0
FullyBooked =
    (t : Config) (es : List Event) →
    let q = replayed t empty es in
    length q.running < t.benches → AllByRecursion (λ r. among r (held q) ≡ true) (useful_in t q)

-- At most as many runs run as there are benches. Each run that is running or known is useful, and none of them is running or known twice, or both.
abbrev pub OnlyUsefulRuns : Type 0
OnlyUsefulRuns =
    (t : Config) (es : List Event) →
    let q = replayed t empty es in
    (length q.running ≤ t.benches) × AllByRecursion (λ r. among r (useful_in t q) ≡ true) (held q) × Different (held q)

-- The count of requested runs is that of the runs the log has. If nothing is rejected or withdrawn, no run is requested twice, at one event or at two, at most
-- one is requested for each part of a change that landed or waits, and exactly one for each once nobody waits.
abbrev pub EachRunOnce : Type 0
EachRunOnce =
    (t : Config) (es : List Event) →
    let q = replayed t empty es in
    (q.requested ≡ length (logged t es).requests)
    × (length q.rejected ≡ 0 → (logged t es).withdrawn ≡ 0 →
    Different (logged t es).requests × (q.requested ≤ parts_in q.landed + parts_in q.waiting) × (q.waiting ≡ [] → q.requested ≡ parts_in q.landed))

-- Every run requested counts for a part of a change that landed, except that each rejection and each withdrawal costs at most the runs of `depth` changes of
-- eight parts, and as many may be under way.
abbrev pub WasteBounded : Type 0
WasteBounded =
    (t : Config) (es : List Event) →
    let q = replayed t empty es in
    q.requested ≤ parts_in q.landed + (length q.rejected + (logged t es).withdrawn + 1) * (most_parts * t.depth)

-- A change that shares no part with one that waits before it waits only for its own runs on top of what has landed: nothing is known of one of them, and
-- none of them is known to be bad.
abbrev pub DecidedWhenKnown : Type 0
DecidedWhenKnown =
    (t : Config) (es : List Event) (before : List Change) (c : Change) (rest : List Change) →
    let q = replayed t empty es in
    q.waiting ≡ before ++ c ∷ rest → shares_any c before ≡ false →
    ((p : ℕ) × (has c.parts p ≡ true) × (heard (run_on q.landed c.number p) q.verdicts ≡ Nothing))
    × (any_bad (runs_on q.landed c.number c.parts) q.verdicts ≡ false)

-- One bench or many, little depth or much: two days with the same arrivals and truthful reports come to the same decisions once nobody waits, in whatever order
-- things happened in each.
abbrev pub ConfigIndependent : Type 0
ConfigIndependent =
    (bench : Bench) (s t : Config) (es fs : List Event) → Truthful bench (logged s es).reports → Truthful bench (logged t fs).reports →
    let q = replayed s empty es in
    let r = replayed t empty fs in
    q.waiting ≡ [] → r.waiting ≡ [] → (logged s es).arrivals ≡ (logged t fs).arrivals →
    SameDecisions q.landed q.rejected r.landed r.rejected

-- What is decided stays decided: whatever queue a day begins with, the changes that landed keep their places, and so do the rejected.
abbrev pub DecisionsFinal : Type 0
DecisionsFinal =
    (t : Config) (q : Queue) (es : List Event) →
    let r = replayed t q es in
    (take (length q.landed) r.landed ≡ q.landed) × (take (length q.rejected) r.rejected ≡ q.rejected)

-- What is held stays within its sections. Verdicts and running runs together are at most eight for each change looked at, each is its part's whole landed line
-- and at most `depth` more, and landed, waiting and rejected keep to their sections. With a depth of at most 16 fewer than 128 verdicts are held, so that one
-- more always has room; with at most 16 benches too, the whole queue can be written as numbers.
abbrev pub VerdictsFit : Type 0
VerdictsFit =
    (t : Config) (es : List Event) →
    let q = replayed t empty es in
    (length q.verdicts + length q.running ≤ most_parts * t.depth)
    × AllByRecursion (AheadBy q.landed t.depth) (held q)
    × (length q.landed ≤ most_landed) × (length q.waiting ≤ most_waiting) × (length q.rejected ≤ most_rejected)
    × (t.depth ≤ most_depth → (length q.verdicts < most_verdicts) × (t.benches ≤ most_benches → Fits q))

-- Every report that is taken, and every withdrawal, makes a measure fall. So unless a change is submitted no more events can be taken than the measure says, and
-- once so many were taken nobody waits; and while a change waits, a report can be taken.
abbrev pub Progress : Type 0
Progress =
    (t : Config) (es : List Event) →
    let q = replayed t empty es in
    ((e : Event) → NotSubmit e → accepts t q e ≡ true → measure t (after t q e) < measure t q)
    × ((fs : List Event) → AllTaken t q fs → (length fs ≤ measure t q) × (measure t q ≤ length fs → (replayed t q fs).waiting ≡ []))
    × (0 < t.benches → 0 < t.depth → 0 < length q.waiting → (good : Bool) → accepts t q (report 0 good) ≡ true)
