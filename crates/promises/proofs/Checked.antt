-- The numbers of a queue that fits pass every check of a queue. Assumes nothing.
use Rattle.std.proofs.Common.{◌≡◌, ℕ, ◌+◌, ◌-◌, ◌*◌, ◌<◌, ◌≤◌, Bool, true, false, cond, not, ◌&&◌, leb, List, [], ◌∷◌, ◌++◌, length, get_or, take, drop, replicate, is_some, Some, None, Option, sym, refl, ap, ◌∙◌, ap₂, append_assoc, arith, length-append}
use Rattle.std.proofs.lemmas.Bool.{le-leb}
use Rattle.std.specs.List.{AllByRecursion, flat_map}
use Rattle.std.specs.Option.{option_map}
use Rattle.std.proofs.lemmas.List.{drop_at, take-append-drop, drop-drop, get_or-drop, get_or_append_left}
use Rattle.queue.specs.declared.reply.Refusal.{Refusal}
use Rattle.queue.specs.declared.reply.Refusal.TheVariants.{Malformed}
use Rattle.run.proofs.Round.{decode_encode, sized_of}
use Rattle.run.proofs.Sections.{long-whole, sections-whole}
use Rattle.change.proofs.ChangeLaws.{length-change_row}
use Rattle.run.proofs.Rows.{length-run_row, length-verdict_row}
use Rattle.change.specs.Change.{most_parts, Change, line}
use Rattle.change.specs.Records.{change_width, change_row, table}
use Rattle.run.specs.Limits.{most_following}
use Rattle.run.specs.Run.{Run, Verdict}
use Rattle.run.specs.Records.{run_width, verdict_width, run_row, verdict_row, Ahead, AheadVerdict}
use Rattle.run.specs.Layout.{most_landed, most_waiting, most_rejected, most_verdicts, most_running, landed_count, waiting_count, rejected_count, verdicts_count, running_count, requested_at, landed_at, waiting_at, rejected_at, verdicts_at, running_at, queue_length}
use Rattle.run.specs.State.{Config, Queue}
use Rattle.run.specs.Numbers.{Sections, sections, config_in, landed_in, decode, changes_section, sections_of, encode, Small, Fits}
use Rattle.queue.specs.Refusals.{Check, then, unless, count_check, counts_check, over, changes_check, following_check, records_check, sums_check, overlong, runs_check, queue_check}

-- CHECKS. One that does not refuse is passed.
abbrev pub passed : Check → Bool
passed None = true
passed (Some r) = false

-- the check is passed exactly if the test holds
pub record Tests (c : Check) (b : Bool) : Type 0 where
  pub is : passed c ≡ b

pub turned : {c : Check} {a b : Bool} → Tests c a → a ≡ b → Tests c b
turned k e = record { is = k.is ∙ e }

pub tests_both : {a b : Bool} {c d : Check} → Tests c a → Tests d b → Tests (then c d) (a && b)
tests_both {a} {b} {c} {d} k m = record { is = go c ∙ ap₂ ◌&&◌ k.is m.is }
  where
    go : (c : Check) → passed (then c d) ≡ (passed c && passed d)
    go None = refl
    go (Some r) = refl

pub tests_unless : (b : Bool) (r : Refusal) → Tests (unless b r) b
tests_unless true r = record { is = refl }
tests_unless false r = record { is = refl }

pub tests_found : (f : ℕ → Refusal) (o : Option ℕ) → Tests (option_map f o) (not (is_some o))
tests_found f None = record { is = refl }
tests_found f (Some x) = record { is = refl }

-- RECORDS one after another, from an index on
abbrev From : {A : Type 0} → (A → List ℕ) → List A → ℕ → List ℕ → Type 0
From row cs at xs = (rest : List ℕ) × (drop at xs ≡ flat_map row cs ++ rest)

-- a section that was written holds its records from its start on
from_section : {A : Type 0} (row : A → List ℕ) (m : ℕ) (cs : List A) (at : ℕ) (xs : List ℕ) → take m (drop at xs) ≡ table row m cs → From row cs at xs
unfolding table
from_section row m cs at xs e =
    let zeros = replicate (m - length (flat_map row cs)) 0 in
    (zeros ++ drop m (drop at xs), sym (take-append-drop m (drop at xs)) ∙ ap (λ (ys : List ℕ). ys ++ drop m (drop at xs)) e ∙ append_assoc (flat_map row cs) zeros (drop m (drop at xs)))

module _ {A : Type 0} (row : A → List ℕ) (w : ℕ) (long : (x : A) → length (row x) ≡ w) (c : A) (cs : List A) (at : ℕ) (xs : List ℕ) (h : From row (c ∷ cs) at xs) where
  -- the first record, and those behind it
  here : drop at xs ≡ row c ++ (flat_map row cs ++ h.0)
  here = h.1 ∙ append_assoc (row c) (flat_map row cs) h.0

  others : From row cs (at + w) xs
  others = (h.0, sym (drop-drop w at xs) ∙ ap (drop w) here ∙ drop_at (row c) (flat_map row cs ++ h.0) w (long c))

  -- a number of the first record
  field_at : (i : ℕ) → i < w → get_or xs (at + i) 0 ≡ get_or (row c) i 0
  field_at i l = sym (get_or-drop at xs i 0) ∙ ap (λ (ys : List ℕ). get_or ys i 0) here ∙ get_or_append_left (row c) (flat_map row cs ++ h.0) 0 i (omega (arith, l, long c))

-- no count is too large
over_none : {A : Type 0} (P : A → Type 0) (row : A → List ℕ) (w field most : ℕ) → ((x : A) → length (row x) ≡ w) → field < w →
    ((x : A) → P x → get_or (row x) field 0 ≤ most) →
    (cs : List A) → AllByRecursion P cs → (at : ℕ) (xs : List ℕ) → From row cs at xs → over w field most (length cs) at xs ≡ None
over_none P row w field most long l k [] a at xs h = refl
over_none P row w field most long l k (c ∷ cs) a at xs h =
    ap (λ (b : Bool). cond b (over w field most (length cs) (at + w) xs) (Some (at + field))) (le-leb (get_or xs (at + field) 0) most (omega (arith, k c a.0, field_at row w long c cs at xs h field l)))
    ∙ over_none P row w field most long l k cs a.1 (at + w) xs (others row w long c cs at xs h)

-- no run begins with more than has landed
overlong_none : {A : Type 0} (landed : List Change) (row : A → List ℕ) (w : ℕ) → ((x : A) → length (row x) ≡ w) → 1 < w →
    ((x : A) → get_or (row x) 1 0 ≡ length (line (get_or (row x) 0 0) landed)) →
    (cs : List A) (at : ℕ) (xs : List ℕ) → From row cs at xs → overlong landed w (length cs) at xs ≡ None
overlong_none landed row w long l k [] at xs h = refl
overlong_none landed row w long l k (c ∷ cs) at xs h =
    ap (λ (b : Bool). cond b (overlong landed w (length cs) (at + w) xs) (Some at)) (le-leb (get_or xs (at + 1) 0) (length (line (get_or xs at 0) landed)) begins)
    ∙ overlong_none landed row w long l k cs (at + w) xs (others row w long c cs at xs h)
  where
    part : get_or xs at 0 ≡ get_or (row c) 0 0
    part = ap (λ (i : ℕ). get_or xs i 0) (omega arith) ∙ field_at row w long c cs at xs h 0 (omega (arith, l))

    begins : get_or xs (at + 1) 0 ≤ length (line (get_or xs at 0) landed)
    begins = omega (arith, field_at row w long c cs at xs h 1 l, k c, ap (λ (p : ℕ). length (line p landed)) part)

-- the rows of runs: what follows is short, and they begin with all that landed
run_follows : (landed : List Change) (r : Run) → Ahead landed r → get_or (run_row landed r) 2 0 ≤ most_following
unfolding run_row
run_follows landed r h = omega (arith, h.few, ap length h.is, length-append (line r.part landed) h.following)

run-begins-all : (landed : List Change) (r : Run) → get_or (run_row landed r) 1 0 ≡ length (line (get_or (run_row landed r) 0 0) landed)
unfolding run_row
run-begins-all landed r = refl

verdict_follows : (landed : List Change) (v : Verdict) → AheadVerdict landed v → get_or (verdict_row landed v) 2 0 ≤ most_following
unfolding verdict_row
verdict_follows landed v h = omega (arith, run_follows landed v.run h, get_or_append_left (run_row landed v.run) (cond v.good 1 0 ∷ []) 0 2 (omega (arith, length-run_row landed v.run)))

verdict_begins-all : (landed : List Change) (v : Verdict) → get_or (verdict_row landed v) 1 0 ≡ length (line (get_or (verdict_row landed v) 0 0) landed)
unfolding verdict_row run_row
verdict_begins-all landed v = refl

-- THE QUEUE as numbers: each section holds its records, and the counts are theirs
pub record Says (t : Config) (q : Queue) (behind xs : List ℕ) : Type 0 where
  pub decode_is : decode xs ≡ q
  pub config_is : config_in xs ≡ t
  pub behind_is : drop queue_length xs ≡ behind
  pub sections_are : sections xs ≡ sections_of t q behind
  pub long : queue_length ≤ length xs
  pub landed_count_is : get_or xs landed_count 0 ≡ length q.landed
  pub waiting_count_is : get_or xs waiting_count 0 ≡ length q.waiting
  pub rejected_count_is : get_or xs rejected_count 0 ≡ length q.rejected
  pub verdicts_count_is : get_or xs verdicts_count 0 ≡ length q.verdicts
  pub running_count_is : get_or xs running_count 0 ≡ length q.running
  pub requested_is : get_or xs requested_at 0 ≡ q.requested

-- the numbers of a queue that fits say it
pub says-encode : (t : Config) (q : Queue) (behind : List ℕ) → Fits q → Says t q behind (encode t q behind)
unfolding encode
says-encode t q behind f =
    let r = decode_encode t q behind f in
    record {
      decode_is = r.0;
      config_is = r.1;
      behind_is = r.2;
      sections_are = sections-whole (sections_of t q behind) (sized_of t q behind f);
      long = long-whole (sections_of t q behind) (sized_of t q behind f);
      landed_count_is = refl;
      waiting_count_is = refl;
      rejected_count_is = refl;
      verdicts_count_is = refl;
      running_count_is = refl;
      requested_is = refl;
    }

-- no change has too many parts
changes_checked : (cs : List Change) (count at most : ℕ) (xs : List ℕ) → AllByRecursion Small cs → get_or xs count 0 ≡ length cs →
    take (change_width * most) (drop at xs) ≡ changes_section most cs → Tests (changes_check count at xs) true
changes_checked cs count at most xs a n e = turned (tests_found Malformed (over change_width 1 most_parts (get_or xs count 0) at xs)) (ap (λ (o : Option ℕ). not (is_some o)) (ap (λ (k : ℕ). over change_width 1 most_parts k at xs) n
    ∙ over_none Small change_row change_width 1 most_parts length-change_row (omega arith) (λ c s. s) cs a at xs (from_section change_row (change_width * most) cs at xs e)))

-- so none of the checks of a queue refuses
pub queue_checked : (t : Config) (q : Queue) (behind xs : List ℕ) → Fits q → length q.landed + length q.waiting ≤ most_landed →
    length q.rejected + length q.waiting ≤ most_rejected → Says t q behind xs → Tests (queue_check xs) true
unfolding decode
queue_checked t q behind xs f lw bw s = tests_both (turned (tests_unless (leb queue_length (length xs)) (Malformed (length xs))) (le-leb queue_length (length xs) s.long)) (tests_both counts (tests_both records (tests_both sums runs)))
  where
    L : List Change
    L = q.landed

    count : (at most n : ℕ) → get_or xs at 0 ≡ n → n ≤ most → Tests (count_check at most xs) true
    count at most n e l = turned (tests_unless (leb (get_or xs at 0) most) (Malformed at)) (le-leb (get_or xs at 0) most (omega (arith, e, l)))

    counts : Tests (counts_check xs) true
    counts =
        tests_both (count landed_count most_landed (length q.landed) s.landed_count_is f.landed)
        (tests_both (count waiting_count most_waiting (length q.waiting) s.waiting_count_is f.waiting)
        (tests_both (count rejected_count most_rejected (length q.rejected) s.rejected_count_is f.rejected)
        (tests_both (count verdicts_count most_verdicts (length q.verdicts) s.verdicts_count_is f.verdicts)
        (count running_count most_running (length q.running) s.running_count_is f.running))))

    -- the records of verdicts and of running runs
    verdicts-from : From (verdict_row L) q.verdicts verdicts_at xs
    verdicts-from = from_section (verdict_row L) (verdict_width * most_verdicts) q.verdicts verdicts_at xs (ap (λ (z : Sections). z.verdicts) s.sections_are)

    running-from : From (run_row L) q.running running_at xs
    running-from = from_section (run_row L) (run_width * most_running) q.running running_at xs (ap (λ (z : Sections). z.running) s.sections_are)

    verdicts_follow : Tests (following_check verdict_width verdicts_count verdicts_at xs) true
    verdicts_follow = turned (tests_found Malformed (over verdict_width 2 most_following (get_or xs verdicts_count 0) verdicts_at xs)) (ap (λ (o : Option ℕ). not (is_some o)) (ap (λ (k : ℕ). over verdict_width 2 most_following k verdicts_at xs) s.verdicts_count_is
        ∙ over_none (AheadVerdict L) (verdict_row L) verdict_width 2 most_following (length-verdict_row L) (omega arith) (verdict_follows L)
        q.verdicts f.verdicts_ahead verdicts_at xs verdicts-from))

    running_follow : Tests (following_check run_width running_count running_at xs) true
    running_follow = turned (tests_found Malformed (over run_width 2 most_following (get_or xs running_count 0) running_at xs)) (ap (λ (o : Option ℕ). not (is_some o)) (ap (λ (k : ℕ). over run_width 2 most_following k running_at xs) s.running_count_is
        ∙ over_none (Ahead L) (run_row L) run_width 2 most_following (length-run_row L) (omega arith) (run_follows L) q.running f.running_ahead running_at xs running-from))

    records : Tests (records_check xs) true
    records =
        tests_both (changes_checked q.landed landed_count landed_at most_landed xs f.small_landed s.landed_count_is (ap (λ (z : Sections). z.landed) s.sections_are))
        (tests_both (changes_checked q.waiting waiting_count waiting_at most_waiting xs f.small_waiting s.waiting_count_is (ap (λ (z : Sections). z.waiting) s.sections_are))
        (tests_both (changes_checked q.rejected rejected_count rejected_at most_rejected xs f.small_rejected s.rejected_count_is (ap (λ (z : Sections). z.rejected) s.sections_are))
        (tests_both verdicts_follow running_follow)))

    sums : Tests (sums_check xs) true
    sums =
        let landing = get_or xs landed_count 0 + get_or xs waiting_count 0 in
        let rejecting = get_or xs rejected_count 0 + get_or xs waiting_count 0 in
        tests_both (turned (tests_unless (leb landing most_landed) (Malformed landed_count)) (le-leb landing most_landed (omega (arith, lw, s.landed_count_is, s.waiting_count_is))))
        (turned (tests_unless (leb rejecting most_rejected) (Malformed rejected_count)) (le-leb rejecting most_rejected (omega (arith, bw, s.rejected_count_is, s.waiting_count_is))))

    landed_is : landed_in xs ≡ L
    landed_is = ap (λ (p : Queue). p.landed) s.decode_is

    runs : Tests (runs_check xs) true
    runs =
        tests_both (turned (tests_found Malformed (overlong (landed_in xs) verdict_width (get_or xs verdicts_count 0) verdicts_at xs)) (ap (λ (o : Option ℕ). not (is_some o)) (ap₂ (λ (cs : List Change) (k : ℕ). overlong cs verdict_width k verdicts_at xs) landed_is s.verdicts_count_is
        ∙ overlong_none L (verdict_row L) verdict_width (length-verdict_row L) (omega arith) (verdict_begins-all L) q.verdicts verdicts_at xs verdicts-from)))
        (turned (tests_found Malformed (overlong (landed_in xs) run_width (get_or xs running_count 0) running_at xs)) (ap (λ (o : Option ℕ). not (is_some o)) (ap₂ (λ (cs : List Change) (k : ℕ). overlong cs run_width k running_at xs) landed_is s.running_count_is
        ∙ overlong_none L (run_row L) run_width (length-run_row L) (omega arith) (run-begins-all L) q.running running_at xs running-from)))
