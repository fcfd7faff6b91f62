-- Laws of numbers in which other changes have landed, wait or are rejected, while verdicts, running and what lies behind stay as they stood.
use Rattle.std.proofs.Common.{◌≡◌, ℕ, zero, suc, ◌+◌, ◌*◌, ◌<◌, ◌≤◌, min, eqb, List, [], ◌∷◌, ◌++◌, length, get_or, take, drop, set, sym, refl, ap, ◌∙◌, subst, arith, length-append, length-take}
use borrow.Rule.Slice.PartMut.{put_mid}
use Rattle.std.specs.List.{AllByRecursion}
use Rattle.std.proofs.lemmas.List.{drop-drop, take-append-le}
use Rattle.change.specs.Change.{Change, line}
use Rattle.change.specs.Records.{change_in, change_row, change_width, changes_in}
use Rattle.change.proofs.Rows.{length-rows, rows_same}
use Rattle.change.proofs.ChangeLaws.{length-change_row, line-append}
use Rattle.change.proofs.Tables.{length-table}
use Rattle.run.specs.Records.{run_in, verdict_in, verdicts_in, run_width, verdict_width, runs_in}
use Rattle.run.specs.Limits.{most_following}
use Rattle.run.specs.Layout.{most_landed, most_waiting, most_rejected, most_verdicts, most_running, benches_at, depth_at, landed_count, waiting_count, rejected_count, verdicts_count, running_count, requested_at, landed_at, waiting_at, rejected_at, verdicts_at, running_at, queue_length}
use Rattle.run.specs.Numbers.{Sections, sections, whole, landed_in, waiting_in, rejected_in, with_changes, changes_section, Begins, Settled, Small, RunsFit, decode, config_in}
use Rattle.run.proofs.Sections.{Sized, put_landed, put_waiting, put_rejected, sized_sections, sections-whole, long-whole, cut}
use Rattle.run.proofs.Round.{change_records, read_section}

-- a section of changes is as long as it should be
pub section_long : (most : ℕ) (cs : List Change) → length cs ≤ most → length (changes_section most cs) ≡ change_width * most
section_long most cs few = length-table change_row change_width length-change_row (change_width * most) cs (omega arith)

-- as many changes are read as the counts say
pub count_landed : (xs : List ℕ) → length (landed_in xs) ≡ get_or xs landed_count 0
count_landed xs = length-rows change_in change_width (get_or xs landed_count 0) (drop landed_at xs)

pub count_waiting : (xs : List ℕ) → length (waiting_in xs) ≡ get_or xs waiting_count 0
count_waiting xs = length-rows change_in change_width (get_or xs waiting_count 0) (drop waiting_at xs)

pub count_rejected : (xs : List ℕ) → length (rejected_in xs) ≡ get_or xs rejected_count 0
count_rejected xs = length-rows change_in change_width (get_or xs rejected_count 0) (drop rejected_at xs)

-- a change that is read has no more parts than its record has places for
pub small_changes : (n : ℕ) (xs : List ℕ) → AllByRecursion Small (changes_in n xs)
small_changes zero xs = tt
small_changes (suc n) xs = (omega (arith, length-take (min (get_or xs 1 0) 8) (drop 2 xs)), small_changes n (drop change_width xs))

-- changes that fit their sections, also once each that waits has landed or was rejected
pub record Fitting (L W R : List Change) : Type 0 where
  pub landed : length L + length W ≤ most_landed
  pub waiting : length W ≤ most_waiting
  pub rejected : length R + length W ≤ most_rejected
  pub small_landed : AllByRecursion Small L
  pub small_waiting : AllByRecursion Small W
  pub small_rejected : AllByRecursion Small R

pub fitting_settled : (xs : List ℕ) → Settled xs → Fitting (landed_in xs) (waiting_in xs) (rejected_in xs)
fitting_settled xs h = record {
  landed = omega (arith, h.few_landed, count_landed xs, count_waiting xs);
  waiting = omega (arith, h.few_waiting, count_waiting xs);
  rejected = omega (arith, h.few_rejected, count_rejected xs, count_waiting xs);
  small_landed = small_changes (get_or xs landed_count 0) (drop landed_at xs);
  small_waiting = small_changes (get_or xs waiting_count 0) (drop waiting_at xs);
  small_rejected = small_changes (get_or xs rejected_count 0) (drop rejected_at xs);
}

module _ (xs : List ℕ) (L W R : List Change) (long : queue_length ≤ length xs) (fit : Fitting L W R) where
  pub sized_changes : Sized (with_changes xs L W R)
  sized_changes =
      let z = sized_sections xs long in
      record {
        counters = refl;
        landed = section_long most_landed L (omega (arith, fit.landed));
        waiting = section_long most_waiting W fit.waiting;
        rejected = section_long most_rejected R (omega (arith, fit.rejected));
        verdicts = z.verdicts;
        running = z.running;
      }

  module _ (ys : List ℕ) (is : ys ≡ whole (with_changes xs L W R)) where
    sections_are : sections ys ≡ with_changes xs L W R
    sections_are = ap sections is ∙ sections-whole (with_changes xs L W R) sized_changes

    -- what was written is read
    pub landed_changed : landed_in ys ≡ L
    landed_changed =
        let count : get_or ys landed_count 0 ≡ length L = ap (λ l. get_or l landed_count 0) is in
        ap (λ n. changes_in n (drop landed_at ys)) count
        ∙ read_section change_records (change_width * most_landed) (drop landed_at ys) L (ap (λ (s : Sections). s.landed) sections_are) (omega (arith, fit.landed)) fit.small_landed

    pub waiting_changed : waiting_in ys ≡ W
    waiting_changed =
        let count : get_or ys waiting_count 0 ≡ length W = ap (λ l. get_or l waiting_count 0) is in
        ap (λ n. changes_in n (drop waiting_at ys)) count
        ∙ read_section change_records (change_width * most_waiting) (drop waiting_at ys) W (ap (λ (s : Sections). s.waiting) sections_are) (omega (arith, fit.waiting)) fit.small_waiting

    pub rejected_changed : rejected_in ys ≡ R
    rejected_changed =
        let count : get_or ys rejected_count 0 ≡ length R = ap (λ l. get_or l rejected_count 0) is in
        ap (λ n. changes_in n (drop rejected_at ys)) count
        ∙ read_section change_records (change_width * most_rejected) (drop rejected_at ys) R (ap (λ (s : Sections). s.rejected) sections_are) (omega (arith, fit.rejected)) fit.small_rejected

    -- and other changes written over it leave nothing of it
    pub changes_again : (L₁ W₁ R₁ : List Change) → with_changes ys L₁ W₁ R₁ ≡ with_changes xs L₁ W₁ R₁
    changes_again L₁ W₁ R₁ =
        λ i. record {
          counters = get_or (is i) benches_at 0 ∷ get_or (is i) depth_at 0 ∷ length L₁ ∷ length W₁ ∷ length R₁ ∷ get_or (is i) verdicts_count 0 ∷ get_or (is i) running_count 0 ∷ get_or (is i) requested_at 0 ∷ [];
          landed = changes_section most_landed L₁;
          waiting = changes_section most_waiting W₁;
          rejected = changes_section most_rejected R₁;
          verdicts = (sections_are i).verdicts;
          running = (sections_are i).running;
          behind = (sections_are i).behind;
        }

    -- what stands from the verdicts on stays
    pub running_stays : drop running_at ys ≡ drop running_at xs
    running_stays =
        sym (cut running_at (run_width * most_running) queue_length ys refl) ∙ ((λ i. (sections_are i).running ++ (sections_are i).behind) ∙ cut running_at (run_width * most_running) queue_length xs refl)

    pub verdicts_stay : drop verdicts_at ys ≡ drop verdicts_at xs
    verdicts_stay =
        sym (cut verdicts_at (verdict_width * most_verdicts) running_at ys refl) ∙ ((λ i. (sections_are i).verdicts ++ running_stays i) ∙ cut verdicts_at (verdict_width * most_verdicts) running_at xs refl)

    pub long_changed : queue_length ≤ length ys
    long_changed = subst (λ (l : List ℕ). queue_length ≤ length l) (sym is) (long-whole (with_changes xs L W R) sized_changes)

-- a run that fits what has landed fits, and says the same, when more has landed
pub begins_more : (cs ds : List Change) (xs : List ℕ) → Begins cs xs → Begins (cs ++ ds) xs
begins_more cs ds xs fits = omega (arith, ap length (line-append (get_or xs 0 0) cs ds), length-append (line (get_or xs 0 0) cs) (line (get_or xs 0 0) ds))

run_in_more : (cs ds : List Change) (xs : List ℕ) → Begins cs xs → run_in (cs ++ ds) xs ≡ run_in cs xs
run_in_more cs ds xs fits =
    let p : ℕ = get_or xs 0 0 in
    let t : take (get_or xs 1 0) (line p (cs ++ ds)) ≡ take (get_or xs 1 0) (line p cs) = ap (take (get_or xs 1 0)) (line-append p cs ds) ∙ take-append-le (get_or xs 1 0) (line p cs) (line p ds) fits in
    λ i. record { part = p; changes = t i ++ take (min (get_or xs 2 0) most_following) (drop 3 xs) }

-- runs that fit, in records of this width
abbrev Fit : ℕ → List Change → ℕ → List ℕ → Type 0
Fit w cs n xs = (k : ℕ) → k < n → Begins cs (drop (w * k) xs)

verdicts_more : (cs ds : List Change) (n : ℕ) (xs : List ℕ) → Fit verdict_width cs n xs → verdicts_in (cs ++ ds) n xs ≡ verdicts_in cs n xs
verdicts_more cs ds n xs fit =
    rows_same (verdict_in (cs ++ ds)) (verdict_in cs) verdict_width n xs (λ k lt i. record { run = run_in_more cs ds (drop (verdict_width * k) xs) (fit k lt) i; good = eqb (get_or (drop (verdict_width * k) xs) run_width 0) 1 })

runs_more : (cs ds : List Change) (n : ℕ) (xs : List ℕ) → Fit run_width cs n xs → runs_in (cs ++ ds) n xs ≡ runs_in cs n xs
runs_more cs ds n xs fit = rows_same (run_in (cs ++ ds)) (run_in cs) run_width n xs (λ k lt. run_in_more cs ds (drop (run_width * k) xs) (fit k lt))

pub runs_settled : (xs : List ℕ) → Settled xs → RunsFit xs
runs_settled xs h = record { long = h.long; few_verdicts = h.few_verdicts; few_running = h.few_running; verdicts_fit = h.verdicts_fit; running_fit = h.running_fit }

-- numbers that a step works on, in which more has landed and others wait or are rejected, are such numbers again
pub settled_changed : (xs ys : List ℕ) (ds W R : List Change) → RunsFit xs → Fitting (landed_in xs ++ ds) W R → ys ≡ whole (with_changes xs (landed_in xs ++ ds) W R) → Settled ys
settled_changed xs ys ds W R h fit is =
    let L : List Change = landed_in xs ++ ds in
    let long = h.long in
    let landed = landed_changed xs L W R long fit ys is in
    let waiting = waiting_changed xs L W R long fit ys is in
    let rejected = rejected_changed xs L W R long fit ys is in
    let stays = verdicts_stay xs L W R long fit ys is in
    let count-verdicts : get_or ys verdicts_count 0 ≡ get_or xs verdicts_count 0 = ap (λ l. get_or l verdicts_count 0) is in
    let count-running : get_or ys running_count 0 ≡ get_or xs running_count 0 = ap (λ l. get_or l running_count 0) is in
    let same : (at k : ℕ) → drop (verdicts_at + at + k) ys ≡ drop (verdicts_at + at + k) xs = λ at k.
    ap (λ u. drop u ys) (omega arith) ∙ (sym (drop-drop (at + k) verdicts_at ys) ∙ (ap (drop (at + k)) stays ∙ (drop-drop (at + k) verdicts_at xs ∙ ap (λ u. drop u xs) (omega arith)))) in
    let fits : (at k : ℕ) → Begins (landed_in xs) (drop (verdicts_at + at + k) xs) → Begins (landed_in ys) (drop (verdicts_at + at + k) ys) = λ at k f.
    subst (λ (cs : List Change). Begins cs (drop (verdicts_at + at + k) ys)) (sym landed) (subst (Begins L) (sym (same at k)) (begins_more (landed_in xs) ds (drop (verdicts_at + at + k) xs) f)) in
    record {
      long = long_changed xs L W R long fit ys is;
      is = is ∙ (ap whole (sym (changes_again xs L W R long fit ys is L W R)) ∙ (λ i. whole (with_changes ys (sym landed i) (sym waiting i) (sym rejected i))));
      few_landed = omega (arith, fit.landed, ap length landed, ap length waiting, count_landed ys, count_waiting ys);
      few_waiting = omega (arith, fit.waiting, ap length waiting, count_waiting ys);
      few_rejected = omega (arith, fit.rejected, ap length rejected, ap length waiting, count_rejected ys, count_waiting ys);
      few_verdicts = omega (arith, count-verdicts, h.few_verdicts);
      few_running = omega (arith, count-running, h.few_running);
      verdicts_fit = λ k lt. fits 0 (verdict_width * k) (h.verdicts_fit k (omega (arith, count-verdicts)));
      running_fit = λ k lt. fits (verdict_width * most_verdicts) (run_width * k) (h.running_fit k (omega (arith, count-running)));
    }

-- and their verdicts say the same
pub verdicts_changed : (xs ys : List ℕ) (ds W R : List Change) → RunsFit xs → Fitting (landed_in xs ++ ds) W R → ys ≡ whole (with_changes xs (landed_in xs ++ ds) W R) →
    verdicts_in (landed_in ys) (get_or ys verdicts_count 0) (drop verdicts_at ys) ≡ verdicts_in (landed_in xs) (get_or xs verdicts_count 0) (drop verdicts_at xs)
verdicts_changed xs ys ds W R h fit is =
    let L : List Change = landed_in xs ++ ds in
    let landed = landed_changed xs L W R h.long fit ys is in
    let stays = verdicts_stay xs L W R h.long fit ys is in
    let count : get_or ys verdicts_count 0 ≡ get_or xs verdicts_count 0 = ap (λ l. get_or l verdicts_count 0) is in
    (λ i. verdicts_in (landed i) (count i) (stays i))
    ∙ verdicts_more (landed_in xs) ds (get_or xs verdicts_count 0) (drop verdicts_at xs) (λ k lt. subst (Begins (landed_in xs)) (sym (drop-drop (verdict_width * k) verdicts_at xs)) (h.verdicts_fit k lt))

-- so they say the state with these changes; their config, and what lies behind them, are as they were
pub decode_changed : (xs ys : List ℕ) (ds W R : List Change) → RunsFit xs → Fitting (landed_in xs ++ ds) W R → ys ≡ whole (with_changes xs (landed_in xs ++ ds) W R) →
    decode ys ≡ record { landed = landed_in xs ++ ds; waiting = W; rejected = R; verdicts = (decode xs).verdicts; running = (decode xs).running; requested = (decode xs).requested }
unfolding decode
decode_changed xs ys ds W R h fit is =
    let L : List Change = landed_in xs ++ ds in
    let landed = landed_changed xs L W R h.long fit ys is in
    let waiting = waiting_changed xs L W R h.long fit ys is in
    let rejected = rejected_changed xs L W R h.long fit ys is in
    let verdicts = verdicts_changed xs ys ds W R h fit is in
    let stays = running_stays xs L W R h.long fit ys is in
    let count : get_or ys running_count 0 ≡ get_or xs running_count 0 = ap (λ l. get_or l running_count 0) is in
    let running = (λ i. runs_in (landed i) (count i) (stays i))
    ∙ runs_more (landed_in xs) ds (get_or xs running_count 0) (drop running_at xs) (λ k lt. subst (Begins (landed_in xs)) (sym (drop-drop (run_width * k) running_at xs)) (h.running_fit k lt)) in
    let requested : get_or ys requested_at 0 ≡ get_or xs requested_at 0 = ap (λ l. get_or l requested_at 0) is in
    λ i. record { landed = landed i; waiting = waiting i; rejected = rejected i; verdicts = verdicts i; running = running i; requested = requested i }

pub config_changed : (xs ys : List ℕ) (L W R : List Change) → ys ≡ whole (with_changes xs L W R) → config_in ys ≡ config_in xs
config_changed xs ys L W R is = ap config_in is

pub behind_changed : (xs ys : List ℕ) (L W R : List Change) → queue_length ≤ length xs → Fitting L W R → ys ≡ whole (with_changes xs L W R) → drop queue_length ys ≡ drop queue_length xs
behind_changed xs ys L W R long fit is = ap (λ (s : Sections). s.behind) (ap sections is ∙ sections-whole (with_changes xs L W R) (sized_changes xs L W R long fit))

-- the numbers with these counts and sections of changes
abbrev counted : List ℕ → ℕ → List ℕ → ℕ → List ℕ → ℕ → List ℕ → Sections
counted xs n ls m ws k rs = record {
  counters = get_or xs benches_at 0 ∷ get_or xs depth_at 0 ∷ n ∷ m ∷ k ∷ get_or xs verdicts_count 0 ∷ get_or xs running_count 0 ∷ get_or xs requested_at 0 ∷ [];
  landed = ls;
  waiting = ws;
  rejected = rs;
  verdicts = (sections xs).verdicts;
  running = (sections xs).running;
  behind = (sections xs).behind;
}

-- a section of such numbers is written over, and then its count
module _ (xs zs : List ℕ) (cs : List Change) (n : ℕ) (h : Settled xs) (count : n ≡ length cs) where
  abbrev L : List Change
  L = landed_in xs

  abbrev W : List Change
  W = waiting_in xs

  abbrev R : List Change
  R = rejected_in xs

  abbrev s : Sections
  s = with_changes xs L W R

  z : Sized s
  z = sized_changes xs L W R h.long (fitting_settled xs h)

  as_written : sections xs ≡ s
  as_written = ap sections h.is ∙ sections-whole s z

  pub landed-written : ((sections xs).landed ≡ changes_section most_landed L → zs ≡ changes_section most_landed cs) →
      set (put_mid landed_at (change_width * most_landed) xs zs) landed_count n ≡ whole (with_changes xs cs W R)
  landed-written f =
      let w = f (ap (λ (t : Sections). t.landed) as_written) in
      ap (λ l. set (put_mid landed_at (change_width * most_landed) l zs) landed_count n) h.is
      ∙ (ap (λ l. set l landed_count n) (put_landed s zs z) ∙ (λ i. whole (counted xs (count i) (w i) (length W) (changes_section most_waiting W) (length R) (changes_section most_rejected R))))

  pub waiting-written : ((sections xs).waiting ≡ changes_section most_waiting W → zs ≡ changes_section most_waiting cs) →
      set (put_mid waiting_at (change_width * most_waiting) xs zs) waiting_count n ≡ whole (with_changes xs L cs R)
  waiting-written f =
      let w = f (ap (λ (t : Sections). t.waiting) as_written) in
      ap (λ l. set (put_mid waiting_at (change_width * most_waiting) l zs) waiting_count n) h.is
      ∙ (ap (λ l. set l waiting_count n) (put_waiting s zs z) ∙ (λ i. whole (counted xs (length L) (changes_section most_landed L) (count i) (w i) (length R) (changes_section most_rejected R))))

  pub rejected-written : ((sections xs).rejected ≡ changes_section most_rejected R → zs ≡ changes_section most_rejected cs) →
      set (put_mid rejected_at (change_width * most_rejected) xs zs) rejected_count n ≡ whole (with_changes xs L W cs)
  rejected-written f =
      let w = f (ap (λ (t : Sections). t.rejected) as_written) in
      ap (λ l. set (put_mid rejected_at (change_width * most_rejected) l zs) rejected_count n) h.is
      ∙ (ap (λ l. set l rejected_count n) (put_rejected s zs z) ∙ (λ i. whole (counted xs (length L) (changes_section most_landed L) (length W) (changes_section most_waiting W) (count i) (w i))))
