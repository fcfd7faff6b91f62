-- The two round trips: a state that fits is read back from its numbers, and a tidy queue is written back as it was.
use Rattle.std.proofs.Common.{◌≡◌, ℕ, zero, suc, ◌+◌, ◌*◌, ◌<◌, ◌≤◌, List, [], ◌∷◌, ◌++◌, length, get_or, take, drop, sym, refl, ap, ◌∙◌, mul-zero, mul-suc, arith, length-drop, take-append-drop, length-take, take-add}
use Rattle.std.specs.List.{flat_map, AllByRecursion}
use Rattle.std.proofs.lemmas.List.{length-take-le}
use Rattle.std.proofs.lemmas.List.FromFn.{fill_by_all}
use Rattle.change.specs.Change.{Change}
use Rattle.change.specs.Records.{rows, table, change_in, change_row, change_width}
use Rattle.change.proofs.Rows.{Local, rows_append, rows_take, length-rows}
use Rattle.change.proofs.ChangeLaws.{length-change_row, read_row, change_in_local}
use Rattle.change.proofs.Tables.{joined_push, table_is, length-table, rows-table}
use Rattle.run.specs.Records.{run_in, runs_in, run_row, run_width, verdict_in, verdicts_in, verdict_row, verdict_width, Ahead, AheadVerdict}
use Rattle.run.proofs.Rows.{length-run_row, length-verdict_row, read_run_row, read_verdict_row, run_in-local, verdict_in-local}
use Rattle.run.specs.Layout.{most_landed, most_waiting, most_rejected, most_verdicts, most_running, benches_at, depth_at, landed_count, waiting_count, rejected_count, verdicts_count, running_count, requested_at, landed_at, waiting_at, rejected_at, verdicts_at, running_at, queue_length}
use Rattle.run.specs.State.{Config, Queue}
use Rattle.run.specs.Numbers.{Sections, sections, whole, config_in, landed_in, waiting_in, rejected_in, sections_of, encode, decode, Small, Fits, TidySection, DecodeEncode, EncodeDecode}
use Rattle.run.proofs.Sections.{Sized, sized_sections, whole-sections, sections-whole, get_counter}

-- records of w numbers, read by f and written by row, that say what was written if P holds of it
pub record Records {A : Type 0} (f : List ℕ → A) (row : A → List ℕ) (w : ℕ) (P : A → Type 0) : Type 0 where
  pub local : Local f w
  pub long : (x : A) → length (row x) ≡ w
  pub reads : (x : A) (ys : List ℕ) → P x → f (row x ++ ys) ≡ x

pub change_records : Records change_in change_row change_width Small
change_records = record { local = change_in_local change_width (omega arith); long = length-change_row; reads = read_row }

pub verdict_records : (landed : List Change) → Records (verdict_in landed) (verdict_row landed) verdict_width (AheadVerdict landed)
verdict_records landed = record { local = verdict_in-local landed; long = length-verdict_row landed; reads = read_verdict_row landed }

pub run-records : (landed : List Change) → Records (run_in landed) (run_row landed) run_width (Ahead landed)
run-records landed = record { local = run_in-local landed; long = length-run_row landed; reads = read_run_row landed }

module _ {A : Type 0} {f : List ℕ → A} {row : A → List ℕ} {w : ℕ} {P : A → Type 0} (r : Records f row w P) where
  -- rows are read from their section as from all that stands from it on
  pub rows_section : (n m : ℕ) (xs : List ℕ) → w * n ≤ m → m ≤ length xs → rows f w n (take m xs) ≡ rows f w n xs
  rows_section n m xs few long = rows_take f w r.local n m xs few long

  -- what was written in a section is read back
  pub read_section : (m : ℕ) (xs : List ℕ) (ys : List A) → take m xs ≡ table row m ys → w * length ys ≤ m → AllByRecursion P ys → rows f w (length ys) xs ≡ ys
  read_section m xs ys e few all =
      let l : length (take m xs) ≡ m = ap length e ∙ length-table row w r.long m ys few in
      sym (rows_section (length ys) m xs few (omega (arith, length-take m xs))) ∙ (ap (rows f w (length ys)) e ∙ rows-table f row w P r.long r.reads m ys all)

  -- records that are written as they read are what is written of them
  joined_tidy : (n : ℕ) (xs : List ℕ) → ((i : ℕ) → i < n → take w (drop (w * i) xs) ≡ row (f (drop (w * i) xs))) → flat_map row (rows f w n xs) ≡ take (w * n) xs
  joined_tidy zero xs h = sym (ap (λ u. take u xs) (mul-zero w))
  joined_tidy (suc n) xs h =
      let front = joined_tidy n xs (λ i lt. h i (omega arith)) in
      let last = h n (omega arith) in
      let one : suc n ≡ n + 1 = omega arith in
      ap (λ u. flat_map row (rows f w u xs)) one
      ∙ (ap (flat_map row) (rows_append f w n 1 xs)
      ∙ (joined_push row (rows f w n xs) (f (drop (w * n) xs))
      ∙ ((λ i. front i ++ sym last i) ∙ (sym (take-add (w * n) w xs) ∙ ap (λ u. take u xs) (omega (arith, mul-suc w n))))))

  -- a tidy section is what is written of what it says
  pub table_tidy : (n : ℕ) (xs : List ℕ) → TidySection f row w n xs → table row (length xs) (rows f w n xs) ≡ xs
  table_tidy n xs t =
      table_is row w r.long (length xs) (w * n) (rows f w n xs) (ap (λ u. w * u) (sym (length-rows f w n xs)))
      ∙ ((λ i. joined_tidy n xs t.records i ++ sym t.rest i) ∙ take-append-drop (w * n) xs)

  -- a tidy section in a longer list is written back as it was
  pub write_section : (n m : ℕ) (xs : List ℕ) → TidySection f row w n (take m xs) → w * n ≤ m → m ≤ length xs → table row m (rows f w n xs) ≡ take m xs
  write_section n m xs t few long =
      let l : m ≡ length (take m xs) = sym (length-take-le m xs long) in
      let s = sym (rows_section n m xs few long) in
      (λ i. table row (l i) (s i)) ∙ table_tidy n (take m xs) t

-- a state that fits fills its sections
pub sized_of : (t : Config) (q : Queue) (behind : List ℕ) → Fits q → Sized (sections_of t q behind)
sized_of t q behind h = record {
  counters = refl;
  landed = length-table change_row change_width length-change_row (change_width * most_landed) q.landed (omega (arith, h.landed));
  waiting = length-table change_row change_width length-change_row (change_width * most_waiting) q.waiting (omega (arith, h.waiting));
  rejected = length-table change_row change_width length-change_row (change_width * most_rejected) q.rejected (omega (arith, h.rejected));
  verdicts = length-table (verdict_row q.landed) verdict_width (length-verdict_row q.landed) (verdict_width * most_verdicts) q.verdicts (omega (arith, h.verdicts));
  running = length-table (run_row q.landed) run_width (length-run_row q.landed) (run_width * most_running) q.running (omega (arith, h.running));
}

-- each section of the numbers of a state reads as what was written there
pub decode_encode : DecodeEncode
unfolding decode encode
decode_encode t q behind h =
    let xs : List ℕ = whole (sections_of t q behind) in
    let is : sections xs ≡ sections_of t q behind = sections-whole (sections_of t q behind) (sized_of t q behind h) in
    let landed : landed_in xs ≡ q.landed = read_section change_records (change_width * most_landed) (drop landed_at xs) q.landed (ap (λ (s : Sections). s.landed) is) (omega (arith, h.landed)) h.small_landed in
    let waiting : waiting_in xs ≡ q.waiting = read_section change_records (change_width * most_waiting) (drop waiting_at xs) q.waiting (ap (λ (s : Sections). s.waiting) is) (omega (arith, h.waiting)) h.small_waiting in
    let rejected : rejected_in xs ≡ q.rejected = read_section change_records (change_width * most_rejected) (drop rejected_at xs) q.rejected (ap (λ (s : Sections). s.rejected) is) (omega (arith, h.rejected)) h.small_rejected in
    let verdicts_read = read_section (verdict_records q.landed) (verdict_width * most_verdicts) (drop verdicts_at xs) q.verdicts (ap (λ (s : Sections). s.verdicts) is) (omega (arith, h.verdicts)) h.verdicts_ahead in
    let running_read = read_section (run-records q.landed) (run_width * most_running) (drop running_at xs) q.running (ap (λ (s : Sections). s.running) is) (omega (arith, h.running)) h.running_ahead in
    let verdicts = ap (λ cs. verdicts_in cs (length q.verdicts) (drop verdicts_at xs)) landed ∙ verdicts_read in
    let running = ap (λ cs. runs_in cs (length q.running) (drop running_at xs)) landed ∙ running_read in
    (λ i. record { landed = landed i; waiting = waiting i; rejected = rejected i; verdicts = verdicts i; running = running i; requested = q.requested }, refl, ap (λ (s : Sections). s.behind) is)

-- each section of a tidy queue is written back as it was, and its counts are the lengths of what was read
pub encode_decode : EncodeDecode
unfolding decode encode
encode_decode xs t =
    let cs : List Change = landed_in xs in
    let length_landed = length-rows change_in change_width (get_or xs landed_count 0) (drop landed_at xs) in
    let length-waiting = length-rows change_in change_width (get_or xs waiting_count 0) (drop waiting_at xs) in
    let length_rejected = length-rows change_in change_width (get_or xs rejected_count 0) (drop rejected_at xs) in
    let length_verdicts = length-rows (verdict_in cs) verdict_width (get_or xs verdicts_count 0) (drop verdicts_at xs) in
    let length-running = length-rows (run_in cs) run_width (get_or xs running_count 0) (drop running_at xs) in
    let counters =
    (λ i. get_or xs benches_at 0 ∷ get_or xs depth_at 0 ∷ length_landed i ∷ length-waiting i ∷ length_rejected i ∷ length_verdicts i ∷ length-running i ∷ get_or xs requested_at 0 ∷ [])
    ∙ sym (fill_by_all (λ k. get_or xs k 0) (sections xs).counters landed_at 0 (sized_sections xs t.long).counters (get_counter xs)) in
    let landed = write_section change_records (get_or xs landed_count 0) (change_width * most_landed) (drop landed_at xs) t.landed (omega (arith, t.few_landed)) (omega (arith, t.long, length-drop landed_at xs)) in
    let waiting = write_section change_records (get_or xs waiting_count 0) (change_width * most_waiting) (drop waiting_at xs) t.waiting (omega (arith, t.few_waiting)) (omega (arith, t.long, length-drop waiting_at xs)) in
    let rejected = write_section change_records (get_or xs rejected_count 0) (change_width * most_rejected) (drop rejected_at xs) t.rejected (omega (arith, t.few_rejected)) (omega (arith, t.long, length-drop rejected_at xs)) in
    let verdicts = write_section (verdict_records cs) (get_or xs verdicts_count 0) (verdict_width * most_verdicts) (drop verdicts_at xs) t.verdicts (omega (arith, t.few_verdicts)) (omega (arith, t.long, length-drop verdicts_at xs)) in
    let running = write_section (run-records cs) (get_or xs running_count 0) (run_width * most_running) (drop running_at xs) t.running (omega (arith, t.few_running)) (omega (arith, t.long, length-drop running_at xs)) in
    let is : sections_of (config_in xs) (decode xs) (drop queue_length xs) ≡ sections xs =
    λ i. record { counters = counters i; landed = landed i; waiting = waiting i; rejected = rejected i; verdicts = verdicts i; running = running i; behind = drop queue_length xs } in
    ap whole is ∙ whole-sections xs
