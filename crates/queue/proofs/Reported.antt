-- Laws of recording a report: a verdict joins those held, and its run leaves the running.
use Rattle.std.proofs.Common.{◌≡◌, ℕ, ◌+◌, ◌-◌, ◌*◌, ◌<◌, ◌≤◌, min, Bool, true, false, cond, eqb, List, [], ◌∷◌, ◌++◌, length, get_or, take, drop, set, sym, refl, ap, ◌∙◌, subst, arith, length-drop}
use borrow.Rule.Slice.PartMut.{put_mid}
use Rattle.std.specs.List.{AllByRecursion}
use Rattle.std.proofs.lemmas.List.{drop-drop, get_or_append_left, get_or_at, get_or-take, take-append-le, length-take-le}
use Rattle.std.proofs.ByRecursion.{All-append, All-push, All-take, All-drop, All-get_or, All-from_get_or}
use Rattle.change.specs.Change.{Change, line, without}
use Rattle.change.specs.Records.{change_width, changes_in, fixed, rows, written, row_out}
use Rattle.change.proofs.Rows.{Local, length-fixed, take-fixed, rows_take, length-rows, rows_out, rows_written, length-written, length-row_out}
use Rattle.change.proofs.Tables.{get_d_rows}
use Rattle.run.specs.declared.run.Run as declared
use Rattle.run.specs.Limits.{most_following}
use Rattle.run.specs.Records.{run_in, run_of, row_of, runs_in, run_width, verdict_in, verdict_row_of, verdicts_in, verdict_width}
use Rattle.run.specs.Layout.{most_landed, most_waiting, most_rejected, most_verdicts, most_running, benches_at, depth_at, landed_count, waiting_count, rejected_count, verdicts_count, running_count, requested_at, landed_at, waiting_at, rejected_at, verdicts_at, running_at, queue_length}
use Rattle.run.specs.Numbers.{Sections, sections, whole, landed_in, waiting_in, rejected_in, changes_section, with_changes, config_in, decode, Begins, Settled}
use Rattle.run.proofs.Rows.{length-verdict_row_of, run_in_row, run_in-local, verdict_in-local}
use Rattle.run.proofs.Sections.{Sized, verdicts_as, put_verdicts, put_running, sections-whole, long-whole}
use Rattle.run.proofs.Round.{change_records, read_section}
use Rattle.run.proofs.Changed.{count_landed, count_waiting, count_rejected, fitting_settled, sized_changes}
use Rattle.decide.proofs.Moves.{without_is}
use Rattle.queue.specs.Queue.{answered, no_run}
use Rattle.queue.specs.Stages.{Says}

-- what the record of a verdict on a run by value says
read_verdict_of : (landed : List Change) (r : declared.Run) (good : Bool) → verdict_in landed (verdict_row_of r good) ≡ record { run = run_of landed r; good = good }
read_verdict_of landed r good =
    let F : List ℕ = take r.follows r.numbers in
    let l : length F ≡ r.follows = length-take-le r.follows r.numbers (omega arith) in
    let m : min r.follows most_following ≡ length F = omega (arith, r.few) in
    let n : length (row_of r) ≡ run_width = omega (arith, length-fixed most_following F) in
    let t : take (min r.follows most_following) (fixed most_following F ++ cond good 1 0 ∷ []) ≡ F =
    ap (λ u. take u (fixed most_following F ++ cond good 1 0 ∷ [])) m
    ∙ (take-append-le (length F) (fixed most_following F) (cond good 1 0 ∷ []) (omega (arith, length-fixed most_following F, r.few)) ∙ take-fixed most_following F (omega (arith, r.few))) in
    let g : eqb (get_or (verdict_row_of r good) run_width 0) 1 ≡ good = ap (λ u. eqb u 1) (get_or_at (row_of r) (cond good 1 0) [] 0 run_width n) ∙ back good in
    λ i. record { run = record { part = r.part; changes = take r.begins (line r.part landed) ++ t i }; good = g i }
  where
    back : (b : Bool) → eqb (cond b 1 0) 1 ≡ b
    back true = refl
    back false = refl

-- what of a record says whether its run fits: its part, and how many landed changes it begins with
pub record Head : Type 0 where
  pub part : ℕ
  pub begins : ℕ

abbrev head_in : List ℕ → Head
head_in xs = record { part = get_or xs 0 0; begins = get_or xs 1 0 }

abbrev HeadFits : List Change → Head → Type 0
HeadFits landed h = h.begins ≤ length (line h.part landed)

head_local : (w : ℕ) → 2 ≤ w → Local head_in w
head_local w wide xs ys le =
    let a : get_or (xs ++ ys) 0 0 ≡ get_or xs 0 0 = get_or_append_left xs ys 0 0 (omega arith) in
    let b : get_or (xs ++ ys) 1 0 ≡ get_or xs 1 0 = get_or_append_left xs ys 0 1 (omega arith) in
    λ i. record { part = a i; begins = b i }

-- that runs fit, place by place and as a list
heads_fit : (landed : List Change) (w n at : ℕ) (xs : List ℕ) → ((k : ℕ) → k < n → Begins landed (drop (at + w * k) xs)) → AllByRecursion (HeadFits landed) (rows head_in w n (drop at xs))
heads_fit landed w n at xs fit =
    All-from_get_or (HeadFits landed) (rows head_in w n (drop at xs)) (head_in [])
    (λ k lt.
    let less : k < n = omega (arith, length-rows head_in w n (drop at xs)) in
    subst (HeadFits landed) (sym (get_d_rows head_in w n k (drop at xs) (head_in []) less ∙ ap head_in (drop-drop (w * k) at xs))) (fit k less))

fit_heads : (landed : List Change) (w n at : ℕ) (xs : List ℕ) → AllByRecursion (HeadFits landed) (rows head_in w n (drop at xs)) → (k : ℕ) → k < n → Begins landed (drop (at + w * k) xs)
fit_heads landed w n at xs all k lt =
    subst (HeadFits landed) (get_d_rows head_in w n k (drop at xs) (head_in []) lt ∙ ap head_in (drop-drop (w * k) at xs))
    (All-get_or (HeadFits landed) (rows head_in w n (drop at xs)) k (head_in []) (omega (arith, length-rows head_in w n (drop at xs))) all)

-- of numbers that a step works on, the run at i leaves the running and the verdict on it joins those held
module _
    (ys vs rs : List ℕ) (r : declared.Run) (good : Bool) (n m i : ℕ) (h : Settled ys)
    (n-is : n ≡ get_or ys verdicts_count 0) (m-is : m ≡ get_or ys running_count 0) (few : n < most_verdicts) (there : i < m)
    (joins : vs ≡ written (verdict_width * n) (verdict_row_of r good) (sections ys).verdicts)
    (leaves : rs ≡ row_out run_width m i (sections (put_mid verdicts_at (verdict_width * most_verdicts) ys vs)).running)
    (reads : (landed : List Change) → run_of landed r ≡ run_in landed (take run_width (drop (running_at + run_width * i) ys)))
    (part_is : r.part ≡ get_or (take run_width (drop (running_at + run_width * i) ys)) 0 0)
    (begins-is : r.begins ≡ get_or (take run_width (drop (running_at + run_width * i) ys)) 1 0)
  where
    abbrev L : List Change
    L = landed_in ys

    abbrev W : List Change
    W = waiting_in ys

    abbrev R : List Change
    R = rejected_in ys

    abbrev s : Sections
    s = with_changes ys L W R

    z : Sized s
    z = sized_changes ys L W R h.long (fitting_settled ys h)

    as_written : sections ys ≡ s
    as_written = ap sections h.is ∙ sections-whole s z

    -- the numbers afterwards
    abbrev zs : List ℕ
    zs = set (set (put_mid running_at (run_width * most_running) (put_mid verdicts_at (verdict_width * most_verdicts) ys vs) rs) verdicts_count (n + 1)) running_count (m - 1)

    abbrev after : Sections
    after = record {
      counters = get_or ys benches_at 0 ∷ get_or ys depth_at 0 ∷ length L ∷ length W ∷ length R ∷ (n + 1) ∷ (m - 1) ∷ get_or ys requested_at 0 ∷ [];
      landed = s.landed;
      waiting = s.waiting;
      rejected = s.rejected;
      verdicts = vs;
      running = rs;
      behind = s.behind;
    }

    length-vs : length vs ≡ verdict_width * most_verdicts
    length-vs =
        ap length joins
        ∙ (length-written (verdict_width * n) (verdict_row_of r good) (sections ys).verdicts (omega (arith, length-verdict_row_of r good, ap (λ (t : Sections). length t.verdicts) as_written, z.verdicts))
        ∙ (ap (λ (t : Sections). length t.verdicts) as_written ∙ z.verdicts))

    sized_verdicts : Sized (verdicts_as vs s)
    sized_verdicts = record { counters = z.counters; landed = z.landed; waiting = z.waiting; rejected = z.rejected; verdicts = length-vs; running = z.running }

    first : put_mid verdicts_at (verdict_width * most_verdicts) ys vs ≡ whole (verdicts_as vs s)
    first = ap (λ l. put_mid verdicts_at (verdict_width * most_verdicts) l vs) h.is ∙ put_verdicts s vs z

    -- running stood as it does where the verdict joined
    left : rs ≡ row_out run_width m i (sections ys).running
    left =
        leaves
        ∙ ap (row_out run_width m i)
        (ap (λ l. (sections l).running) first ∙ (ap (λ (t : Sections). t.running) (sections-whole (verdicts_as vs s) sized_verdicts) ∙ ap (λ (t : Sections). t.running) (sym as_written)))

    length-running : length (sections ys).running ≡ run_width * most_running
    length-running = ap (λ (t : Sections). length t.running) as_written ∙ z.running

    length_rs : length rs ≡ run_width * most_running
    length_rs = ap length left ∙ (length-row_out run_width m i (sections ys).running there (omega (arith, length-running, m-is, h.few_running)) ∙ length-running)

    sized_after : Sized after
    sized_after = record { counters = refl; landed = z.landed; waiting = z.waiting; rejected = z.rejected; verdicts = length-vs; running = length_rs }

    zs_is : zs ≡ whole after
    zs_is =
        ap (λ l. set (set (put_mid running_at (run_width * most_running) l rs) verdicts_count (n + 1)) running_count (m - 1)) first
        ∙ ap (λ l. set (set l verdicts_count (n + 1)) running_count (m - 1)) (put_running (verdicts_as vs s) rs sized_verdicts)

    sections_are : sections zs ≡ after
    sections_are = ap sections zs_is ∙ sections-whole after sized_after

    long-zs : queue_length ≤ length zs
    long-zs = subst (λ (l : List ℕ). queue_length ≤ length l) (sym zs_is) (long-whole after sized_after)

    landed_is : landed_in zs ≡ L
    landed_is =
        ap (λ u. changes_in u (drop landed_at zs)) (ap (λ l. get_or l landed_count 0) zs_is)
        ∙ read_section change_records (change_width * most_landed) (drop landed_at zs) L (ap (λ (t : Sections). t.landed) sections_are) (omega (arith, (fitting_settled ys h).landed)) (fitting_settled ys h).small_landed

    waiting_is : waiting_in zs ≡ W
    waiting_is =
        ap (λ u. changes_in u (drop waiting_at zs)) (ap (λ l. get_or l waiting_count 0) zs_is)
        ∙ read_section change_records (change_width * most_waiting) (drop waiting_at zs) W (ap (λ (t : Sections). t.waiting) sections_are) (omega (arith, (fitting_settled ys h).waiting)) (fitting_settled ys h).small_waiting

    rejected_is : rejected_in zs ≡ R
    rejected_is =
        ap (λ u. changes_in u (drop rejected_at zs)) (ap (λ l. get_or l rejected_count 0) zs_is)
        ∙ read_section change_records (change_width * most_rejected) (drop rejected_at zs) R (ap (λ (t : Sections). t.rejected) sections_are) (omega (arith, (fitting_settled ys h).rejected)) (fitting_settled ys h).small_rejected

    count-verdicts : get_or zs verdicts_count 0 ≡ n + 1
    count-verdicts = ap (λ l. get_or l verdicts_count 0) zs_is

    count-running : get_or zs running_count 0 ≡ m - 1
    count-running = ap (λ l. get_or l running_count 0) zs_is

    -- whatever is read of each record, one more verdict is read and one run fewer
    verdict_rows : {A : Type 0} (f : List ℕ → A) → Local f verdict_width → rows f verdict_width (n + 1) (drop verdicts_at zs) ≡ rows f verdict_width n (drop verdicts_at ys) ++ f (verdict_row_of r good) ∷ []
    verdict_rows f loc =
        let M : ℕ = verdict_width * most_verdicts in
        let long : length (sections ys).verdicts ≡ M = ap (λ (t : Sections). length t.verdicts) as_written ∙ z.verdicts in
        sym (rows_take f verdict_width loc (n + 1) M (drop verdicts_at zs) (omega arith) (omega (arith, long-zs, length-drop verdicts_at zs)))
        ∙ (ap (rows f verdict_width (n + 1)) (ap (λ (t : Sections). t.verdicts) sections_are ∙ joins)
        ∙ (rows_written f verdict_width loc n (verdict_width * n) (verdict_row_of r good) (sections ys).verdicts (length-verdict_row_of r good) refl (omega (arith, long))
        ∙ ap (λ l. l ++ f (verdict_row_of r good) ∷ []) (rows_take f verdict_width loc n M (drop verdicts_at ys) (omega arith) (omega (arith, h.long, length-drop verdicts_at ys)))))

    running-rows : {A : Type 0} (f : List ℕ → A) → Local f run_width →
        rows f run_width (m - 1) (drop running_at zs) ≡ take i (rows f run_width m (drop running_at ys)) ++ drop (i + 1) (rows f run_width m (drop running_at ys))
    running-rows f loc =
        let M : ℕ = run_width * most_running in
        let same : rows f run_width m (sections ys).running ≡ rows f run_width m (drop running_at ys) = rows_take f run_width loc m M (drop running_at ys) (omega (arith, m-is, h.few_running)) (omega (arith, h.long, length-drop running_at ys)) in
        sym (rows_take f run_width loc (m - 1) M (drop running_at zs) (omega (arith, m-is, h.few_running)) (omega (arith, long-zs, length-drop running_at zs)))
        ∙ (ap (rows f run_width (m - 1)) (ap (λ (t : Sections). t.running) sections_are ∙ left)
        ∙ (rows_out f run_width loc m i (sections ys).running there (omega (arith, length-running, m-is, h.few_running)) ∙ ap (λ l. take i l ++ drop (i + 1) l) same))

    -- the run by value is the one at the place
    run_is : run_of L r ≡ get_or (runs_in L m (drop running_at ys)) i no_run
    run_is =
        reads L
        ∙ (run_in_row L (drop (running_at + run_width * i) ys) run_width (omega arith) (omega (arith, h.long, m-is, h.few_running, length-drop (running_at + run_width * i) ys))
        ∙ sym (get_d_rows (run_in L) run_width m i (drop running_at ys) no_run there ∙ ap (run_in L) (drop-drop (run_width * i) running_at ys)))

    state_is : decode zs ≡ answered (decode ys) i good
    unfolding decode
    state_is =
        let verdicts : verdicts_in (landed_in zs) (get_or zs verdicts_count 0) (drop verdicts_at zs) ≡ (decode ys).verdicts ++ record { run = get_or (decode ys).running i no_run; good = good } ∷ [] =
        (λ j. verdicts_in (landed_is j) (count-verdicts j) (drop verdicts_at zs))
        ∙ (verdict_rows (verdict_in L) (verdict_in-local L)
        ∙ ((λ j. verdicts_in L (n-is j) (drop verdicts_at ys) ++ read_verdict_of L r good j ∷ [])
        ∙ (λ j. (decode ys).verdicts ++ record { run = (run_is ∙ ap (λ u. get_or (runs_in L u (drop running_at ys)) i no_run) m-is) j; good = good } ∷ []))) in
        let running : runs_in (landed_in zs) (get_or zs running_count 0) (drop running_at zs) ≡ without i (decode ys).running =
        (λ j. runs_in (landed_is j) (count-running j) (drop running_at zs))
        ∙ (running-rows (run_in L) (run_in-local L)
        ∙ ((λ j. take i (runs_in L (m-is j) (drop running_at ys)) ++ drop (i + 1) (runs_in L (m-is j) (drop running_at ys))) ∙ sym (without_is i (decode ys).running (omega (arith, there, m-is, length-rows (run_in L) run_width (get_or ys running_count 0) (drop running_at ys)))))) in
        let requested : get_or zs requested_at 0 ≡ get_or ys requested_at 0 = ap (λ l. get_or l requested_at 0) zs_is in
        λ j. record { landed = landed_is j; waiting = waiting_is j; rejected = rejected_is j; verdicts = verdicts j; running = running j; requested = requested j }

    -- the new verdict fits, as its run did
    head_fits : HeadFits L (head_in (verdict_row_of r good))
    head_fits =
        let at : ℕ = running_at + run_width * i in
        let long : run_width ≤ length (drop at ys) = omega (arith, h.long, m-is, h.few_running, length-drop at ys) in
        let p : r.part ≡ get_or (drop at ys) 0 0 = part_is ∙ get_or-take run_width (drop at ys) 0 0 (omega arith) in
        let b : r.begins ≡ get_or (drop at ys) 1 0 = begins-is ∙ get_or-take run_width (drop at ys) 1 0 (omega arith) in
        subst (λ (u : ℕ). r.begins ≤ length (line u L)) (sym p) (subst (λ (u : ℕ). u ≤ length (line (get_or (drop at ys) 0 0) L)) (sym b) (h.running_fit i (omega (arith, m-is))))

    settled-after : Settled zs
    settled-after =
        let fit = fitting_settled ys h in
        let heads_v : AllByRecursion (HeadFits L) (rows head_in verdict_width n (drop verdicts_at ys)) = heads_fit L verdict_width n verdicts_at ys (λ k lt. h.verdicts_fit k (omega (arith, n-is))) in
        let heads_r : AllByRecursion (HeadFits L) (rows head_in run_width m (drop running_at ys)) = heads_fit L run_width m running_at ys (λ k lt. h.running_fit k (omega (arith, m-is))) in
        let all_v : AllByRecursion (HeadFits L) (rows head_in verdict_width (n + 1) (drop verdicts_at zs)) =
        subst (AllByRecursion (HeadFits L)) (sym (verdict_rows head_in (head_local verdict_width (omega arith)))) (All-push (HeadFits L) (rows head_in verdict_width n (drop verdicts_at ys)) (head_in (verdict_row_of r good)) heads_v head_fits) in
        let all_r : AllByRecursion (HeadFits L) (rows head_in run_width (m - 1) (drop running_at zs)) =
        subst (AllByRecursion (HeadFits L)) (sym (running-rows head_in (head_local run_width (omega arith))))
        (All-append (HeadFits L) (take i (rows head_in run_width m (drop running_at ys))) (drop (i + 1) (rows head_in run_width m (drop running_at ys))) (All-take (HeadFits L) i (rows head_in run_width m (drop running_at ys)) heads_r)
        (All-drop (HeadFits L) (i + 1) (rows head_in run_width m (drop running_at ys)) heads_r)) in
        record {
          long = long-zs;
          is = zs_is ∙ (λ j. whole (again j));
          few_landed = omega (arith, fit.landed, ap length landed_is, ap length waiting_is, count_landed zs, count_waiting zs);
          few_waiting = omega (arith, fit.waiting, ap length waiting_is, count_waiting zs);
          few_rejected = omega (arith, fit.rejected, ap length rejected_is, ap length waiting_is, count_rejected zs, count_waiting zs);
          few_verdicts = omega (arith, count-verdicts, few);
          few_running = omega (arith, count-running, m-is, h.few_running);
          verdicts_fit = λ k lt. subst (λ (cs : List Change). Begins cs (drop (verdicts_at + verdict_width * k) zs)) (sym landed_is) (fit_heads L verdict_width (n + 1) verdicts_at zs all_v k (omega (arith, count-verdicts)));
          running_fit = λ k lt. subst (λ (cs : List Change). Begins cs (drop (running_at + run_width * k) zs)) (sym landed_is) (fit_heads L run_width (m - 1) running_at zs all_r k (omega (arith, count-running)));
        }
      where
        again : after ≡ with_changes zs (landed_in zs) (waiting_in zs) (rejected_in zs)
        again = λ j. record {
          counters = get_or (sym zs_is j) benches_at 0 ∷ get_or (sym zs_is j) depth_at 0 ∷ length (sym landed_is j) ∷ length (sym waiting_is j) ∷ length (sym rejected_is j) ∷ get_or (sym zs_is j) verdicts_count 0 ∷ get_or (sym zs_is j) running_count 0 ∷ get_or (sym zs_is j) requested_at 0 ∷ [];
          landed = changes_section most_landed (sym landed_is j);
          waiting = changes_section most_waiting (sym waiting_is j);
          rejected = changes_section most_rejected (sym rejected_is j);
          verdicts = (sym sections_are j).verdicts;
          running = (sym sections_are j).running;
          behind = (sym sections_are j).behind;
        }

    pub says_reported : Says ys (answered (decode ys) i good) zs
    says_reported = record { settled = settled-after; state = state_is; config = ap config_in zs_is; behind = ap (λ (t : Sections). t.behind) sections_are }
