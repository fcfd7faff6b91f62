-- Laws of the whole queue: what is stored, and that it is the planned state.
use Rattle.std.proofs.Common.{◌≡◌, ℕ, ◌+◌, ◌-◌, ◌*◌, ◌≤◌, List, [], ◌∷◌, length, get_or, drop, set, sym, refl, ap, ◌∙◌, arith}
use borrow.Rule.Slice.PartMut.{put_mid}
use Rattle.run.specs.Run.{Run, Verdict}
use Rattle.run.specs.Records.{run_width, verdict_width}
use Rattle.run.specs.Layout.{most_verdicts, most_running, benches_at, depth_at, landed_count, waiting_count, rejected_count, verdicts_count, running_count, requested_at, verdicts_at, running_at, queue_length}
use Rattle.run.specs.State.{Config, Queue}
use Rattle.run.specs.Numbers.{Sections, sections, whole, config_in, landed_in, waiting_in, rejected_in, with_changes, encode, decode, Settled, Fits}
use Rattle.run.proofs.Sections.{Sized, sized_sections, whole-sections, sections-whole, counters_as, verdicts_as, put_verdicts, put_running, counters_are}
use Rattle.run.proofs.Changed.{count_landed, count_waiting, count_rejected, fitting_settled, sized_changes}
use Rattle.plan.specs.Plan.{still_running, still_known, request, planned}
use Rattle.plan.specs.Numbers.{useful_now, verdicts_now, running_now, with_running}
use Rattle.plan.specs.Rows.{HoldsRuns, HoldsVerdicts}

-- three counters set, and two sections written over
pub stored_is : (xs vs rs : List ℕ) (v r n : ℕ) → queue_length ≤ length xs → length vs ≡ verdict_width * most_verdicts →
    put_mid running_at (run_width * most_running) (put_mid verdicts_at (verdict_width * most_verdicts) (set (set (set xs verdicts_count v) running_count r) requested_at n) vs) rs ≡ whole (with_running xs vs v rs r n)
stored_is xs vs rs v r n le lv =
    let z = sized_sections xs le in
    let s : Sections = counters_as (get_or xs benches_at 0 ∷ get_or xs depth_at 0 ∷ get_or xs landed_count 0 ∷ get_or xs waiting_count 0 ∷ get_or xs rejected_count 0 ∷ v ∷ r ∷ n ∷ []) (sections xs) in
    let sized : Sized s = record { counters = refl; landed = z.landed; waiting = z.waiting; rejected = z.rejected; verdicts = z.verdicts; running = z.running } in
    let sized' : Sized (verdicts_as vs s) = record { counters = refl; landed = z.landed; waiting = z.waiting; rejected = z.rejected; verdicts = lv; running = z.running } in
    let a : set (set (set xs verdicts_count v) running_count r) requested_at n ≡ whole s =
    ap (λ l. set (set (set l verdicts_count v) running_count r) requested_at n) (sym (whole-sections xs) ∙ ap (λ l. whole (counters_as l (sections xs))) (counters_are xs le)) in
    let b = ap (λ l. put_mid verdicts_at (verdict_width * most_verdicts) l vs) a ∙ put_verdicts s vs sized in
    ap (λ l. put_mid running_at (run_width * most_running) l rs) b ∙ put_running (verdicts_as vs s) rs sized'

module _ (xs : List ℕ) (h : Settled xs) where
  -- the sections of changes are written as they read
  changes_are : sections xs ≡ with_changes xs (landed_in xs) (waiting_in xs) (rejected_in xs)
  changes_are =
      ap sections h.is ∙ sections-whole (with_changes xs (landed_in xs) (waiting_in xs) (rejected_in xs)) (sized_changes xs (landed_in xs) (waiting_in xs) (rejected_in xs) h.long (fitting_settled xs h))

  abbrev vs : List Verdict
  vs = still_known (useful_now xs) (verdicts_now xs)

  abbrev still : List Run
  still = still_running (useful_now xs) (running_now xs)

  abbrev now_running : List Run
  now_running = request (get_or xs benches_at 0) vs still (useful_now xs)

  module _ (ys zs : List ℕ) (v r : ℕ) (hv : HoldsVerdicts (landed_in xs) v ys vs) (hr : HoldsRuns (landed_in xs) r zs now_running) where
    -- what is stored is the planned state
    pub planned_is : (k : ℕ) → k ≡ length still → whole (with_running xs ys v zs r (get_or xs requested_at 0 + (r - k))) ≡ encode (config_in xs) (planned (config_in xs) (decode xs)) (drop queue_length xs)
    unfolding encode planned decode
    planned_is k e =
        let s = changes_are in
        λ i. whole (record {
          counters = get_or xs benches_at 0 ∷ get_or xs depth_at 0 ∷ sym (count_landed xs) i ∷ sym (count_waiting xs) i ∷ sym (count_rejected xs) i ∷ hv.count i ∷ hr.count i ∷ (get_or xs requested_at 0 + (hr.count i - e i)) ∷ [];
          landed = (s i).landed;
          waiting = (s i).waiting;
          rejected = (s i).rejected;
          verdicts = hv.is i;
          running = hr.is i;
          behind = drop queue_length xs;
        })

    pub planned_fits : Fits (planned (config_in xs) (decode xs))
    unfolding planned decode
    planned_fits =
        let f = fitting_settled xs h in
        record {
          landed = omega (arith, f.landed);
          waiting = f.waiting;
          rejected = omega (arith, f.rejected);
          verdicts = omega (arith, hv.few, hv.count);
          running = omega (arith, hr.few, hr.count);
          small_landed = f.small_landed;
          small_waiting = f.small_waiting;
          small_rejected = f.small_rejected;
          verdicts_ahead = hv.all;
          running_ahead = hr.all;
        }

-- the counter of running runs
pub running-counted : (t : Config) (q : Queue) (behind : List ℕ) → get_or (encode t q behind) running_count 0 ≡ length q.running
unfolding encode
running-counted t q behind = refl
