use Rattle.std.proofs.Common.{◌≡◌, ℕ, ◌≤◌, List, length, get_or, drop, None, sym, ap, ◌∙◌, subst, arith}
use Rattle.change.specs.Records.{Tallies, change_in, change_width}
use Rattle.change.proofs.Rows.{length-rows}
use Rattle.run.specs.Records.{run_width, verdict_width}
use Rattle.run.specs.Layout.{landed_at, landed_count, most_landed, verdicts_at, running_at, verdicts_count, running_count}
use Rattle.run.specs.Numbers.{landed_in}
use Rattle.queue.specs.Refusals.{overlong}
use Rattle.queue.proofs.Searches.{all_begin, none_mapped}
use Rattle.queue.proofs.held.Held.check_runs.Goals as goal

pub tally-tally-requires : goal.tally-tally-requires
tally-tally-requires c =
    let xs : List ℕ = c.args.self.queue.now in
    let few : get_or xs landed_count 0 ≤ most_landed = omega (arith, c.args.self.counted.landed, c.args.self.counts.few_landed) in
    omega (arith, ap length c.landed-landed.ensures, length-rows change_in change_width (get_or xs landed_count 0) (drop landed_at xs), few)

pub returns-clause-hands : goal.returns-clause-hands
returns-clause-hands c =
    let xs : List ℕ = c.args.self.queue.now in
    let v : None ≡ overlong (landed_in xs) verdict_width (get_or xs verdicts_count 0) verdicts_at xs =
    sym (none_mapped _ _ c.in_ok-_verdicts.ensures.says) ∙ (λ i. overlong (c.landed-landed.ensures i) verdict_width (c.args.self.counted.verdicts i) verdicts_at xs) in
    let r : None ≡ overlong (landed_in xs) run_width (get_or xs running_count 0) running_at xs =
    sym (none_mapped _ _ c.in_ok-_running.ensures.says) ∙ (λ i. overlong (c.landed-landed.ensures i) run_width (c.args.self.counted.running i) running_at xs) in (
      subst (Tallies c.tally-tally.result) c.landed-landed.ensures c.tally-tally.ensures,
      record {
        long = c.args.self.long;
        few_verdicts = omega (arith, c.args.self.counted.verdicts, c.args.self.counts.few_verdicts);
        few_running = omega (arith, c.args.self.counted.running, c.args.self.counts.few_running);
        verdicts_fit = all_begin (landed_in xs) verdict_width (get_or xs verdicts_count 0) verdicts_at xs (sym v);
        running_fit = all_begin (landed_in xs) run_width (get_or xs running_count 0) running_at xs (sym r);
      },
    )
