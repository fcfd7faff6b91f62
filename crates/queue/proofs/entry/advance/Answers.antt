use Rattle.std.proofs.Common.{length, get_or, ap, ◌∙◌, arith, Ok}
use Rattle.run.specs.Layout.{benches_at, depth_at, requested_at}
use Rattle.run.specs.Numbers.{encode}
use Rattle.plan.specs.Plan.{planned}
use Rattle.queue.proofs.Advanced.{says_passed}
use Rattle.queue.proofs.entry.advance.Goals as goal

pub pass-requires : goal.pass-requires
pass-requires c = record { settled = c.requires.ready.settled; tallied = c.requires.ready.tally }

pub plan_runs-requires : goal.plan_runs-requires
plan_runs-requires c =
    let is = c.pass.ensures.passed in
    record {
      ready = record {
        settled = c.pass.ensures.settled;
        benches = omega (arith, ap (λ l. get_or l benches_at 0) is, c.requires.ready.benches);
        depth = omega (arith, ap (λ l. get_or l depth_at 0) is, c.requires.ready.depth);
        tally = c.pass.ensures.tallied;
      };
      few = omega (arith, ap (λ l. get_or l requested_at 0) is, c.requires.few);
    }

pub returns : goal.returns
returns c =
    let said = says_passed c.args.queue.now c.pass.new.queue c.pass.ensures.settled c.pass.ensures.state c.pass.ensures.passed c.pass.ensures.behind in
    let is = c.plan_runs.ensures.is ∙ (λ i. encode (said.config i) (planned (said.config i) (said.state i)) (said.behind i)) in
    let running = c.plan_runs.ensures.running ∙ (λ i. length (planned (said.config i) (said.state i)).running) in
    λ i. (Ok (running i), is i)
