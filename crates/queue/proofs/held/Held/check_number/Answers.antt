use Rattle.std.proofs.Common.{not, sym, ap, ◌∙◌}
use Rattle.queue.specs.Refusals.{unless}
use Rattle.queue.specs.declared.reply.Refusal.TheVariants.{NumberUsed}
use Rattle.queue.proofs.held.Held.check_number.Goals as goal

pub returns-then-used-clause-says : goal.returns-then-used-clause-says
returns-then-used-clause-says c = sym (ap (λ b. unless (not b) (NumberUsed c.args.number)) (sym c.used.ensures ∙ c.if-used.true))

pub returns-else-used-clause-says : goal.returns-else-used-clause-says
returns-else-used-clause-says c = sym (ap (λ b. unless (not b) (NumberUsed c.args.number)) (sym c.used.ensures ∙ c.if-used.false))
