use Rattle.std.proofs.Common.{ℕ, arith}
use lib.ListN.{get_or-replicate}
use Rattle.change.proofs.tally.count_parts.Goals as goal

pub count_stamped-requires-clause-new : goal.count_stamped-requires-clause-new
count_stamped-requires-clause-new c = λ p h. omega (arith, get_or-replicate {A = ℕ} 64 p 0 0 h)
