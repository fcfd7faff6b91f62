use Rattle.audits.proofs.Vouched.{accepts_exactly}
use Rattle.audits.proofs.auditing.accepts_exactly.Goals as goal

pub returns : goal.returns
returns c = accepts_exactly
