use Rattle.std.proofs.Common.{rules}
use Rattle.serial.proofs.Steps.{line_is}
use Rattle.serial.proofs.landing.line_of.Goals as goal

pub returns : goal.returns
returns c = simp line_is (search rules)
