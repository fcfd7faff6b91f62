use Rattle.std.proofs.Common.{refl}
use Rattle.change.specs.Records.{fixed}
use Rattle.day.specs.DayFile.{events_from}
use Rattle.day.proofs.worked.worked_file.Goals as goal

pub returns : goal.returns
unfolding fixed events_from
returns c = refl
