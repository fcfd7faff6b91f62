use Rattle.change.proofs.ChangeLaws.{read_row}
use Rattle.change.proofs.records.change_round_trip.Goals as goal

pub returns : goal.returns
returns c = read_row
