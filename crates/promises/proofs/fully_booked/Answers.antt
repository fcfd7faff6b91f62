use Rattle.promises.proofs.fully_booked.Goals as goal
use Rattle.promises.proofs.Idle.{fully_booked}

pub returns : goal.returns
returns c = fully_booked
