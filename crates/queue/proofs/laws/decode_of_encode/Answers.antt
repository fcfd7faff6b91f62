use Rattle.run.proofs.Round.{decode_encode}
use Rattle.queue.proofs.laws.decode_of_encode.Goals as goal

pub returns : goal.returns
returns c = decode_encode
