use Rattle.run.proofs.Round.{encode_decode}
use Rattle.queue.proofs.laws.encode_of_decode.Goals as goal

pub returns : goal.returns
returns c = encode_decode
