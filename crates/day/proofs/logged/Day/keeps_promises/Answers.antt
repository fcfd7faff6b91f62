use Rattle.day.proofs.Log.{promised_by}
use Rattle.day.proofs.logged.Day.keeps_promises.Goals as goal

pub returns : goal.returns
returns c =
    let d = c.args.self.now in
    promised_by d.benches d.depth _ _ d.began d.follows d.taken
