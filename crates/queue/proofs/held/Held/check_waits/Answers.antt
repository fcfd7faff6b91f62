use Rattle.std.proofs.Common.{Some, None, sym}
use Rattle.change.specs.Change.{place_of}
use Rattle.queue.proofs.Searches.{asked, waits_by}
use Rattle.queue.proofs.held.Held.check_waits.Goals as goal

pub returns-in_default : goal.returns-in_default
returns-in_default c =
    let e = asked (place_of c.args.number) c.waiting.ensures c.in_default.ensures in
    record { says = sym (waits_by c.args.self.queue.now c.args.number None e); hands = tt }

pub returns : goal.returns
returns c =
    let e = asked (place_of c.args.number) c.waiting.ensures c.in-Some.ensures in
    record { says = sym (waits_by c.args.self.queue.now c.args.number (Some c.in-Some.place) e); hands = e }
