use Rattle.std.proofs.Output.{has_written_of_eq}
use Rattle.day.proofs.Texts.{line_is}
use Rattle.day.proofs.line.StateLineDisplay.fmt.Goals as goal

pub returns-clause-writes : goal.returns-clause-writes
returns-clause-writes g c = λ plain ok.
    has_written_of_eq g.W.Write.write_str_gives _ _ _ _
    (line_is c.args.self.now.queue.now _ _ _ _ _ _ _ _ _ (record { count = c.of-records.ensures.count; numbers = c.of-records.ensures.numbers })
    (record { count = c.of.ensures.count; numbers = c.of.ensures.numbers }) (record { count = c.of-2.ensures.count; numbers = c.of-2.ensures.numbers })
    (record { count = c.of-3.ensures.count; numbers = c.of-3.ensures.numbers }) c.number_at-requested.ensures)
    (c.write.ensures.writes plain ok)
