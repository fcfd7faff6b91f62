use Rattle.std.proofs.Common.{◌≡◌}
use Rattle.day.specs.Day.{lines, ends}
use Rattle.day.specs.DayFile.{events_of}
use Rattle.day.specs.Logged.{numbers_of}
use Rattle.day.proofs.Days.{Underway}
use Rattle.day.proofs.playing.play_events.Given as goal

abbrev pub invariant-loop-event : goal.invariant-loop-event
invariant-loop-event g l =
    Underway g.W.Write.write_str_gives l.initial.f l.initial.day.most (lines l.initial.day.most (numbers_of l.initial.day) (events_of l.bytes))
    (ends l.initial.day.most (numbers_of l.initial.day) (events_of l.bytes)) (numbers_of l.day) (events_of l.event-iterator.rest.now) l.f
    × (l.day.most ≡ l.initial.day.most)
