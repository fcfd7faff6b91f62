use Rattle.std.proofs.Common.{ℕ, List, refl, ap, ◌∙◌}
use Rattle.std.proofs.Output.{has_written_of_eq}
use Rattle.day.specs.Day.{answered, printed}
use Rattle.day.proofs.Days.{underway_more, underway_text, underway_end}
use Rattle.day.proofs.Log.{promised_by}
use Rattle.day.proofs.playing.play_events.Goals as goal

pub loop-event-preserved : goal.loop-event-preserved
loop-event-preserved g c =
    let d = c.loop-event.day in
    let same = c.loop-event.invariant.1 in (
      underway_more g.W.Write.write_str_gives _ _ _ _ _ c.in-Some.event _ _ _ c.in_ok-reply.reply _ _ c.loop-event.invariant.0 c.in-Some.ensures.steps
          (c.in_ok-reply.ensures.answers ∙ ap (λ (m : ℕ). answered m d.numbers.items c.in-Some.event) same)
          (λ p. has_written_of_eq g.W.Write.write_str_gives _ _ _ _ (ap (λ (l : List ℕ). printed (c.in_ok-reply.reply, l)) c.numbers.ensures) (c.in_ok-write_reply.ensures p refl)),
      c.in_ok-reply.ensures.stays.2 ∙ same,
    )

pub returns : goal.returns
returns g c =
    let none = c.in-None.ensures.steps.0 in
    let d = c.loop-event.day in
    record {
      text = λ p ok. underway_text g.W.Write.write_str_gives _ _ _ _ _ _ _ c.loop-event.invariant.0 none p;
      after = underway_end g.W.Write.write_str_gives _ _ _ _ _ _ _ c.loop-event.invariant.0 none;
      promised = promised_by d.benches d.depth _ _ d.began d.follows d.taken;
    }
