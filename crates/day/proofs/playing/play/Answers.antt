use Rattle.std.proofs.Common.{ℕ, List, sym, ap, ◌∙◌}
use Rattle.std.proofs.Output.{writes_in_calls_nil, has_written_of_eq}
use Rattle.day.specs.Day.{lines}
use Rattle.day.specs.DayFile.{events_of}
use Rattle.day.proofs.Days.{text_none, text-done, text_refused}
use Rattle.day.proofs.playing.play.Goals as goal

pub returns-in_default : goal.returns-in_default
returns-in_default g c p ok =
    let none = sym c.in_default.ensures in
    has_written_of_eq g.W.Write.write_str_gives _ _ _ _ (sym (text_none c.args.most c.args.bytes.now none)) (record { wrote = writes_in_calls_nil g.W.Write.write_str_gives _; plain = p })

pub returns-in-Ok : goal.returns-in-Ok
returns-in-Ok g c p ok =
    let bs = c.args.bytes.now in
    let most = c.args.most in
    let d = c.in-Ok.day in
    let t : ℕ × ℕ = (c.in-Some.benches, c.in-Some.depth) in
    let begins = c.in-Ok.ensures in
    let whole = text-done most bs t (sym c.in-Some.ensures) d.numbers.items begins.5 begins.4 in
    has_written_of_eq g.W.Write.write_str_gives _ _ _ _
    (ap (λ (m : ℕ). lines m d.numbers.items (events_of c.past.result.now)) begins.2 ∙ ap (λ (l : List ℕ). lines most d.numbers.items (events_of l)) c.past.ensures ∙ sym whole)
    (c.play_events.ensures.text p ok)

pub returns-in-Err-Refused : goal.returns-in-Err-Refused
returns-in-Err-Refused g c p ok =
    let t : ℕ × ℕ = (c.in-Some.benches, c.in-Some.depth) in
    has_written_of_eq g.W.Write.write_str_gives _ _ _ _ (sym (text_refused c.args.most c.args.bytes.now t (sym c.in-Some.ensures) c.in-Err-Refused.refusal (rw c.in-Err-Refused.field-0-is at c.in-Err-Refused.ensures))) (c.write_reply.ensures p ok)
