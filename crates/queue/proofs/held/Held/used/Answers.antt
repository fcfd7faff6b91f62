use Rattle.std.proofs.Common.{sym, ◌∙◌, true≢false}
use Rattle.change.specs.Change.{numbered}
use Rattle.queue.proofs.Searches.{asked, or_first, or_second}
use Rattle.queue.proofs.held.Held.used.Goals as goal
use Rattle.queue.proofs.held.Held.used.Goals.{then-number_used, else-number_used}

pub returns-then-number_used-2 : goal.returns-then-number_used-2
returns-then-number_used-2 c =
    let landed = asked (numbered c.args.number) c.landed.ensures c.number_used.ensures in
    elim c.if-number_used.branch [
      | then-number_used w ↦ or_first _ _ _ (landed ∙ w.if-number_used.true) c.if-number_used-2.true
      | else-number_used w ↦
          let waiting = asked (numbered c.args.number) w.waiting.ensures w.number_used-else-number_used.ensures in
          or_second _ _ _ (landed ∙ w.if-number_used.false) (or_first _ _ _ (waiting ∙ sym w.value-is ∙ c.if-number_used-2.true) c.if-number_used-2.true)
    ]

pub returns-else-number_used-2 : goal.returns-else-number_used-2
returns-else-number_used-2 c =
    let landed = asked (numbered c.args.number) c.landed.ensures c.number_used.ensures in
    let rejected = asked (numbered c.args.number) c.rejected.ensures c.number_used-else-number_used-2.ensures in
    elim c.if-number_used.branch [
      | then-number_used w ↦ absurd (true≢false (sym w.if-number_used.true ∙ sym w.value-is ∙ c.if-number_used-2.false))
      | else-number_used w ↦
          let waiting = asked (numbered c.args.number) w.waiting.ensures w.number_used-else-number_used.ensures in
          or_second _ _ _ (landed ∙ w.if-number_used.false) (or_second _ _ _ (waiting ∙ sym w.value-is ∙ c.if-number_used-2.false) (sym rejected))
    ]
