use Rattle.std.proofs.Common.{Bool, cond, [], ◌∷◌, ◌++◌, sym, refl, ap, ◌∙◌, append-nil}
use Rattle.std.proofs.lemmas.Result.{IfOk-weaker}
use Rattle.promises.specs.Lent.{is_done}
use Rattle.day.proofs.Log.{answered-held, answered-stepped, never_taken, refused_any, promised_by}
use Rattle.day.proofs.logged.Day.apply.Goals as goal
use Rattle.queue.specs.Entry.{Reply}

pub returns-then-holds_back : goal.returns-then-holds_back
returns-then-holds_back c =
    let d = c.args.self.now in
    let xs = d.numbers.items in
    let e = c.args.event in
    let full = sym c.holds_back.ensures ∙ c.if-holds_back.true in
    record {
      answers = IfOk-weaker c.turn_away.result _ _ (λ reply h. ap (λ (s : Reply). (s, xs)) h ∙ sym (answered-held d.most xs e full)) c.turn_away.ensures;
      logs = IfOk-weaker c.turn_away.result _ _
          (λ reply h. sym (ap (λ (s : Reply). d.log.items ++ cond (is_done s) (e ∷ []) []) h ∙ ap (λ (b : Bool). d.log.items ++ cond b (e ∷ []) []) (never_taken _) ∙ append-nil _)) c.turn_away.ensures;
      leaves = refused_any c.turn_away.result _ (λ y. (refl, refl));
      stays = (refl, refl, refl);
      promised = promised_by d.benches d.depth _ _ d.began d.follows d.taken;
    }

pub returns-else-holds_back : goal.returns-else-holds_back
returns-else-holds_back c =
    let d = c.args.self.now in
    let now = c.step.new.self in
    let free = sym c.holds_back.ensures ∙ c.if-holds_back.false in
    record {
      answers = IfOk-weaker c.step.result _ _ (λ reply h. h ∙ sym (answered-stepped d.most d.numbers.items c.args.event free)) c.step.ensures.answers;
      logs = c.step.ensures.logs;
      leaves = c.step.ensures.leaves;
      stays = c.step.ensures.stays;
      promised = promised_by now.benches now.depth _ _ now.began now.follows now.taken;
    }
