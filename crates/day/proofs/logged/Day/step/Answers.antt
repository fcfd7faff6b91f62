use Rattle.std.proofs.Common.{ℕ, Bool, true, false, cond, List, [], ◌∷◌, ◌++◌, sym, refl, ap, ◌∙◌, append-nil, arith}
use Rattle.std.proofs.lemmas.List.{with_items_is}
use Rattle.queue.specs.Entry.{stepped}
use Rattle.promises.specs.Lent.{lent_day}
use Rattle.day.specs.Played.{started, all_taken}
use Rattle.day.proofs.Log.{is_done_by, follows_more, taken_more, refusal-stays}
use Rattle.day.proofs.logged.Day.step.Goals as goal

pub invariant_of-self-then-is_ok : goal.invariant_of-self-then-is_ok
invariant_of-self-then-is_ok c =
    let d = c.args.self.now in
    let first : List ℕ = (started d.benches d.depth).1 in
    let ys = c.apply-reply.new.queue in
    let follows = c.deref_mut.ensures.value ∙ d.follows in
    let grown = c.push_reserved.ensures.items ∙ ap (λ (l : List (List ℕ)). l ++ c.args.event ∷ []) c.reserve.ensures.items in
    let done = is_done_by c.apply-reply.result true (sym c.is_ok.ensures.value ∙ c.if-is_ok.true) in
    record {
      began = d.began;
      follows = with_items_is d.numbers ys (omega arith) ∙ follows_more first _ ys c.args.event _ _ c.apply-reply.result c.apply-reply.ensures follows grown;
      taken = taken_more first _ ys c.args.event _ _ c.apply-reply.result c.apply-reply.ensures follows grown d.taken done;
    }

pub invariant_of-self-else-is_ok : goal.invariant_of-self-else-is_ok
invariant_of-self-else-is_ok c =
    let d = c.args.self.now in
    let first : List ℕ = (started d.benches d.depth).1 in
    let ys = c.apply-reply.new.queue in
    let same = c.reserve.ensures.items in
    let done = is_done_by c.apply-reply.result false (sym c.is_ok.ensures.value ∙ c.if-is_ok.false) in
    record {
      began = d.began;
      follows = with_items_is d.numbers ys (omega arith) ∙ refusal-stays _ c.args.event ys c.apply-reply.result done c.apply-reply.ensures ∙ c.deref_mut.ensures.value ∙ d.follows ∙ ap (lent_day first) (sym same);
      taken = ap (all_taken first) same ∙ d.taken;
    }

pub returns-then-is_ok : goal.returns-then-is_ok
returns-then-is_ok c =
    let d = c.args.self.now in
    let ys = c.apply-reply.new.queue in
    let done = is_done_by c.apply-reply.result true (sym c.is_ok.ensures.value ∙ c.if-is_ok.true) in
    record {
      answers = ap (λ (l : List ℕ). (c.apply-reply.result, l)) (with_items_is d.numbers ys (omega arith)) ∙ c.apply-reply.ensures ∙ ap (λ (l : List ℕ). stepped l c.args.event) c.deref_mut.ensures.value;
      logs = c.push_reserved.ensures.items ∙ ap (λ (l : List (List ℕ)). l ++ c.args.event ∷ []) c.reserve.ensures.items
          ∙ ap (λ (b : Bool). d.log.items ++ cond b (c.args.event ∷ []) []) (sym done);
      leaves = tt;
      stays = (refl, refl, refl);
    }

pub returns-else-is_ok : goal.returns-else-is_ok
returns-else-is_ok c =
    let d = c.args.self.now in
    let ys = c.apply-reply.new.queue in
    let done = is_done_by c.apply-reply.result false (sym c.is_ok.ensures.value ∙ c.if-is_ok.false) in
    record {
      answers = ap (λ (l : List ℕ). (c.apply-reply.result, l)) (with_items_is d.numbers ys (omega arith)) ∙ c.apply-reply.ensures ∙ ap (λ (l : List ℕ). stepped l c.args.event) c.deref_mut.ensures.value;
      logs = c.reserve.ensures.items ∙ sym (append-nil _) ∙ ap (λ (b : Bool). d.log.items ++ cond b (c.args.event ∷ []) []) (sym done);
      leaves = tt;
      stays = (refl, refl, refl);
    }
