use Rattle.std.proofs.Common.{ℕ, List, sym, refl, ap, ◌∙◌, arith}
use Rattle.std.proofs.lemmas.List.{with_items_is}
use Rattle.std.proofs.lemmas.Result.{err_from_is_err_and}
use Rattle.queue.specs.Entry.{Reply}
use Rattle.promises.specs.Lent.{is_done}
use Rattle.day.specs.Played.{started}
use Rattle.day.proofs.Log.{started_is, lent_day_none, all_taken_none}
use Rattle.day.proofs.logged.Day.open.Goals as goal

pub returns-in_err-open : goal.returns-in_err-open
returns-in_err-open c =
    let a =
    started_is c.deref_mut.result.now c.args.benches c.args.depth _ (c.deref_mut.ensures.value ∙ c.in_ok-numbers.ensures.items_if_clones_equal (λ y h. h)) c.in_err-open.ensures in
    let p = err_from_is_err_and c.from_residual-in_err-open.result c.from_residual-in_err-open.ensures.1 in
    rw (p.1, p.2) (sym (ap (λ (x : Reply × List ℕ). x.0) a))

pub invariant_of-result : goal.invariant_of-result
invariant_of-result c =
    let a =
    started_is c.deref_mut.result.now c.args.benches c.args.depth _ (c.deref_mut.ensures.value ∙ c.in_ok-numbers.ensures.items_if_clones_equal (λ y h. h)) c.in_ok-open.ensures in
    let first : List ℕ = (started c.args.benches c.args.depth).1 in
    record {
      began = sym (ap (λ (x : Reply × List ℕ). is_done x.0) a);
      follows = with_items_is c.in_ok-numbers.numbers c.open.new.queue (omega arith) ∙ ap (λ (x : Reply × List ℕ). x.1) a ∙ sym (lent_day_none first _ c.new.ensures.items);
      taken = all_taken_none first _ c.new.ensures.items;
    }

pub returns : goal.returns
returns c =
    let a =
    started_is c.deref_mut.result.now c.args.benches c.args.depth _ (c.deref_mut.ensures.value ∙ c.in_ok-numbers.ensures.items_if_clones_equal (λ y h. h)) c.in_ok-open.ensures in (
      refl,
      refl,
      refl,
      c.new.ensures.items,
      with_items_is c.in_ok-numbers.numbers c.open.new.queue (omega arith) ∙ ap (λ (x : Reply × List ℕ). x.1) a,
      sym (ap (λ (x : Reply × List ℕ). is_done x.0) a),
    )
