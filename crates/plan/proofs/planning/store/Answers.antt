use Rattle.std.proofs.Common.{◌≡◌, ℕ, List, length, ap, ◌∙◌}
use Rattle.run.specs.Numbers.{whole}
use Rattle.plan.specs.Numbers.{with_running}
use Rattle.plan.proofs.Storing.{stored_is}
use Rattle.plan.proofs.planning.store.Goals as goal

pub returns : goal.returns
returns c =
    let ys : List ℕ = c.copy_from_slice.new.self in
    let zs : List ℕ = c.copy_from_slice-2.new.self in
    let xs : List ℕ = c.args.queue.now in
    let k = c.args.known.now in
    let r = c.args.running.now in
    let e : ys ≡ k.numbers = c.copy_from_slice.ensures.after in
    let f : zs ≡ r.numbers = c.copy_from_slice-2.ensures.after in
    stored_is xs ys zs k.count r.count c.args.requested c.requires (ap length e ∙ k.long) ∙ (λ i. whole (with_running xs (e i) k.count (f i) r.count c.args.requested))
