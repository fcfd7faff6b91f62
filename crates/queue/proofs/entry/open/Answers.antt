use Rattle.std.proofs.Common.{◌≡◌, ◌++◌, length, take, drop, set, replicate, ap, ◌∙◌, Ok}
use Rattle.std.proofs.lemmas.List.{length-take-le}
use Rattle.run.specs.Layout.{queue_length, benches_at, depth_at}
use Rattle.queue.proofs.Opened.{opened_is}
use Rattle.queue.proofs.Replies.{next, goes_on}
use Rattle.queue.proofs.entry.open.Goals as goal

pub returns : goal.returns
returns c =
    let l : length (take queue_length c.args.queue.now) ≡ queue_length = length-take-le queue_length c.args.queue.now c.in-Ok.ensures.hands in
    let z : c.fill.new.self ≡ replicate queue_length 0 = c.fill.ensures.after (λ y e. e) ∙ ap (λ n. replicate n 0) l in
    let is = ap (λ ys. set (set (ys ++ drop queue_length c.args.queue.now) benches_at c.args.benches) depth_at c.args.depth) z
    ∙ opened_is c.args.benches c.args.depth (drop queue_length c.args.queue.now) in
    goes_on _ _ _ (next c.in-Ok.ensures.says (next c.in-Ok-checked.ensures.says c.in-Ok-looked.ensures.says)) (ap (λ ys. (Ok 0, ys)) is)
