use Rattle.std.proofs.Common.{◌≡◌, ◌∷◌, [], ◌++◌, rules, Ok, vec_items}
use Rattle.audits.proofs.Lines.{read_more, read_all}
use Rattle.audits.proofs.reading.read_lines.Goals as goal

pub loop-line-preserved : goal.loop-line-preserved
loop-line-preserved g c =
    let p : vec_items c.push.new.self ≡ vec_items c.loop-line.all ++ c.in_ok-x.x ∷ [] = search rules in
    let r : c.read.result ≡ Ok c.in_ok-x.x = search rules in
    λ t h. read_more t _ _ _ _ _ _ _ p (h c.args.heap c.in-Some.words c.in_ok-x.x (rw r at c.read.ensures)) c.in-Some.ensures.steps.0.0.2 (c.loop-line.invariant t h)

pub returns : goal.returns
returns g c = λ t h. read_all t _ _ _ c.in-None.ensures.steps.0.0.0 (c.loop-line.invariant t h)
