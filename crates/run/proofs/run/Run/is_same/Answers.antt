use Rattle.std.proofs.Common.{◌≡◌, ℕ, ◌+◌, ◌-◌, ◌≤◌, eqb, List, length, take, drop, sym, ap, ◌∙◌, arith, length-drop}
use lib.Pointwise.{pointwise}
use Rattle.std.proofs.lemmas.List.{take_all, drop-take}
use Rattle.change.specs.Change.{Change, line}
use Rattle.change.specs.Listed.{changes_of}
use Rattle.change.specs.Records.{change_in, change_width}
use Rattle.change.proofs.Rows.{length-rows}
use Rattle.change.proofs.ChangeLaws.{length-line_le}
use Rattle.run.specs.Records.{run_of}
use Rattle.run.specs.Run.{same_list}
use Rattle.run.specs.declared.run.Run as declared
use Rattle.run.proofs.Compared.{pointwise-same_list, run_long, other_changes, renewed, renewed_other}
use Rattle.run.proofs.run.Run.is_same.Goals as goal

-- a run of the same part begins with no more than all
no_more : (cs : List Change) (a u : declared.Run) → a.part ≡ u.part → a.begins ≤ length (line a.part cs) → u.begins ≡ length (line u.part cs) → a.begins ≤ u.begins
no_more cs a u part fits all = omega (arith, ap (λ p. length (line p cs)) part)

pub overflow_add-d : goal.overflow_add-d
overflow_add-d c =
    let cs : List Change = changes_of c.args.landed in
    omega (arith, length-line_le c.args.top.now.part cs, length-rows change_in change_width c.args.landed.count c.args.landed.numbers.now, c.args.landed.within, c.ranges.landed.0, c.requires.all, c.args.top.now.few)

pub returns-then-self-d : goal.returns-then-self-d
returns-then-self-d c =
    let cs : List Change = changes_of c.args.landed in
    let a : declared.Run = c.args.self.now in
    let u : declared.Run = c.args.top.now in
    let l = run_long cs a c.requires.fits (omega (arith, a.few, a.long)) in
    let m = run_long cs u (omega (arith, c.requires.all)) (omega (arith, u.few, u.long)) in
    let fits = no_more cs a u c.if-self-top.false c.requires.fits c.requires.all in
    other_changes (run_of cs a) (run_of cs u) (λ e. c.if-self-d.true (omega (arith, ap length e, l, m, fits)))

-- the slices that are compared
compared : (cs : List Change) (a u : declared.Run) (F G : List ℕ) (d : ℕ) → F ≡ take a.follows a.numbers → G ≡ take u.follows u.numbers → a.follows ≡ d + u.follows →
    pointwise eqb (take (length F - d) (drop d F)) G ≡ same_list (take u.follows (drop d a.numbers)) (take u.follows u.numbers)
compared cs a u F G d e f long =
    let whole : take (length F - d) (drop d F) ≡ drop d F = take_all (length F - d) (drop d F) (omega (arith, length-drop d F)) in
    let back : drop d F ≡ take u.follows (drop d a.numbers) = ap (drop d) e ∙ (ap (λ k. drop d (take k a.numbers)) long ∙ drop-take d u.follows a.numbers) in
    pointwise-same_list (take (length F - d) (drop d F)) G ∙ (ap (λ l. same_list l G) (whole ∙ back) ∙ ap (same_list (take u.follows (drop d a.numbers))) f)

pub returns-then-eq : goal.returns-then-eq
returns-then-eq c =
    let cs : List Change = changes_of c.args.landed in
    let fits = no_more cs c.args.self.now c.args.top.now c.if-self-top.false c.requires.fits c.requires.all in
    let same = compared cs c.args.self.now c.args.top.now _ _ (c.args.top.now.begins - c.args.self.now.begins) c.following.ensures c.following-2.ensures c.if-self-d.false in
    renewed cs c.args.self.now c.args.top.now c.if-self-top.false c.requires.all fits c.if-self-d.false c.repeats_last.result c.repeats_last.ensures (sym same ∙ (sym c.eq.ensures ∙ c.if-eq.true))

pub returns-else-eq : goal.returns-else-eq
returns-else-eq c =
    let cs : List Change = changes_of c.args.landed in
    let fits = no_more cs c.args.self.now c.args.top.now c.if-self-top.false c.requires.fits c.requires.all in
    let same = compared cs c.args.self.now c.args.top.now _ _ (c.args.top.now.begins - c.args.self.now.begins) c.following.ensures c.following-2.ensures c.if-self-d.false in
    c.if-eq.false ∙ renewed_other cs c.args.self.now c.args.top.now c.if-self-top.false c.requires.all fits c.if-self-d.false (sym same ∙ (sym c.eq.ensures ∙ c.if-eq.false))
