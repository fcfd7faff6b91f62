use Rattle.std.proofs.Common.{◌≡◌, ℕ, ◌-◌, List, [], ◌∷◌, ◌++◌, length, take, drop, sym, ap, ◌∙◌, arith}
use Rattle.std.proofs.lemmas.List.{append_assoc}
use Rattle.change.specs.Change.{line}
use Rattle.change.specs.Listed.{changes_of}
use Rattle.change.specs.Records.{change_of}
use Rattle.run.proofs.Compared.{line_touched, line_passed, ends_true, ends_false, ends_more}
use Rattle.run.proofs.run.Run.repeats_last.Goals as goal

pub returns-then-left-eq0 : goal.returns-then-left-eq0
returns-then-left-eq0 c =
    let i = c.loop-c.invariant in
    ends_true (line c.args.part (changes_of c.args.landed)) _ i.0 c.args.self.now.numbers c.args.d i.1
    (omega (arith, i.2, c.if-left-eq0.true)) (sym (ap (λ u. drop u (take c.args.d c.args.self.now.numbers)) c.if-left-eq0.true) ∙ i.3)

pub returns-then-c-self : goal.returns-then-c-self
returns-then-c-self c =
    let i = c.loop-c.invariant in
    let p : ℕ = c.args.part in
    let x = change_of c.in-Some.c in
    let A : List ℕ = line p (changes_of c.args.landed) in
    let e = line_touched p _ _ x c.in-Some.ensures.steps (sym c.if-touches.ensures) in
    ends_false A _ i.0 c.args.self.now.numbers x.number c.args.d (c.loop-c.left - 1) (i.1 ∙ (ap (λ l. l ++ i.0) e ∙ append_assoc _ (x.number ∷ []) i.0))
    (omega (arith, i.2, c.if-left-eq0.false)) c.requires.there c.if-c-self.true

pub loop-c-preserved-else-c-self : goal.loop-c-preserved-else-c-self
loop-c-preserved-else-c-self c =
    let i = c.loop-c.invariant in
    let p : ℕ = c.args.part in
    let x = change_of c.in-Some.c in
    let e = line_touched p _ _ x c.in-Some.ensures.steps (sym c.if-touches.ensures) in (
      x.number ∷ i.0,
      i.1 ∙ (ap (λ l. l ++ i.0) e ∙ append_assoc _ (x.number ∷ []) i.0),
      omega (arith, i.2, c.if-left-eq0.false),
      ends_more i.0 (x.number ∷ i.0) c.args.self.now.numbers x.number c.args.d c.loop-c.left (c.loop-c.left - 1) (λ j. x.number ∷ i.0)
          (omega (arith, c.if-left-eq0.false)) (omega arith) i.2 c.if-c-self.false i.3,
    )

pub loop-c-preserved : goal.loop-c-preserved
loop-c-preserved c =
    let i = c.loop-c.invariant in
    let e = line_passed c.args.part _ _ (change_of c.in-Some.c) c.in-Some.ensures.steps (sym c.if-touches.ensures) in
    (i.0, i.1 ∙ ap (λ l. l ++ i.0) e, i.2, i.3)

pub returns : goal.returns
returns c =
    let i = c.loop-c.invariant in
    let p : ℕ = c.args.part in
    let A : List ℕ = line p (changes_of c.args.landed) in
    let a : A ≡ i.0 = i.1 ∙ ap (λ l. line p l ++ i.0) c.in-None.ensures.steps.0 in
    let l : c.loop-c.left ≡ 0 = omega (arith, ap length a, i.2, c.requires.there) in
    ends_true A _ i.0 c.args.self.now.numbers c.args.d i.1 (omega (arith, i.2)) (sym (ap (λ u. drop u (take c.args.d c.args.self.now.numbers)) l) ∙ i.3)
