use Rattle.std.proofs.Common.{ℕ, List, [], ◌∷◌, ◌++◌, length, take, drop, sym, refl, ap, ◌∙◌, subst, arith}
use lib.Seq.{take-length}
use Rattle.std.proofs.lemmas.List.{append-nil, append_assoc}
use Rattle.change.specs.Change.{Change, line}
use Rattle.change.specs.Listed.{changes_of}
use Rattle.change.specs.Records.{Tallies, change_in, change_of, change_width}
use Rattle.change.proofs.Rows.{length-rows}
use Rattle.change.proofs.ChangeLaws.{line_touched}
use Rattle.run.specs.Layout.{waiting_at}
use Rattle.run.specs.Numbers.{landed_in}
use Rattle.plan.specs.Numbers.{first_waiting}
use Rattle.plan.proofs.Ahead.{run_on_is}
use Rattle.plan.proofs.planner.Planner.useful_run.Goals as goal

pub count_of-requires : goal.count_of-requires
count_of-requires c = subst (Tallies c.args.self.tally.now) (sym c.landed.ensures) c.args.self.ready.tally

pub loop-c-init : goal.loop-c-init
loop-c-init c =
    let it = c.into_iter-c-iterator.ensures.into_iter_gives in
    let none = c.of_landed-run.ensures.follows in
    let p = c.args.part in (
      refl,
      refl,
      ap (λ k. take k c.of_landed-run.result.numbers ++ line p (changes_of c.into_iter-c-iterator.result)) none ∙ (ap (λ s. line p (changes_of s)) it ∙ ap (line p) c.at-c-items.ensures),
      omega (arith, none, ap (λ s. length (changes_of s)) it, ap length c.at-c-items.ensures, length-rows change_in change_width c.args.n (drop waiting_at c.args.self.queue.now)),
    )

pub loop-c-preserved-then-touches : goal.loop-c-preserved-then-touches
loop-c-preserved-then-touches c =
    let i = c.loop-c.invariant in
    let p = c.args.part in
    let x : Change = change_of c.in-Some.c in
    let old : List ℕ = take c.loop-c.run.follows c.loop-c.run.numbers in
    let later : List ℕ = line p (changes_of c.next.new.self) in
    let e = ap (line p) c.in-Some.ensures.steps ∙ line_touched p x (changes_of c.next.new.self) (sym c.if-touches.ensures) in (
      c.push.ensures.part ∙ i.0,
      c.push.ensures.begins ∙ i.1,
      ap (λ l. l ++ later) c.push.ensures.numbers ∙ (append_assoc old (x.number ∷ []) later ∙ (ap (λ l. old ++ l) (sym e) ∙ i.2)),
      omega (arith, c.push.ensures.follows, i.3, ap length c.in-Some.ensures.steps),
    )

pub returns-clause-value : goal.returns-clause-value
returns-clause-value c =
    let i = c.loop-c.invariant in
    let p = c.args.part in
    let n = c.args.number in
    let cs : List Change = landed_in c.args.self.queue.now in
    let ws : List Change = first_waiting c.args.n c.args.self.queue.now in
    let part = c.push-2.ensures.part ∙ (i.0 ∙ c.of_landed-run.ensures.part) in
    let begins = c.push-2.ensures.begins ∙ (i.1 ∙ (c.of_landed-run.ensures.begins ∙ (c.count_of.ensures ∙ ap (λ l. length (line p l)) c.landed.ensures))) in
    let all = (λ j. take (begins j) (line (part j) cs)) ∙ take-length (line p cs) in
    let old : List ℕ = take c.loop-c.run.follows c.loop-c.run.numbers in
    let seen = sym (append-nil old) ∙ (ap (λ l. old ++ line p l) (sym c.in-None.ensures.steps.0) ∙ i.2) in
    let w = (λ j. all j ++ (c.push-2.ensures.numbers ∙ ap (λ l. l ++ n ∷ []) seen) j) ∙ sym (run_on_is cs ws n p) in
    λ j. record { part = part j; changes = w j }
