use Rattle.std.proofs.Common.{◌≡◌, ℕ, ◌+◌, ◌*◌, ◌<◌, ◌≤◌, Bool, ◌||◌, eqb, List, [], ◌∷◌, ◌++◌, length, get_or, take, drop, sym, refl, ap, ◌∙◌, arith}
use lib.Pointwise.{pointwise}
use Rattle.std.proofs.lemmas.List.{length_push, get_or-take, take-take}
use Rattle.std.specs.declared.slice.ChunksExact.{ChunksExact}
use Rattle.change.proofs.Chunks.{Came, Left, chunk_inside, chunk_more, chunk_none, chunk_row}
use Rattle.change.proofs.Rows.{rest, rest_all, rest_more}
use Rattle.run.specs.Records.{run_width}
use Rattle.run.specs.Run.{same_list}
use Rattle.run.proofs.Compared.{pointwise-same_list, same_list_not}
use Rattle.plan.specs.Rows.{has_row}
use Rattle.plan.proofs.kept.Kept.has.Goals as goal
use Rattle.plan.proofs.kept.Kept.has.Goals.{else-record-row-via-then-record-row+else-eq, else-record-row-via-else-record-row}

module _ (row xs : List ℕ) (w n k : ℕ) (it next : ChunksExact ℕ) (v : List ℕ) (some : 0 < w) (wide : run_width ≤ w) (long : 0 + w * n ≤ length xs) (left : Left w n 0 xs it k) (came : Came it v next) where
  abbrev found : ℕ → Bool
  found j = has_row row (rest (take run_width) w xs 0 n j)

  -- one record more was looked at
  one : found k ≡ (same_list row (take run_width v) || found (k + 1))
  one =
      ap (has_row row) (rest_more (take run_width) w xs 0 n k (chunk_inside w n 0 k xs some long it left v next came))
      ∙ ap (λ u. same_list row u || found (k + 1)) (sym (take-take run_width w (drop (0 + w * k) xs) wide) ∙ ap (take run_width) (sym (chunk_row w n 0 k xs some long it left v next came)))

  same : (b : Bool) → b ≡ pointwise eqb row (take run_width v) → found k ≡ (b || found (k + 1))
  same b e = one ∙ ap (λ u. u || found (k + 1)) (sym (pointwise-same_list row (take run_width v)) ∙ sym e)

  -- it is of another part
  other : (get_or v 0 0 ≡ get_or row 0 0 → ⊥) → found k ≡ found (k + 1)
  other not_so = one ∙ ap (λ u. u || found (k + 1)) (same_list_not row (take run_width v) (λ e. not_so (sym (ap (λ l. get_or l 0 0) e ∙ get_or-take run_width v 0 0 (omega arith)))))

pub returns-then-eq : goal.returns-then-eq
returns-then-eq g c =
    let xs : List ℕ = c.args.self.now.numbers in
    let w : ℕ = c.args.width in
    let n : ℕ = c.args.self.now.count in
    let k : ℕ = length c.loop-record.yielded in
    let it = c.loop-record.record-iterator in
    let next = c.next.new.self in
    let v = c.in-Some.record.now in
    let i = c.loop-record.invariant in
    let some : 0 < w = omega (arith, c.requires.wide) in
    let long : 0 + w * n ≤ length xs = omega (arith, c.requires.within, c.args.self.now.long) in
    ap (λ b. b || found c.args.row.now xs w n k it next v some c.requires.wide long i.0 c.in-Some.ensures.steps (k + 1)) (sym c.if-eq.true)
    ∙ (sym (same c.args.row.now xs w n k it next v some c.requires.wide long i.0 c.in-Some.ensures.steps c.eq.result c.eq.ensures) ∙ i.1)

pub loop-record-preserved : goal.loop-record-preserved
loop-record-preserved g c =
    let xs : List ℕ = c.args.self.now.numbers in
    let w : ℕ = c.args.width in
    let n : ℕ = c.args.self.now.count in
    let k : ℕ = length c.loop-record.yielded in
    let it = c.loop-record.record-iterator in
    let next = c.next.new.self in
    let v = c.in-Some.record.now in
    let i = c.loop-record.invariant in
    let some : 0 < w = omega (arith, c.requires.wide) in
    let long : 0 + w * n ≤ length xs = omega (arith, c.requires.within, c.args.self.now.long) in
    let on : length (c.loop-record.yielded ++ c.in-Some.record ∷ []) ≡ k + 1 = length_push c.loop-record.yielded c.in-Some.record in
    let later : ℕ → Bool = λ j. has_row c.args.row.now (rest (take run_width) w xs 0 n j) in
    let on_to : later k ≡ later (k + 1) = elim c.else-record-row.branch [
      | else-record-row-via-then-record-row+else-eq u ↦ same c.args.row.now xs w n k it next v some c.requires.wide long i.0 c.in-Some.ensures.steps u.eq.result u.eq.ensures ∙ ap (λ b. b || later (k + 1)) u.if-eq.false
      | else-record-row-via-else-record-row u ↦ other c.args.row.now xs w n k it next v some c.requires.wide long i.0 c.in-Some.ensures.steps u.if-record-row.false
    ] in (
      chunk_more w n 0 k xs some long it i.0 v next c.in-Some.ensures.steps c.loop-record.yielded c.in-Some.record refl,
      ap later on ∙ (sym on_to ∙ i.1),
    )

pub returns : goal.returns
returns g c =
    let xs : List ℕ = c.args.self.now.numbers in
    let w : ℕ = c.args.width in
    let n : ℕ = c.args.self.now.count in
    let i = c.loop-record.invariant in
    let end = chunk_none w n 0 (length c.loop-record.yielded) xs (omega (arith, c.requires.wide)) (omega (arith, c.requires.within, c.args.self.now.long)) c.loop-record.record-iterator i.0 c.in-None.ensures.steps.1.0 in
    sym (ap (has_row c.args.row.now) (rest_all (take run_width) w xs 0 n (length c.loop-record.yielded) end)) ∙ i.1
