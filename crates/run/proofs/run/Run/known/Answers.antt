use Rattle.std.proofs.Common.{◌≡◌, ℕ, ◌+◌, ◌*◌, ◌<◌, ◌≤◌, true, false, eqb, List, [], ◌∷◌, ◌++◌, length, get_or, drop, sym, refl, ap, ◌∙◌, arith}
use Rattle.std.proofs.lemmas.List.{length_push}
use Rattle.change.specs.Change.{Change, line}
use Rattle.change.specs.Listed.{changes_of}
use Rattle.std.specs.declared.slice.ChunksExact.{ChunksExact}
use Rattle.change.proofs.Chunks.{Came, Left, left_all, chunk_inside, chunk_more, chunk_none, chunk_row}
use Rattle.change.proofs.Rows.{rest, rest_none}
use Rattle.run.specs.Layout.{verdicts_at}
use Rattle.run.specs.Records.{run_in, run_of, run_width, verdict_in, verdict_width, verdicts_in}
use Rattle.run.specs.Run.{heard, same_run}
use Rattle.run.specs.declared.known.Known.{Known}
use Rattle.run.specs.declared.known.Known.TheVariants.{Good, Bad}
use Rattle.run.specs.declared.run.Run as declared
use Rattle.run.proofs.Heard.{heard_bad, heard_elsewhere, heard-good, heard_later, heard_none, verdict_at}
use Rattle.run.proofs.run.Run.known.Goals as goal

pub loop-verdict-init : goal.loop-verdict-init
loop-verdict-init c =
    let rows = c.records_at-verdict-items.ensures in (
      left_all verdict_width c.args.verdicts verdicts_at c.args.queue.now _ _ c.into_iter-verdict-iterator.ensures.into_iter_gives rows.size rows.rest,
      ap (heard (run_of (changes_of c.at-landed.result) c.args.self)) (rest_none (verdict_in (changes_of c.at-landed.result)) verdict_width c.args.queue.now verdicts_at c.args.verdicts),
    )

module _ (xs : List ℕ) (cs : List Change) (n k : ℕ) (self : declared.Run) (it next : ChunksExact ℕ) (v : List ℕ) (long : verdicts_at + verdict_width * n ≤ length xs) (left : Left verdict_width n verdicts_at xs it k) (came : Came it v next) where
  inside : k < n
  inside = chunk_inside verdict_width n verdicts_at k xs (omega arith) long it left v next came

  is : v ≡ verdict_at xs k
  is = chunk_row verdict_width n verdicts_at k xs (omega arith) long it left v next came

  abbrev said : ℕ → Known
  said j = heard (run_of cs self) (rest (verdict_in cs) verdict_width xs verdicts_at n j)

  elsewhere : (get_or v 0 0 ≡ self.part → ⊥) → said (k + 1) ≡ said k
  elsewhere other = sym (heard_elsewhere cs xs n k (run_of cs self) long inside (λ e. other (ap (λ l. get_or l 0 0) is ∙ e)))

  -- the run that is compared is the one that the verdict is on
  module _ (stored cut : declared.Run) (all : self.begins ≡ length (line self.part cs)) (here : get_or v 0 0 ≡ self.part) (part : stored.part ≡ get_or v 0 0)
      (same : self.begins ≡ length (line stored.part cs) → run_of cs cut ≡ run_of cs stored) (read : run_of cs stored ≡ run_in cs v) where
    compared : run_of cs cut ≡ run_in cs (verdict_at xs k)
    compared = same (all ∙ ap (λ p. length (line p cs)) (sym (part ∙ here))) ∙ (read ∙ ap (run_in cs) is)

    good : same_run (run_of cs cut) (run_of cs self) ≡ true → eqb (get_or v run_width 0) 1 ≡ true → said k ≡ Good
    good e g = heard-good cs xs n k (run_of cs self) (run_of cs cut) long inside compared e (ap (λ l. eqb (get_or l run_width 0) 1) (sym is) ∙ g)

    bad : same_run (run_of cs cut) (run_of cs self) ≡ true → eqb (get_or v run_width 0) 1 ≡ false → said k ≡ Bad
    bad e g = heard_bad cs xs n k (run_of cs self) (run_of cs cut) long inside compared e (ap (λ l. eqb (get_or l run_width 0) 1) (sym is) ∙ g)

    later : same_run (run_of cs cut) (run_of cs self) ≡ false → said (k + 1) ≡ said k
    later e = sym (heard_later cs xs n k (run_of cs self) (run_of cs cut) long inside compared e)

pub returns-then-says_good : goal.returns-then-says_good
returns-then-says_good c =
    let xs : List ℕ = c.args.queue.now in
    let n : ℕ = c.args.verdicts in
    let k : ℕ = length c.loop-verdict.yielded in
    let cs : List Change = changes_of c.at-landed.result in
    let i = c.loop-verdict.invariant in
    let it = c.loop-verdict.verdict-iterator in
    let next = c.next.new.self in
    let v = c.in-Some.verdict.now in
    let long : verdicts_at + verdict_width * n ≤ length xs = omega (arith, c.requires.long, c.requires.held) in
    let all = c.requires.all ∙ ap (λ l. length (line c.args.self.part l)) (sym c.at-landed.ensures) in
    sym (good xs cs n k c.args.self it next v long i.0 c.in-Some.ensures.steps c.read_run.result c.within-stored.result all c.if-verdict-self.false c.read_run.ensures.part (c.within-stored.ensures.value cs) (c.read_run.ensures.value cs) (sym c.same_as.ensures ∙ c.if-same_as.true) (sym c.says_good.ensures ∙ c.if-says_good.true))
    ∙ (i.1 ∙ ap (λ l. heard (run_of l c.args.self) (verdicts_in l n (drop verdicts_at xs))) c.at-landed.ensures)

pub returns-else-says_good : goal.returns-else-says_good
returns-else-says_good c =
    let xs : List ℕ = c.args.queue.now in
    let n : ℕ = c.args.verdicts in
    let k : ℕ = length c.loop-verdict.yielded in
    let cs : List Change = changes_of c.at-landed.result in
    let i = c.loop-verdict.invariant in
    let it = c.loop-verdict.verdict-iterator in
    let next = c.next.new.self in
    let v = c.in-Some.verdict.now in
    let long : verdicts_at + verdict_width * n ≤ length xs = omega (arith, c.requires.long, c.requires.held) in
    let all = c.requires.all ∙ ap (λ l. length (line c.args.self.part l)) (sym c.at-landed.ensures) in
    sym (bad xs cs n k c.args.self it next v long i.0 c.in-Some.ensures.steps c.read_run.result c.within-stored.result all c.if-verdict-self.false c.read_run.ensures.part (c.within-stored.ensures.value cs) (c.read_run.ensures.value cs) (sym c.same_as.ensures ∙ c.if-same_as.true) (sym c.says_good.ensures ∙ c.if-says_good.false))
    ∙ (i.1 ∙ ap (λ l. heard (run_of l c.args.self) (verdicts_in l n (drop verdicts_at xs))) c.at-landed.ensures)

pub loop-verdict-preserved-then-verdict-self : goal.loop-verdict-preserved-then-verdict-self
loop-verdict-preserved-then-verdict-self c =
    let xs : List ℕ = c.args.queue.now in
    let n : ℕ = c.args.verdicts in
    let k : ℕ = length c.loop-verdict.yielded in
    let cs : List Change = changes_of c.at-landed.result in
    let i = c.loop-verdict.invariant in
    let it = c.loop-verdict.verdict-iterator in
    let next = c.next.new.self in
    let v = c.in-Some.verdict.now in
    let long : verdicts_at + verdict_width * n ≤ length xs = omega (arith, c.requires.long, c.requires.held) in
    let on : length (c.loop-verdict.yielded ++ c.in-Some.verdict ∷ []) ≡ k + 1 = length_push c.loop-verdict.yielded c.in-Some.verdict in (
      chunk_more verdict_width n verdicts_at k xs (omega arith) long it i.0 v next c.in-Some.ensures.steps c.loop-verdict.yielded c.in-Some.verdict refl,
      ap (said xs cs n k c.args.self it next v long i.0 c.in-Some.ensures.steps) on ∙ (elsewhere xs cs n k c.args.self it next v long i.0 c.in-Some.ensures.steps c.if-verdict-self.true ∙ i.1),
    )

pub loop-verdict-preserved : goal.loop-verdict-preserved
loop-verdict-preserved c =
    let xs : List ℕ = c.args.queue.now in
    let n : ℕ = c.args.verdicts in
    let k : ℕ = length c.loop-verdict.yielded in
    let cs : List Change = changes_of c.at-landed.result in
    let i = c.loop-verdict.invariant in
    let it = c.loop-verdict.verdict-iterator in
    let next = c.next.new.self in
    let v = c.in-Some.verdict.now in
    let long : verdicts_at + verdict_width * n ≤ length xs = omega (arith, c.requires.long, c.requires.held) in
    let all = c.requires.all ∙ ap (λ l. length (line c.args.self.part l)) (sym c.at-landed.ensures) in
    let on : length (c.loop-verdict.yielded ++ c.in-Some.verdict ∷ []) ≡ k + 1 = length_push c.loop-verdict.yielded c.in-Some.verdict in (
      chunk_more verdict_width n verdicts_at k xs (omega arith) long it i.0 v next c.in-Some.ensures.steps c.loop-verdict.yielded c.in-Some.verdict refl,
      ap (said xs cs n k c.args.self it next v long i.0 c.in-Some.ensures.steps) on
          ∙ (later xs cs n k c.args.self it next v long i.0 c.in-Some.ensures.steps c.read_run.result c.within-stored.result all c.if-verdict-self.false c.read_run.ensures.part (c.within-stored.ensures.value cs) (c.read_run.ensures.value cs) (sym c.same_as.ensures ∙ c.if-same_as.false) ∙ i.1),
    )

pub returns : goal.returns
returns c =
    let xs : List ℕ = c.args.queue.now in
    let n : ℕ = c.args.verdicts in
    let cs : List Change = changes_of c.at-landed.result in
    let i = c.loop-verdict.invariant in
    let long : verdicts_at + verdict_width * n ≤ length xs = omega (arith, c.requires.long, c.requires.held) in
    let end = chunk_none verdict_width n verdicts_at (length c.loop-verdict.yielded) xs (omega arith) long c.loop-verdict.verdict-iterator i.0 c.in-None.ensures.steps.1.0 in
    sym (heard_none cs xs n (length c.loop-verdict.yielded) (run_of cs c.args.self) end) ∙ (i.1 ∙ ap (λ l. heard (run_of l c.args.self) (verdicts_in l n (drop verdicts_at xs))) c.at-landed.ensures)
