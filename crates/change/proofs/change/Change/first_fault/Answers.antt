use Rattle.std.proofs.Common.{◌≡◌, ◌≤◌, [], length, get_or, take, sym, ap, ◌∙◌, arith}
use Rattle.std.proofs.lemmas.List.{length-take-le}
use Rattle.std.proofs.lemmas.Bool.{lt-ltb, le-ltb}
use Rattle.change.specs.Change.{fault, fault_from}
use Rattle.change.specs.Records.{change_of}
use Rattle.change.specs.declared.change.Change as declared
use Rattle.change.proofs.ChangeLaws.{any-has}
use Rattle.change.proofs.Seen.{fault_later, fault_large, fault_again, fault_by_parts}
use Rattle.change.proofs.change.Change.first_fault.Goals as goal
use Rattle.change.proofs.change.Change.first_fault.Goals.{then-part-ge-PART_LIMIT-via-then-part-ge-PART_LIMIT, then-part-ge-PART_LIMIT-via-else-part-ge-PART_LIMIT+then-contains}

by_parts : (c : declared.Change) → 1 ≤ c.count → fault_from [] 0 (take c.count c.parts) ≡ fault (change_of c)
by_parts c some =
    let l : length (take c.count c.parts) ≡ c.count = length-take-le c.count c.parts (omega arith) in
    sym (fault_by_parts (change_of c) (omega arith) (omega arith))

pub returns-then-part-ge-PART_LIMIT : goal.returns-then-part-ge-PART_LIMIT
returns-then-part-ge-PART_LIMIT c =
    let ps = c.touched-parts.result.now in
    let i = c.loop-i.i in
    let e = c.loop-i.invariant ∙ (ap (fault_from [] 0) c.touched-parts.ensures ∙ by_parts c.args.self (omega arith)) in
    elim c.then-part-ge-PART_LIMIT.branch [
      | then-part-ge-PART_LIMIT-via-then-part-ge-PART_LIMIT w ↦ sym (fault_large ps i c.loop-i-test.true (le-ltb _ _ w.if-part-ge-PART_LIMIT.true)) ∙ e
      | then-part-ge-PART_LIMIT-via-else-part-ge-PART_LIMIT+then-contains w ↦
          sym (fault_again ps i c.loop-i-test.true (sym (any-has (take i ps) (get_or ps i 0)) ∙ sym w.if-contains.ensures.value)) ∙ e
    ]

pub loop-i-preserved : goal.loop-i-preserved
loop-i-preserved c =
    let ps = c.touched-parts.result.now in
    let i = c.loop-i.i in
    sym (fault_later ps i c.loop-i-test.true (lt-ltb _ _ c.if-part-ge-PART_LIMIT.false) (sym (any-has (take i ps) (get_or ps i 0)) ∙ sym c.if-contains.ensures.value))
    ∙ c.loop-i.invariant
