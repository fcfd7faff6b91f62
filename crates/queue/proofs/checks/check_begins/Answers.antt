use Rattle.std.proofs.Common.{ℕ, ◌+◌, ◌*◌, ◌<◌, ◌≤◌, leb, List, length, get_or, add-zero, None, Some, sym, refl, ap, ◌∙◌, arith, rules, tests}
use Rattle.std.specs.Option.{option_map}
use Rattle.std.proofs.lemmas.Bool.{le-leb, lt-leb}
use Rattle.change.specs.Change.{line}
use Rattle.change.specs.Listed.{changes_of}
use Rattle.queue.specs.Refusals.{overlong}
use Rattle.queue.specs.declared.reply.Refusal.TheVariants.{Malformed}
use Rattle.queue.proofs.Found.{first_row, row_number}
use Rattle.queue.proofs.Searches.{all_pass, one_fails}
use Rattle.queue.proofs.checks.check_begins.Goals as goal

pub returns-in-Some-clause-says : goal.returns-in-Some-clause-says
returns-in-Some-clause-says c =
    let a = c.args in
    let xs : List ℕ = a.queue.now in
    let landed = changes_of a.landed in
    let found = first_row a.width a.n a.base xs (omega (arith, c.requires.wide)) c.requires.fits c.records_at-runs.result _ _ c.records_at-runs.ensures.size c.records_at-runs.ensures.rest
    (λ l. length (line (get_or l 0 0) landed) < get_or l 1 0) (λ l. get_or l 1 0 ≤ length (line (get_or l 0 0) landed)) (Some c.in-Some.i) c.in-Some.ensures.ran
    (λ x q k. search (rules, tests)) (λ x q k. search (rules, tests)) in
    let begins = λ (k : ℕ). row_number a.width (a.base + a.width * k) 1 xs c.requires.wide in
    let part = λ (k : ℕ). row_number a.width (a.base + a.width * k) 0 xs (omega (arith, c.requires.wide)) ∙ ap (λ u. get_or xs u 0) (add-zero (a.base + a.width * k)) in
    let count = λ (k : ℕ). ap (λ p. length (line p landed)) (part k) in
    sym (ap (option_map (λ x. Malformed x)) (one_fails a.width (λ at. leb (get_or xs (at + 1) 0) (length (line (get_or xs at 0) landed))) (λ at. at) (λ n at. overlong landed a.width n at xs) (λ at. refl) (λ n at. refl)
    c.in-Some.i a.n a.base found.0 (lt-leb _ _ (omega (arith, found.1, begins c.in-Some.i, count c.in-Some.i))) (λ k lt. le-leb _ _ (omega (arith, found.2 k lt, begins k, count k)))))

pub returns-in-None-clause-says : goal.returns-in-None-clause-says
returns-in-None-clause-says c =
    let a = c.args in
    let xs : List ℕ = a.queue.now in
    let landed = changes_of a.landed in
    let none = first_row a.width a.n a.base xs (omega (arith, c.requires.wide)) c.requires.fits c.records_at-runs.result _ _ c.records_at-runs.ensures.size c.records_at-runs.ensures.rest
    (λ l. length (line (get_or l 0 0) landed) < get_or l 1 0) (λ l. get_or l 1 0 ≤ length (line (get_or l 0 0) landed)) None c.in-None.ensures.ran
    (λ x q k. search (rules, tests)) (λ x q k. search (rules, tests)) in
    let begins = λ (k : ℕ). row_number a.width (a.base + a.width * k) 1 xs c.requires.wide in
    let part = λ (k : ℕ). row_number a.width (a.base + a.width * k) 0 xs (omega (arith, c.requires.wide)) ∙ ap (λ u. get_or xs u 0) (add-zero (a.base + a.width * k)) in
    let count = λ (k : ℕ). ap (λ p. length (line p landed)) (part k) in
    sym (ap (option_map (λ x. Malformed x)) (all_pass a.width (λ at. leb (get_or xs (at + 1) 0) (length (line (get_or xs at 0) landed))) (λ at. at) (λ n at. overlong landed a.width n at xs) (λ at. refl) (λ n at. refl)
    a.n a.base (λ k lt. le-leb _ _ (omega (arith, none k lt, begins k, count k)))))
