use Rattle.std.proofs.Common.{ℕ, ◌+◌, ◌*◌, ◌<◌, ◌≤◌, leb, List, get_or, None, Some, sym, refl, ap, arith, rules, tests}
use Rattle.std.specs.Option.{option_map}
use Rattle.std.proofs.lemmas.Bool.{le-leb, lt-leb}
use Rattle.queue.specs.Refusals.{over}
use Rattle.queue.specs.declared.reply.Refusal.TheVariants.{Malformed}
use Rattle.queue.proofs.Found.{first_row, row_number}
use Rattle.queue.proofs.Searches.{all_pass, one_fails}
use Rattle.queue.proofs.checks.check_field.Goals as goal

pub returns-in-Some-clause-says : goal.returns-in-Some-clause-says
returns-in-Some-clause-says c =
    let a = c.args in
    let xs : List ℕ = a.queue.now in
    let found = first_row a.width a.n a.base xs (omega (arith, c.requires.inside)) c.requires.fits c.records_at.result _ _ c.records_at.ensures.size c.records_at.ensures.rest
    (λ l. a.most < get_or l a.field 0) (λ l. get_or l a.field 0 ≤ a.most) (Some c.in-Some.i) c.in-Some.ensures.ran
    (λ x q k. search (rules, tests)) (λ x q k. search (rules, tests)) in
    let so = λ (k : ℕ). row_number a.width (a.base + a.width * k) a.field xs c.requires.inside in
    sym (ap (option_map (λ x. Malformed x)) (one_fails a.width (λ at. leb (get_or xs (at + a.field) 0) a.most) (λ at. at + a.field) (λ n at. over a.width a.field a.most n at xs) (λ at. refl) (λ n at. refl)
    c.in-Some.i a.n a.base found.0 (lt-leb _ _ (omega (arith, found.1, so c.in-Some.i))) (λ k lt. le-leb _ _ (omega (arith, found.2 k lt, so k)))))

pub returns-in-None-clause-says : goal.returns-in-None-clause-says
returns-in-None-clause-says c =
    let a = c.args in
    let xs : List ℕ = a.queue.now in
    let none = first_row a.width a.n a.base xs (omega (arith, c.requires.inside)) c.requires.fits c.records_at.result _ _ c.records_at.ensures.size c.records_at.ensures.rest
    (λ l. a.most < get_or l a.field 0) (λ l. get_or l a.field 0 ≤ a.most) None c.in-None.ensures.ran
    (λ x q k. search (rules, tests)) (λ x q k. search (rules, tests)) in
    let so = λ (k : ℕ). row_number a.width (a.base + a.width * k) a.field xs c.requires.inside in
    sym (ap (option_map (λ x. Malformed x)) (all_pass a.width (λ at. leb (get_or xs (at + a.field) 0) a.most) (λ at. at + a.field) (λ n at. over a.width a.field a.most n at xs) (λ at. refl) (λ n at. refl)
    a.n a.base (λ k lt. le-leb _ _ (omega (arith, none k lt, so k)))))
