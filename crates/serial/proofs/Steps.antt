-- The line that a chain over the changes gathers.
use Rattle.std.proofs.Common.{◌≡◌, ℕ, List, [], ◌∷◌, map, refl, arith}
use Rattle.std.specs.List.{filter}
use Rattle.change.specs.Change.{has, line}
use Rattle.change.specs.Records.{change_of}
use Rattle.change.specs.declared.change.Change as declared

-- the line of a part, as a chain over the changes gathers it
pub line_is : (p : ℕ) (cs : List declared.Change) → line p (map change_of cs) ≡ map (λ c. c.number) (filter (λ c. has (change_of c).parts p) cs)
line_is p [] = refl
line_is p (c ∷ cs) = grind (arith, line_is p cs)
