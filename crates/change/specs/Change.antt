-- Changes and the parts that they touch. Assumes nothing: these are definitions.
use Rattle.std.specs.Prelude.{ℕ, zero, suc, Bool, false, cond, not, ◌&&◌, ◌||◌, List, [], ◌∷◌, length, Some, None, Option, ◌==◌, nat_le, nat_lt}
use Rattle.std.specs.Option.{option_map}

-- every part's number is below this
abbrev pub part_limit : ℕ
part_limit = 64

-- a change touches at most so many parts
abbrev pub most_parts : ℕ
most_parts = 8

pub record Change : Type 0 where
  pub number : ℕ
  pub parts : List ℕ

-- the number stands in the list
abbrev pub has : List ℕ → ℕ → Bool
has [] n = false
has (m ∷ ms) n = m == n || has ms n

-- the lists have a number in common
abbrev pub share : List ℕ → List ℕ → Bool
share [] qs = false
share (p ∷ ps) qs = has qs p || share ps qs

-- a part's line: the numbers of the changes that touch it, in order
abbrev pub line : ℕ → List Change → List ℕ
line p [] = []
line p (c ∷ cs) = cond (has c.parts p) (c.number ∷ line p cs) (line p cs)

-- the place of the first change of this number
abbrev pub place_of : ℕ → List Change → Option ℕ
place_of n [] = None
place_of n (c ∷ cs) = cond (c.number == n) (Some 0) (option_map suc (place_of n cs))

-- some change of the list has this number
abbrev pub numbered : ℕ → List Change → Bool
numbered n [] = false
numbered n (c ∷ cs) = c.number == n || numbered n cs

-- the list without its first change of this number
abbrev pub dropped : ℕ → List Change → List Change
dropped n [] = []
dropped n (c ∷ cs) = cond (c.number == n) cs (c ∷ dropped n cs)

-- the list without its i-th element
abbrev pub without : {A : Type 0} → ℕ → List A → List A
without i [] = []
without zero (x ∷ xs) = xs
without (suc i) (x ∷ xs) = x ∷ without i xs

-- the place, counted from i, of the first part that is too large or that stands among those seen
abbrev pub fault_from : List ℕ → ℕ → List ℕ → Option ℕ
fault_from seen i [] = None
fault_from seen i (p ∷ ps) = cond (nat_lt p part_limit && not (has seen p)) (fault_from (p ∷ seen) (suc i) ps) (Some i)

-- where a change is malformed: at most_parts if it has no or too many parts, else at its first part that is too large or named before
abbrev pub fault : Change → Option ℕ
fault c = cond (nat_le 1 (length c.parts) && nat_le (length c.parts) most_parts) (fault_from [] 0 c.parts) (Some most_parts)
