-- The bench of a trial: a hash of the part and the changes in it. Assumes nothing: these are definitions.
use Rattle.std.specs.Prelude.{ℕ, ◌+◌, ◌*◌, ◌/◌, ◌%◌, ◌^◌, Bool, List, nat_le}
use Rattle.std.specs.List.{fold}

-- one number more
abbrev pub mixed : ℕ → ℕ → ℕ
mixed h n = (h + n) % 2 ^ 64 * 11400714819323198485 % 2 ^ 64

abbrev pub hashed : ℕ → List ℕ → ℕ
hashed h ns = fold mixed h ns

-- of 256 states about so many are bad: those whose hash has a small first byte
abbrev pub hash_says : ℕ → ℕ → ℕ → List ℕ → Bool
hash_says seed bad part ns = nat_le bad (hashed (mixed seed part) ns / 2 ^ 56)
