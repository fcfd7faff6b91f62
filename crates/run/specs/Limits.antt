-- How many changes a run can name behind the landed ones. Assumes nothing: this is a definition.
use Rattle.std.specs.Prelude.{ℕ}

-- a run goes on with at most so many changes behind the landed ones
abbrev pub most_following : ℕ
most_following = 16
