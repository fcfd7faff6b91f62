-- The changes that the code's iterator is still to give. Assumes nothing: this is a definition.
use Rattle.std.specs.Prelude.{List}
use Rattle.change.specs.Change.{Change}
use Rattle.change.specs.Records.{changes_in}
use Rattle.change.specs.declared.changes.Changes.{Changes}

abbrev pub changes_of : Changes → List Change
changes_of s = changes_in s.count s.numbers.now
