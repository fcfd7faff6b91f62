use Rattle.std.proofs.Common.{◌≡◌, ℕ, List, Ok, vec_items}
use Rattle.std.specs.Iterator.Adapters.{enumerate_source}
use Rattle.std.specs.Str.Iter.{lines_rest}
use Rattle.audits.proofs.Lines.{Read}
use Rattle.audits.proofs.reading.read_lines.Given as goal

abbrev pub invariant-loop-line : goal.invariant-loop-line
invariant-loop-line g l =
    (t : _ → List ℕ) → ((h : _) (line : _) (x : _) → goal.F-post g l.read h line (Ok x) → t x ≡ line.now) → Read t l.text (vec_items l.all) (lines_rest (enumerate_source l.line-iterator))
