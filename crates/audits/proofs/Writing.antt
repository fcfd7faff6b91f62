-- The parts of a landed change, written one after another. Assumes nothing.
use Rattle.std.proofs.Common.{◌≡◌, ℕ, List, ◌∷◌, ◌++◌, codes, decimal, sym, ap, ◌∙◌, append_assoc}
use Rattle.audits.specs.Text.{parts_text}

-- the first of these parts is written, and the others are left
pub parts_more : (n : ℕ) (ns ms : List ℕ) → ms ≡ n ∷ ns → parts_text ms ≡ (codes " " ++ decimal n) ++ parts_text ns
parts_more n ns ms e = ap parts_text e ∙ sym (append_assoc (codes " ") (decimal n) (parts_text ns))
