-- A text that is written piece by piece, and the changes of a run that are. Assumes nothing.
use Rattle.std.proofs.Common.{◌≡◌, ℕ, Bool, true, cond, List, [], ◌∷◌, ◌++◌, codes, decimal, sym, ap, ◌∙◌, append_assoc, append-nil}
use Rattle.std.specs.declared.fmt.Formatter.{Formatter}
use Rattle.std.specs.Fmt.{IsPlainFormatter, HasWritten}
use Rattle.std.proofs.Output.{writes_in_calls_nil, has_written_append, has_written_of_eq}
use Rattle.run.specs.Text.{changes_text}

module _ {W : Type 0} (took : W → List ℕ → W → Type 0) where
  -- all of a text but what is left was written, from f to g
  pub record Sofar (f : Formatter W) (whole left : List ℕ) (g : Formatter W) : Type 0 where
    pub done : List ℕ
    pub is : done ++ left ≡ whole
    pub put : IsPlainFormatter f → HasWritten took f done g

  pub sofar_none : (f : Formatter W) (whole left : List ℕ) → left ≡ whole → Sofar f whole left f
  sofar_none f whole left e = record { done = []; is = e; put = λ p. record { wrote = writes_in_calls_nil took _; plain = p } }

  pub sofar_more : (f : Formatter W) (whole left : List ℕ) (g : Formatter W) (piece rest : List ℕ) (h : Formatter W) →
      Sofar f whole left g → left ≡ piece ++ rest → (IsPlainFormatter g → HasWritten took g piece h) → Sofar f whole rest h
  sofar_more f whole left g piece rest h s e k = record {
    done = s.done ++ piece;
    is = append_assoc s.done piece rest ∙ ap (λ (l : List ℕ). s.done ++ l) (sym e) ∙ s.is;
    put = λ p. let x = s.put p in has_written_append took f s.done g piece h x (k x.plain);
  }

  pub sofar_all : (f : Formatter W) (whole left : List ℕ) (g : Formatter W) → Sofar f whole left g → left ≡ [] → IsPlainFormatter f → HasWritten took f whole g
  sofar_all f whole left g s e p = has_written_of_eq took f s.done whole g (sym (append-nil s.done) ∙ ap (λ (l : List ℕ). s.done ++ l) (sym e) ∙ s.is) (s.put p)

-- the first of these changes is written, and the others are left
pub text_more : (led : Bool) (n : ℕ) (ns ms : List ℕ) → ms ≡ n ∷ ns → changes_text led ms ≡ (cond led (codes "+") [] ++ decimal n) ++ changes_text true ns
text_more led n ns ms e = ap (changes_text led) e ∙ sym (append_assoc (cond led (codes "+") []) (decimal n) (changes_text true ns))
