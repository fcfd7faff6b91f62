-- Laws of runs that begin with all landed changes of their part, and of their rows.
use Rattle.std.proofs.Common.{◌≡◌, ℕ, ◌<◌, List, [], ◌∷◌, ◌++◌, length, sym, ap, ◌∙◌, ⊎_elim, arith}
use Rattle.std.proofs.lemmas.List.{append_assoc, length_push}
use Rattle.std.proofs.lemmas.Bool.{cases_Bool, false≢true}
use Rattle.change.specs.Change.{Change, line}
use Rattle.change.proofs.ChangeLaws.{line-append}
use Rattle.run.specs.Limits.{most_following}
use Rattle.run.specs.Run.{Run, same_list, same_run, run_on}
use Rattle.run.specs.Records.{run_in, run_row, Ahead}
use Rattle.run.proofs.Rows.{read_run_row}
use Rattle.run.proofs.Compared.{same_list_refl, same_list_not, same_run_true, same_run_refl}

-- a change's run on top of others begins with what landed of them
pub run_on_is : (cs ws : List Change) (n p : ℕ) → line p (cs ++ ws) ++ n ∷ [] ≡ line p cs ++ (line p ws ++ n ∷ [])
run_on_is cs ws n p = ap (λ l. l ++ n ∷ []) (line-append p cs ws) ∙ append_assoc (line p cs) (line p ws) (n ∷ [])

pub ahead_on : (cs ws : List Change) (n p : ℕ) → length (line p ws) < most_following → Ahead cs (run_on (cs ++ ws) n p)
ahead_on cs ws n p lt = record { following = line p ws ++ n ∷ []; is = run_on_is cs ws n p; few = omega (arith, length_push (line p ws) n) }

-- runs whose rows are the same are the same
pub row_same : (cs : List Change) (a b : Run) → Ahead cs a → Ahead cs b → same_list (run_row cs a) (run_row cs b) ≡ same_run a b
row_same cs a b h k =
    ⊎_elim
    (λ e. ap (λ r. same_list (run_row cs a) (run_row cs r)) (sym (same_run_true a b e)) ∙ (same_list_refl (run_row cs a) ∙ sym e))
    (λ e. same_list_not (run_row cs a) (run_row cs b) (λ q.
    let x : a ≡ b = sym (read_run_row cs a [] h) ∙ (ap (λ u. run_in cs (u ++ [])) q ∙ read_run_row cs b [] k) in
    false≢true (sym e ∙ ap (same_run a) (sym x) ∙ same_run_refl a)) ∙ sym e)
    (cases_Bool (same_run a b))
