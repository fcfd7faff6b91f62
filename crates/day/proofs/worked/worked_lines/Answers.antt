-- What the definitions say of the worked day's states carries over to their lines.
use Rattle.std.proofs.Common.{◌≡◌, ℕ, List, [], ◌∷◌, ◌++◌, map, take, codes, decimal, refl, ap, ◌∙◌}
use Rattle.std.specs.List.{flat_map}
use Rattle.std.specs.Fmt.{digits}
use Rattle.change.specs.Change.{Change}
use Rattle.run.specs.State.{Queue, empty}
use Rattle.queue.specs.Queue.{replayed}
use Rattle.queue.specs.WorkedDay.{Shown, shown, numbers, two_three, worked, worked_after}
use Rattle.day.specs.Text.{change_text, run_text, line_text}
use Rattle.day.specs.WorkedDay.{worked_line}
use Rattle.day.proofs.worked.worked_lines.Goals as goal

abbrev number_text : ℕ → List ℕ
number_text n = codes " " ++ decimal n

abbrev row_text : Shown → List ℕ
row_text s =
    codes "landed" ++ (flat_map number_text s.landed ++ (codes " waits" ++ (flat_map number_text s.waits ++ (codes " back" ++ (flat_map number_text s.back
    ++ (codes " out" ++ (flat_map run_text s.out ++ (codes " asked " ++ decimal s.asked))))))))

joined_numbers : (cs : List Change) → flat_map change_text cs ≡ flat_map number_text (numbers cs)
joined_numbers [] = refl
joined_numbers (c ∷ cs) = ap (λ l. change_text c ++ l) (joined_numbers cs)

line_is : (q : Queue) → line_text q ≡ row_text (shown q)
unfolding line_text
line_is q = λ j.
    codes "landed" ++ (joined_numbers q.landed j ++ (codes " waits" ++ (joined_numbers q.waiting j ++ (codes " back" ++ (joined_numbers q.rejected j
    ++ (codes " out" ++ (flat_map run_text q.running ++ (codes " asked " ++ decimal q.requested))))))))

lines_are : (ns : List ℕ) → map worked_line ns ≡ map row_text (map worked_after ns)
lines_are [] = refl
lines_are (n ∷ ns) = λ j. line_is (replayed two_three empty (take n worked)) j ∷ lines_are ns j

pub returns : goal.returns
unfolding digits
returns c = lines_are (2 ∷ 5 ∷ 6 ∷ 8 ∷ 9 ∷ 10 ∷ 11 ∷ []) ∙ ap (map row_text) c.worked_day.ensures
