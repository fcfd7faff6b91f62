-- Laws of going through the waiting changes that are looked at, one after another.
use Rattle.std.proofs.Common.{◌≡◌, ℕ, ◌+◌, ◌-◌, ◌*◌, ◌^◌, ◌<◌, ◌≤◌, min, List, [], ◌∷◌, length, get_or, drop, sym, ap, ◌∙◌, arith}
use Rattle.change.specs.Change.{Change}
use Rattle.change.specs.Records.{change_in, change_width}
use Rattle.change.proofs.Rows.{given_inside, given_is, given_more, length-rows, rest, rest_none}
use Rattle.run.specs.Layout.{depth_at, most_depth, waiting_at, waiting_count}
use Rattle.run.specs.Numbers.{waiting_in}
use Rattle.plan.specs.Numbers.{first_waiting}

-- those that are left once k of them were looked at
abbrev pub looked_in_all : List ℕ → ℕ
looked_in_all xs = min (get_or xs depth_at 0) (get_or xs waiting_count 0)

abbrev pub still_looked : List ℕ → ℕ → List Change
still_looked xs k = rest change_in change_width xs waiting_at (looked_in_all xs) k

pub look_all : (xs : List ℕ) (k : ℕ) (left : List Change) → k ≡ 0 → left ≡ first_waiting (looked_in_all xs) xs → left ≡ still_looked xs k
look_all xs k left none is = is ∙ (sym (rest_none change_in change_width xs waiting_at (looked_in_all xs)) ∙ ap (still_looked xs) (sym none))

length-looked : (xs : List ℕ) (k : ℕ) → length (still_looked xs k) ≡ looked_in_all xs - k
length-looked xs k = length-rows change_in change_width (looked_in_all xs - k) (drop (waiting_at + change_width * k) xs)

-- they are few enough to be counted
pub look_counts : (xs : List ℕ) (k : ℕ) (left : List Change) → get_or xs depth_at 0 ≤ most_depth → left ≡ still_looked xs k → k ≤ looked_in_all xs → k + length left < 2 ^ 64
look_counts xs k left few is le = omega (arith, ap length is, length-looked xs k)

pub look_none : (xs : List ℕ) (k : ℕ) → still_looked xs k ≡ [] → min (get_or xs depth_at 0) (length (waiting_in xs)) ≤ k
look_none xs k none = omega (arith, ap length none, length-looked xs k, length-rows change_in change_width (get_or xs waiting_count 0) (drop waiting_at xs))

module _ (xs : List ℕ) (k : ℕ) (x : Change) (left more : List Change) (inv : left ≡ still_looked xs k) (steps : left ≡ x ∷ more) where
  pub look_inside : k < looked_in_all xs
  look_inside = given_inside change_in change_width waiting_at (looked_in_all xs) k xs x more (sym inv ∙ steps)

  pub look_is : x ≡ change_in (drop (waiting_at + change_width * k) xs)
  look_is = given_is change_in change_width waiting_at (looked_in_all xs) k xs x more (sym inv ∙ steps)

  pub look_goes_on : get_or xs depth_at 0 ≤ most_depth → (j : ℕ) → j ≡ k + 1 → (more ≡ still_looked xs j) × (j + length more < 2 ^ 64)
  look_goes_on few j e =
      let m = given_more change_in change_width waiting_at (looked_in_all xs) k xs x more (sym inv ∙ steps) ∙ ap (still_looked xs) (sym e) in
      (m, look_counts xs j more few m (omega (arith, e, look_inside)))
