-- Whether a change passes rests on the lines of its own parts and on nothing else. Assumes nothing.
use Rattle.std.proofs.Common.{◌≡◌, ℕ, Bool, true, false, cond, ◌&&◌, List, [], ◌∷◌, ◌++◌, sym, refl, ap, ◌∙◌, ap₂}
use Rattle.std.specs.List.{AllByRecursion}
use Rattle.change.proofs.ChangeLaws.{line-append}
use Rattle.change.specs.Change.{Change, has, line}
use Rattle.serial.specs.Serial.{Bench, passes_on, passes}
use Rattle.promises.proofs.Basics.{Off, line_off, has_head, has_tail}

-- two main lines are alike where they are the same on every part
abbrev pub Alike : List Change → List Change → Type 0
Alike xs ys = (p : ℕ) → line p xs ≡ line p ys

-- a change passes alike on lines that are the same on its parts
passes_on_alike : (f : Bench) (c : Change) (xs ys : List Change) (ps : List ℕ) → ((p : ℕ) → has ps p ≡ true → line p xs ≡ line p ys) →
    passes_on f xs c ps ≡ passes_on f ys c ps
unfolding passes_on
passes_on_alike f c xs ys [] e = refl
passes_on_alike f c xs ys (p ∷ ps) e =
    ap₂ (λ (r : List ℕ) (b : Bool). f p (r ++ c.number ∷ []) && b) (e p (has_head p ps)) (passes_on_alike f c xs ys ps (λ q h. e q (has_tail p ps q h)))

pub passes_same : (f : Bench) (c : Change) (xs ys : List Change) → ((p : ℕ) → has c.parts p ≡ true → line p xs ≡ line p ys) → passes f xs c ≡ passes f ys c
unfolding passes
passes_same f c xs ys e = passes_on_alike f c xs ys c.parts e

-- a change that does not touch the part is not in its line
pub line_skip : (p : ℕ) (c : Change) (xs : List Change) → has c.parts p ≡ false → line p (c ∷ xs) ≡ line p xs
line_skip p c xs e = ap (λ (b : Bool). cond b (c.number ∷ line p xs) (line p xs)) e

-- d shares no part with w
abbrev pub Loose : Change → Change → Type 0
Loose d w = Off d.parts w.parts

-- so whether w has landed does not matter for d
pub passes_insert : (f : Bench) (d w : Change) (A X : List Change) → Loose d w → passes f (A ++ w ∷ X) d ≡ passes f (A ++ X) d
passes_insert f d w A X o = passes_same f d (A ++ w ∷ X) (A ++ X)
    (λ p h. line-append p A (w ∷ X) ∙ ap (λ (r : List ℕ). line p A ++ r) (line_skip p w X (o p h)) ∙ sym (line-append p A X))

-- lines that are the same stay so when the same change lands
line_push : (c : Change) (xs ys : List Change) (p : ℕ) → line p xs ≡ line p ys → line p (xs ++ c ∷ []) ≡ line p (ys ++ c ∷ [])
line_push c xs ys p e = line-append p xs (c ∷ []) ∙ ap (λ (r : List ℕ). r ++ line p (c ∷ [])) e ∙ sym (line-append p ys (c ∷ []))

pub alike_push : (c : Change) (xs ys : List Change) → Alike xs ys → Alike (xs ++ c ∷ []) (ys ++ c ∷ [])
alike_push c xs ys e p = line_push c xs ys p (e p)

-- changes that share no part land in either order
pub off_swap : (c d : Change) → Off c.parts d.parts → (xs : List Change) → Alike (xs ++ c ∷ [] ++ d ∷ []) (xs ++ d ∷ [] ++ c ∷ [])
off_swap c d o xs p = go (has c.parts p) refl
  where
    go : (b : Bool) → has c.parts p ≡ b → line p (xs ++ c ∷ [] ++ d ∷ []) ≡ line p (xs ++ d ∷ [] ++ c ∷ [])
    go true h =
        line_off p (xs ++ c ∷ []) d (o p h)
        ∙ line_push c xs (xs ++ d ∷ []) p (sym (line_off p xs d (o p h)))
    go false h =
        line_push d (xs ++ c ∷ []) xs p (line_off p xs c h)
        ∙ sym (line_off p (xs ++ d ∷ []) c h)

-- what holds of each of a list holds without one of them, and of that one
pub all-out : (Q : Change → Type 0) (V : List Change) (c : Change) (U : List Change) → AllByRecursion Q (V ++ c ∷ U) → AllByRecursion Q (V ++ U)
all-out Q [] c U a = a.1
all-out Q (v ∷ V) c U a = (a.0, all-out Q V c U a.1)

pub all-at : (Q : Change → Type 0) (V : List Change) (c : Change) (U : List Change) → AllByRecursion Q (V ++ c ∷ U) → Q c
all-at Q [] c U a = a.0
all-at Q (v ∷ V) c U a = all-at Q V c U a.1

-- a change shares no part with any of a list
abbrev pub Apart : Change → List Change → Type 0
Apart c ds = AllByRecursion (Loose c) ds
