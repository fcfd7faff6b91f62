-- The changes that arrived, each marked as waiting, landed or rejected, and why each stands where it does. Assumes nothing.
use Rattle.std.proofs.Common.{◌≡◌, ℕ, Bool, true, false, cond, ◌||◌, eqb, List, [], ◌∷◌, ◌++◌, length, sym, refl, ap, ◌∙◌, subst, ap₂, subst₂, append_assoc, append-nil, arith}
use mathlib.Core.Bool.{or-true, or_assoc}
use Rattle.std.proofs.lemmas.Bool.{eqb-true, eqb-false, eq-eqb, ne_eqb, or_from}
use Rattle.std.specs.List.{AllByRecursion}
use Rattle.change.proofs.ChangeLaws.{line-append}
use Rattle.change.specs.Change.{Change, has, line, numbered, dropped}
use Rattle.serial.specs.Serial.{Bench, passes, serial_landed, serial_rejected}
use Rattle.promises.specs.Day.{not_waiting}
use Rattle.promises.proofs.Basics.{clash, neither_left, neither_right, or_swap, off_sym, line-without, numbered-append, numbered_push, length-place}
use Rattle.promises.proofs.Serial.{line_skip, Loose, passes_insert, all-out, all-at}

-- what became of a change that arrived
pub data Mark : Type 0 where
  wait : Change → Mark
  land : Change → Mark
  reject : Change → Mark

-- by the marks: those that arrived, wait, are decided, landed and were rejected, each in arrival order
abbrev pub arrived : List Mark → List Change
arrived [] = []
arrived (wait c ∷ m) = c ∷ arrived m
arrived (land c ∷ m) = c ∷ arrived m
arrived (reject c ∷ m) = c ∷ arrived m

abbrev pub waits : List Mark → List Change
waits [] = []
waits (wait c ∷ m) = c ∷ waits m
waits (land c ∷ m) = waits m
waits (reject c ∷ m) = waits m

abbrev pub ended : List Mark → List Change
ended [] = []
ended (wait c ∷ m) = ended m
ended (land c ∷ m) = c ∷ ended m
ended (reject c ∷ m) = c ∷ ended m

abbrev pub lands : List Mark → List Change
lands [] = []
lands (wait c ∷ m) = lands m
lands (land c ∷ m) = c ∷ lands m
lands (reject c ∷ m) = lands m

abbrev pub rejects : List Mark → List Change
rejects [] = []
rejects (wait c ∷ m) = rejects m
rejects (land c ∷ m) = rejects m
rejects (reject c ∷ m) = c ∷ rejects m

-- a list with an element in it is not empty
pub no_cons : (xs : List Change) (c : Change) (ys : List Change) → [] ≡ xs ++ c ∷ ys → ⊥
no_cons xs c ys e = omega (arith, ap length e, length-place xs c ys)

cons_same : (x y : Change) (xs ys : List Change) → x ∷ xs ≡ y ∷ ys → (x ≡ y) × (xs ≡ ys)
cons_same x y xs ys e = (cc, cc)

-- where a waiting change stands
pub record Split (m : List Mark) (W₁ : List Change) (c : Change) (W₂ : List Change) : Type 0 where
  pub m₁ : List Mark
  pub m₂ : List Mark
  pub is : m ≡ m₁ ++ wait c ∷ m₂
  pub w₁ : waits m₁ ≡ W₁
  pub w₂ : waits m₂ ≡ W₂

-- its marks are those before it, its own and those behind it
pub split : (m : List Mark) (W₁ : List Change) (c : Change) (W₂ : List Change) → waits m ≡ W₁ ++ c ∷ W₂ → Split m W₁ c W₂
split [] W₁ c W₂ e = absurd (no_cons W₁ c W₂ e)
split (land d ∷ m) W₁ c W₂ e = let r = split m W₁ c W₂ e in record { m₁ = land d ∷ r.m₁; m₂ = r.m₂; is = ap (λ (x : List Mark). land d ∷ x) r.is; w₁ = r.w₁; w₂ = r.w₂ }
split (reject d ∷ m) W₁ c W₂ e = let r = split m W₁ c W₂ e in record { m₁ = reject d ∷ r.m₁; m₂ = r.m₂; is = ap (λ (x : List Mark). reject d ∷ x) r.is; w₁ = r.w₁; w₂ = r.w₂ }
split (wait w ∷ m) [] c W₂ e = record { m₁ = []; m₂ = m; is = ap (λ (x : Change). wait x ∷ m) (cc); w₁ = refl; w₂ = cc }
split (wait w ∷ m) (x ∷ W₁) c W₂ e =
    let same = cons_same w x (waits m) (W₁ ++ c ∷ W₂) e in
    let r = split m W₁ c W₂ same.1 in
    record { m₁ = wait w ∷ r.m₁; m₂ = r.m₂; is = ap (λ (y : List Mark). wait w ∷ y) r.is; w₁ = ap₂ (λ (y : Change) (ys : List Change). y ∷ ys) same.0 r.w₁; w₂ = r.w₂ }

-- what the marks say is said of them part by part
pub arrived-append : (m k : List Mark) → arrived (m ++ k) ≡ arrived m ++ arrived k
arrived-append [] k = refl
arrived-append (wait c ∷ m) k = ap (λ (r : List Change). c ∷ r) (arrived-append m k)
arrived-append (land c ∷ m) k = ap (λ (r : List Change). c ∷ r) (arrived-append m k)
arrived-append (reject c ∷ m) k = ap (λ (r : List Change). c ∷ r) (arrived-append m k)

pub waits-append : (m k : List Mark) → waits (m ++ k) ≡ waits m ++ waits k
waits-append [] k = refl
waits-append (wait c ∷ m) k = ap (λ (r : List Change). c ∷ r) (waits-append m k)
waits-append (land c ∷ m) k = waits-append m k
waits-append (reject c ∷ m) k = waits-append m k

pub lands-append : (m k : List Mark) → lands (m ++ k) ≡ lands m ++ lands k
lands-append [] k = refl
lands-append (wait c ∷ m) k = lands-append m k
lands-append (land c ∷ m) k = ap (λ (r : List Change). c ∷ r) (lands-append m k)
lands-append (reject c ∷ m) k = lands-append m k

pub rejects-append : (m k : List Mark) → rejects (m ++ k) ≡ rejects m ++ rejects k
rejects-append [] k = refl
rejects-append (wait c ∷ m) k = rejects-append m k
rejects-append (land c ∷ m) k = rejects-append m k
rejects-append (reject c ∷ m) k = ap (λ (r : List Change). c ∷ r) (rejects-append m k)

-- why a change stands as landed: xs landed before it, ws wait before it
pub record Stands (f : Bench) (xs ws : List Change) (d : Change) : Type 0 where
  pub clear : AllByRecursion (Loose d) ws
  pub passing : passes f xs d ≡ true

-- why a change was rejected: it does not pass, whatever becomes of those that wait before it
pub record Falls (f : Bench) (xs ws : List Change) (d : Change) : Type 0 where
  pub clear : AllByRecursion (Loose d) ws
  pub failing : passes f xs d ≡ false

-- each decided change stands for its reason, by what landed (xs) and what waits (ws) before it
abbrev pub Sound : Bench → List Change → List Change → List Mark → Type 0
Sound f xs ws [] = Unit {0}
Sound f xs ws (wait c ∷ m) = Sound f xs (ws ++ c ∷ []) m
Sound f xs ws (land d ∷ m) = Stands f xs ws d × Sound f (xs ++ d ∷ []) ws m
Sound f xs ws (reject d ∷ m) = Falls f xs ws d × Sound f xs ws m

-- serial testing of those that are decided does what the marks say
pub serial_landed_is : (f : Bench) (m : List Mark) (xs ws : List Change) → Sound f xs ws m → serial_landed f xs (ended m) ≡ xs ++ lands m
unfolding serial_landed
serial_landed_is f [] xs ws k = sym (append-nil xs)
serial_landed_is f (wait c ∷ m) xs ws k = serial_landed_is f m xs (ws ++ c ∷ []) k
serial_landed_is f (land d ∷ m) xs ws k = ap (λ (b : Bool). serial_landed f (cond b (xs ++ d ∷ []) xs) (ended m)) k.0.passing ∙ serial_landed_is f m (xs ++ d ∷ []) ws k.1 ∙ append_assoc xs (d ∷ []) (lands m)
serial_landed_is f (reject d ∷ m) xs ws k = ap (λ (b : Bool). serial_landed f (cond b (xs ++ d ∷ []) xs) (ended m)) k.0.failing ∙ serial_landed_is f m xs ws k.1

pub serial_rejected_is : (f : Bench) (m : List Mark) (xs ws : List Change) → Sound f xs ws m → serial_rejected f xs (ended m) ≡ rejects m
unfolding serial_rejected
serial_rejected_is f [] xs ws k = refl
serial_rejected_is f (wait c ∷ m) xs ws k = serial_rejected_is f m xs (ws ++ c ∷ []) k
serial_rejected_is f (land d ∷ m) xs ws k = ap (λ (b : Bool). cond b (serial_rejected f (xs ++ d ∷ []) (ended m)) (d ∷ serial_rejected f xs (ended m))) k.0.passing ∙ serial_rejected_is f m (xs ++ d ∷ []) ws k.1
serial_rejected_is f (reject d ∷ m) xs ws k = ap (λ (b : Bool). cond b (serial_rejected f (xs ++ d ∷ []) (ended m)) (d ∷ serial_rejected f xs (ended m))) k.0.failing ∙ ap (λ (r : List Change). d ∷ r) (serial_rejected_is f m xs ws k.1)

-- a tail of the marks can be put in place of another
pub sound-after : (f : Bench) (m k : List Mark) (xs ws : List Change) → Sound f xs ws (m ++ k) → Sound f (xs ++ lands m) (ws ++ waits m) k
sound-after f [] k xs ws q = subst₂ (λ (a : List Change) (b : List Change). Sound f a b k) (sym (append-nil xs)) (sym (append-nil ws)) q
sound-after f (wait c ∷ m) k xs ws q = subst (λ (b : List Change). Sound f (xs ++ lands m) b k) (append_assoc ws (c ∷ []) (waits m)) (sound-after f m k xs (ws ++ c ∷ []) q)
sound-after f (land d ∷ m) k xs ws q = subst (λ (a : List Change). Sound f a (ws ++ waits m) k) (append_assoc xs (d ∷ []) (lands m)) (sound-after f m k (xs ++ d ∷ []) ws q.1)
sound-after f (reject d ∷ m) k xs ws q = sound-after f m k xs ws q.1

pub sound-join : (f : Bench) (m k l : List Mark) (xs ws : List Change) → Sound f xs ws (m ++ k) → Sound f (xs ++ lands m) (ws ++ waits m) l → Sound f xs ws (m ++ l)
sound-join f [] k l xs ws q r = subst₂ (λ (a : List Change) (b : List Change). Sound f a b l) (append-nil xs) (append-nil ws) r
sound-join f (wait c ∷ m) k l xs ws q r = sound-join f m k l xs (ws ++ c ∷ []) q (subst (λ (b : List Change). Sound f (xs ++ lands m) b l) (sym (append_assoc ws (c ∷ []) (waits m))) r)
sound-join f (land d ∷ m) k l xs ws q r = (q.0, sound-join f m k l (xs ++ d ∷ []) ws q.1 (subst (λ (a : List Change). Sound f a (ws ++ waits m) l) (sym (append_assoc xs (d ∷ []) (lands m))) r))
sound-join f (reject d ∷ m) k l xs ws q r = (q.0, sound-join f m k l xs ws q.1 r)

-- a number in a list with one more change
pub numbered-place : (n : ℕ) (V : List Change) (c : Change) (U : List Change) → numbered n (V ++ c ∷ U) ≡ (eqb c.number n || numbered n (V ++ U))
numbered-place n V c U = numbered-append n V (c ∷ U) ∙ or_swap (numbered n V) (eqb c.number n) (numbered n U) ∙ ap (◌||◌ (eqb c.number n)) (sym (numbered-append n V U))

-- a change that waited leaves
falls_gone : (f : Bench) (xs V : List Change) (c : Change) (U : List Change) (d : Change) → Falls f xs (V ++ c ∷ U) d → Falls f xs (V ++ U) d
falls_gone f xs V c U d s = record { clear = all-out (Loose d) V c U s.clear; failing = s.failing }

stands_gone : (f : Bench) (xs V : List Change) (c : Change) (U : List Change) (d : Change) → Stands f xs (V ++ c ∷ U) d → Stands f xs (V ++ U) d
stands_gone f xs V c U d s = record { clear = all-out (Loose d) V c U s.clear; passing = s.passing }

pub sound_gone : (f : Bench) (m : List Mark) (xs V : List Change) (c : Change) (U : List Change) → Sound f xs (V ++ c ∷ U) m → Sound f xs (V ++ U) m
sound_gone f [] xs V c U k = tt
sound_gone f (wait w ∷ m) xs V c U k =
    subst (λ (b : List Change). Sound f xs b m) (sym (append_assoc V U (w ∷ []))) (sound_gone f m xs V c (U ++ w ∷ []) (subst (λ (b : List Change). Sound f xs b m) (append_assoc V (c ∷ U) (w ∷ [])) k))
sound_gone f (land d ∷ m) xs V c U k = (stands_gone f xs V c U d k.0, sound_gone f m (xs ++ d ∷ []) V c U k.1)
sound_gone f (reject d ∷ m) xs V c U k = (falls_gone f xs V c U d k.0, sound_gone f m xs V c U k.1)

-- a change that waited lands in its place
falls_land : (f : Bench) (A X V : List Change) (c : Change) (U : List Change) (d : Change) → Falls f (A ++ X) (V ++ c ∷ U) d → Falls f (A ++ c ∷ X) (V ++ U) d
falls_land f A X V c U d s = record { clear = all-out (Loose d) V c U s.clear; failing = passes_insert f d c A X (all-at (Loose d) V c U s.clear) ∙ s.failing }

pub sound-land : (f : Bench) (m : List Mark) (A X V : List Change) (c : Change) (U : List Change) → Sound f (A ++ X) (V ++ c ∷ U) m → Sound f (A ++ c ∷ X) (V ++ U) m
sound-land f [] A X V c U k = tt
sound-land f (wait w ∷ m) A X V c U k =
    subst (λ (b : List Change). Sound f (A ++ c ∷ X) b m) (sym (append_assoc V U (w ∷ []))) (sound-land f m A X V c (U ++ w ∷ []) (subst (λ (b : List Change). Sound f (A ++ X) b m) (append_assoc V (c ∷ U) (w ∷ [])) k))
sound-land f (land d ∷ m) A X V c U k = (
  record {
    clear = all-out (Loose d) V c U k.0.clear;
    passing = passes_insert f d c A X (all-at (Loose d) V c U k.0.clear) ∙ k.0.passing;
  },
  subst (λ (a : List Change). Sound f a (V ++ U) m) (sym (append_assoc A (c ∷ X) (d ∷ []))) (sound-land f m A (X ++ d ∷ []) V c U (subst (λ (a : List Change). Sound f a (V ++ c ∷ U) m) (append_assoc A X (d ∷ [])) k.1)),
)
sound-land f (reject d ∷ m) A X V c U k = (falls_land f A X V c U d k.0, sound-land f m A X V c U k.1)

-- what landed behind a change that still waits does not matter for it
pub passes-later : (f : Bench) (m : List Mark) (X V : List Change) (c : Change) (U : List Change) → Sound f X (V ++ c ∷ U) m → passes f (X ++ lands m) c ≡ passes f X c
passes-later f [] X V c U k = ap (λ (x : List Change). passes f x c) (append-nil X)
passes-later f (wait w ∷ m) X V c U k = passes-later f m X V c (U ++ w ∷ []) (subst (λ (b : List Change). Sound f X b m) (append_assoc V (c ∷ U) (w ∷ [])) k)
passes-later f (land d ∷ m) X V c U k =
    ap (λ (x : List Change). passes f x c) (sym (append_assoc X (d ∷ []) (lands m)))
    ∙ passes-later f m (X ++ d ∷ []) V c U k.1
    ∙ passes_insert f c d X [] (off_sym d.parts c.parts (all-at (Loose d) V c U k.0.clear))
    ∙ ap (λ (x : List Change). passes f x c) (append-nil X)
passes-later f (reject d ∷ m) X V c U k = passes-later f m X V c U k.1

-- nothing that landed behind it touches its parts
lands_off : (f : Bench) (m : List Mark) (X V : List Change) (c : Change) (U : List Change) → Sound f X (V ++ c ∷ U) m → (p : ℕ) → has c.parts p ≡ true →
    line p (lands m) ≡ []
lands_off f [] X V c U k p h = refl
lands_off f (wait w ∷ m) X V c U k p h = lands_off f m X V c (U ++ w ∷ []) (subst (λ (b : List Change). Sound f X b m) (append_assoc V (c ∷ U) (w ∷ [])) k) p h
lands_off f (land d ∷ m) X V c U k p h = line_skip p d (lands m) (off_sym d.parts c.parts (all-at (Loose d) V c U k.0.clear) p h) ∙ lands_off f m (X ++ d ∷ []) V c U k.1 p h
lands_off f (reject d ∷ m) X V c U k p h = lands_off f m X V c U k.1 p h

-- so to land in its place and to land behind all is the same on every part
pub line-place : (f : Bench) (m : List Mark) (X V : List Change) (c : Change) (U : List Change) → Sound f X (V ++ c ∷ U) m → (A : List Change) (p : ℕ) →
    line p (A ++ lands m ++ c ∷ []) ≡ line p (A ++ c ∷ lands m)
line-place f m X V c U k A p = go (has c.parts p) refl
  where
    one : line p (A ++ lands m ++ c ∷ []) ≡ line p (A ++ lands m) ++ line p (c ∷ [])
    one = line-append p (A ++ lands m) (c ∷ [])

    go : (b : Bool) → has c.parts p ≡ b → line p (A ++ lands m ++ c ∷ []) ≡ line p (A ++ c ∷ lands m)
    go true h =
        one ∙ ap (λ (r : List ℕ). r ++ line p (c ∷ [])) (line-append p A (lands m) ∙ ap (λ (r : List ℕ). line p A ++ r) (lands_off f m X V c U k p h) ∙ append-nil (line p A))
        ∙ ap (λ (r : List ℕ). line p A ++ r) (sym (append-nil (line p (c ∷ []))) ∙ ap (λ (r : List ℕ). line p (c ∷ []) ++ r) (sym (lands_off f m X V c U k p h)) ∙ sym (line-append p (c ∷ []) (lands m)))
        ∙ sym (line-append p A (c ∷ lands m))
    go false h =
        one ∙ ap (λ (r : List ℕ). line p (A ++ lands m) ++ r) (line-without p c h) ∙ append-nil (line p (A ++ lands m))
        ∙ line-append p A (lands m) ∙ ap (λ (r : List ℕ). line p A ++ r) (sym (line_skip p c (lands m) h)) ∙ sym (line-append p A (c ∷ lands m))

-- numbers that are used once
abbrev pub Distinct : List Change → Type 0
Distinct [] = Unit {0}
Distinct (c ∷ cs) = (numbered c.number cs ≡ false) × Distinct cs

-- every number that arrived waits or is decided, and a decided one landed or was rejected
pub numbers_split : (n : ℕ) (m : List Mark) → numbered n (arrived m) ≡ (numbered n (waits m) || numbered n (ended m))
numbers_split n [] = refl
numbers_split n (wait c ∷ m) = ap (◌||◌ (eqb c.number n)) (numbers_split n m) ∙ sym (or_assoc (eqb c.number n) (numbered n (waits m)) (numbered n (ended m)))
numbers_split n (land c ∷ m) = ap (◌||◌ (eqb c.number n)) (numbers_split n m) ∙ or_swap (eqb c.number n) (numbered n (waits m)) (numbered n (ended m))
numbers_split n (reject c ∷ m) = ap (◌||◌ (eqb c.number n)) (numbers_split n m) ∙ or_swap (eqb c.number n) (numbered n (waits m)) (numbered n (ended m))

pub numbers-ended : (n : ℕ) (m : List Mark) → numbered n (ended m) ≡ (numbered n (lands m) || numbered n (rejects m))
numbers-ended n [] = refl
numbers-ended n (wait c ∷ m) = numbers-ended n m
numbers-ended n (land c ∷ m) = ap (◌||◌ (eqb c.number n)) (numbers-ended n m) ∙ sym (or_assoc (eqb c.number n) (numbered n (lands m)) (numbered n (rejects m)))
numbers-ended n (reject c ∷ m) = ap (◌||◌ (eqb c.number n)) (numbers-ended n m) ∙ or_swap (eqb c.number n) (numbered n (lands m)) (numbered n (rejects m))

numbered_head : (c : Change) (cs : List Change) → numbered c.number (c ∷ cs) ≡ true
numbered_head c cs = ap (λ (b : Bool). (b || numbered c.number cs)) (eq-eqb c.number c.number refl)

numbered_tail : (n : ℕ) (c : Change) (cs : List Change) → numbered n cs ≡ true → numbered n (c ∷ cs) ≡ true
numbered_tail n c cs e = ap (◌||◌ (eqb c.number n)) e ∙ or-true (eqb c.number n)

ended_apart : (m : List Mark) (c : Change) (n : ℕ) → numbered c.number (arrived m) ≡ false → numbered n (waits m) ≡ true → eqb c.number n ≡ false
ended_apart m c n u e = go (eqb c.number n) refl
  where
    go : (b : Bool) → eqb c.number n ≡ b → eqb c.number n ≡ false
    go true k = clash e (neither_left (numbered n (waits m)) (numbered n (ended m)) (sym (numbers_split n m) ∙ subst (λ (x : ℕ). numbered x (arrived m) ≡ false) (eqb-true c.number n k) u))
    go false k = k

-- no number both waits and is decided
pub numbers_apart : (m : List Mark) → Distinct (arrived m) → (n : ℕ) → numbered n (waits m) ≡ true → numbered n (ended m) ≡ false
numbers_apart [] u n e = refl
numbers_apart (wait c ∷ m) u n e = go (numbers_apart m u.1 n) (eqb c.number n) refl e
  where
    go : (numbered n (waits m) ≡ true → numbered n (ended m) ≡ false) → (b : Bool) → eqb c.number n ≡ b → (b || numbered n (waits m)) ≡ true →
        numbered n (ended m) ≡ false
    go ih true k h = neither_right (numbered n (waits m)) (numbered n (ended m)) (sym (numbers_split n m) ∙ subst (λ (x : ℕ). numbered x (arrived m) ≡ false) (eqb-true c.number n k) u.0)
    go ih false k h = ih h
numbers_apart (land c ∷ m) u n e = or_from (eqb c.number n) (numbered n (ended m)) (ended_apart m c n u.0 e) (numbers_apart m u.1 n e)
numbers_apart (reject c ∷ m) u n e = or_from (eqb c.number n) (numbered n (ended m)) (ended_apart m c n u.0 e) (numbers_apart m u.1 n e)

waits_not : (W : List Change) (c : Change) (ds : List Change) → ((n : ℕ) → numbered n W ≡ true → numbered n (c ∷ ds) ≡ false) → numbered c.number W ≡ false
waits_not W c ds o = go (numbered c.number W) refl
  where
    go : (b : Bool) → numbered c.number W ≡ b → numbered c.number W ≡ false
    go true k = clash (numbered_head c ds) (o c.number k)
    go false k = k

ended_tail : (W : List Change) (c : Change) (ds : List Change) → ((n : ℕ) → numbered n W ≡ true → numbered n (c ∷ ds) ≡ false) → (n : ℕ) → numbered n W ≡ true →
    numbered n ds ≡ false
ended_tail W c ds o n e = neither_right (eqb c.number n) (numbered n ds) (o n e)

-- so the arrivals that do not wait are the decided ones
not_waiting-from : (W : List Change) (m : List Mark) → ((n : ℕ) → numbered n (waits m) ≡ true → numbered n W ≡ true) →
    ((n : ℕ) → numbered n W ≡ true → numbered n (ended m) ≡ false) → not_waiting (arrived m) W ≡ ended m
not_waiting-from W [] i o = refl
not_waiting-from W (wait c ∷ m) i o =
    ap (λ (b : Bool). cond b (not_waiting (arrived m) W) (c ∷ not_waiting (arrived m) W)) (i c.number (numbered_head c (waits m)))
    ∙ not_waiting-from W m (λ n e. i n (numbered_tail n c (waits m) e)) o
not_waiting-from W (land c ∷ m) i o =
    ap (λ (b : Bool). cond b (not_waiting (arrived m) W) (c ∷ not_waiting (arrived m) W)) (waits_not W c (ended m) o) ∙ ap (λ (r : List Change). c ∷ r) (not_waiting-from W m i (ended_tail W c (ended m) o))
not_waiting-from W (reject c ∷ m) i o =
    ap (λ (b : Bool). cond b (not_waiting (arrived m) W) (c ∷ not_waiting (arrived m) W)) (waits_not W c (ended m) o) ∙ ap (λ (r : List Change). c ∷ r) (not_waiting-from W m i (ended_tail W c (ended m) o))

pub not_waiting_is : (m : List Mark) → Distinct (arrived m) → not_waiting (arrived m) (waits m) ≡ ended m
not_waiting_is m u = not_waiting-from (waits m) m (λ n e. e) (numbers_apart m u)

-- a new number leaves numbers distinct
pub distinct_push : (cs : List Change) (c : Change) → Distinct cs → numbered c.number cs ≡ false → Distinct (cs ++ c ∷ [])
distinct_push [] c u e = (refl, tt)
distinct_push (d ∷ cs) c u e = (
  numbered_push d.number cs c ∙ or_from (eqb c.number d.number) (numbered d.number cs) (ne_eqb c.number d.number (λ q. eqb-false d.number c.number (neither_left (eqb d.number c.number) (numbered c.number cs) e) (sym q))) u.0,
  distinct_push cs c u.1 (neither_right (eqb d.number c.number) (numbered c.number cs) e),
)

-- a change that arrives waits behind all
pub sound-wait : (f : Bench) (m : List Mark) (c : Change) (xs ws : List Change) → Sound f xs ws m → Sound f xs ws (m ++ wait c ∷ [])
sound-wait f [] c xs ws k = tt
sound-wait f (wait d ∷ m) c xs ws k = sound-wait f m c xs (ws ++ d ∷ []) k
sound-wait f (land d ∷ m) c xs ws k = (k.0, sound-wait f m c (xs ++ d ∷ []) ws k.1)
sound-wait f (reject d ∷ m) c xs ws k = (k.0, sound-wait f m c xs ws k.1)

-- a change is withdrawn
abbrev pub leave : ℕ → List Mark → List Mark
leave n [] = []
leave n (wait c ∷ m) = cond (eqb c.number n) m (wait c ∷ leave n m)
leave n (land c ∷ m) = land c ∷ leave n m
leave n (reject c ∷ m) = reject c ∷ leave n m

-- only those that wait and those that arrived are fewer by it
pub waits-leave : (n : ℕ) (m : List Mark) → waits (leave n m) ≡ dropped n (waits m)
waits-leave n [] = refl
waits-leave n (wait c ∷ m) = go (waits-leave n m) (eqb c.number n)
  where
    go : waits (leave n m) ≡ dropped n (waits m) → (b : Bool) → waits (cond b m (wait c ∷ leave n m)) ≡ cond b (waits m) (c ∷ dropped n (waits m))
    go ih true = refl
    go ih false = ap (λ (r : List Change). c ∷ r) ih
waits-leave n (land c ∷ m) = waits-leave n m
waits-leave n (reject c ∷ m) = waits-leave n m

pub lands-leave : (n : ℕ) (m : List Mark) → lands (leave n m) ≡ lands m
lands-leave n [] = refl
lands-leave n (wait c ∷ m) = go (lands-leave n m) (eqb c.number n)
  where
    go : lands (leave n m) ≡ lands m → (b : Bool) → lands (cond b m (wait c ∷ leave n m)) ≡ lands m
    go ih true = refl
    go ih false = ih
lands-leave n (land c ∷ m) = ap (λ (r : List Change). c ∷ r) (lands-leave n m)
lands-leave n (reject c ∷ m) = lands-leave n m

pub rejects-leave : (n : ℕ) (m : List Mark) → rejects (leave n m) ≡ rejects m
rejects-leave n [] = refl
rejects-leave n (wait c ∷ m) = go (rejects-leave n m) (eqb c.number n)
  where
    go : rejects (leave n m) ≡ rejects m → (b : Bool) → rejects (cond b m (wait c ∷ leave n m)) ≡ rejects m
    go ih true = refl
    go ih false = ih
rejects-leave n (land c ∷ m) = rejects-leave n m
rejects-leave n (reject c ∷ m) = ap (λ (r : List Change). c ∷ r) (rejects-leave n m)

skip_dropped : (n : ℕ) (c : Change) (cs : List Change) → eqb c.number n ≡ false → c ∷ dropped n cs ≡ dropped n (c ∷ cs)
skip_dropped n c cs e = sym (ap (λ (b : Bool). cond b cs (c ∷ dropped n cs)) e)

pub arrived-leave : (n : ℕ) (m : List Mark) → numbered n (ended m) ≡ false → arrived (leave n m) ≡ dropped n (arrived m)
arrived-leave n [] e = refl
arrived-leave n (wait c ∷ m) e = go (arrived-leave n m e) (eqb c.number n)
  where
    go : arrived (leave n m) ≡ dropped n (arrived m) → (b : Bool) → arrived (cond b m (wait c ∷ leave n m)) ≡ cond b (arrived m) (c ∷ dropped n (arrived m))
    go ih true = refl
    go ih false = ap (λ (r : List Change). c ∷ r) ih
arrived-leave n (land c ∷ m) e = ap (λ (r : List Change). c ∷ r) (arrived-leave n m (neither_right (eqb c.number n) (numbered n (ended m)) e)) ∙ skip_dropped n c (arrived m) (neither_left (eqb c.number n) (numbered n (ended m)) e)
arrived-leave n (reject c ∷ m) e = ap (λ (r : List Change). c ∷ r) (arrived-leave n m (neither_right (eqb c.number n) (numbered n (ended m)) e)) ∙ skip_dropped n c (arrived m) (neither_left (eqb c.number n) (numbered n (ended m)) e)

pub sound-leave : (f : Bench) (n : ℕ) (m : List Mark) (xs ws : List Change) → Sound f xs ws m → Sound f xs ws (leave n m)
sound-leave f n [] xs ws k = tt
sound-leave f n (wait c ∷ m) xs ws k = go (sound-leave f n m xs (ws ++ c ∷ []) k) (eqb c.number n)
  where
    go : Sound f xs (ws ++ c ∷ []) (leave n m) → (b : Bool) → Sound f xs ws (cond b m (wait c ∷ leave n m))
    go ih true = subst (λ (w : List Change). Sound f xs w m) (append-nil ws) (sound_gone f m xs ws c [] k)
    go ih false = ih
sound-leave f n (land d ∷ m) xs ws k = (k.0, sound-leave f n m (xs ++ d ∷ []) ws k.1)
sound-leave f n (reject d ∷ m) xs ws k = (k.0, sound-leave f n m xs ws k.1)

pub numbered-dropped : (i n : ℕ) (cs : List Change) → numbered i cs ≡ false → numbered i (dropped n cs) ≡ false
numbered-dropped i n [] e = e
numbered-dropped i n (c ∷ cs) e = go (numbered-dropped i n cs (neither_right (eqb c.number i) (numbered i cs) e)) (eqb c.number n)
  where
    go : numbered i (dropped n cs) ≡ false → (b : Bool) → numbered i (cond b cs (c ∷ dropped n cs)) ≡ false
    go ih true = neither_right (eqb c.number i) (numbered i cs) e
    go ih false = or_from (eqb c.number i) (numbered i (dropped n cs)) (neither_left (eqb c.number i) (numbered i cs) e) ih

pub distinct-dropped : (n : ℕ) (cs : List Change) → Distinct cs → Distinct (dropped n cs)
distinct-dropped n [] u = tt
distinct-dropped n (c ∷ cs) u = go (distinct-dropped n cs u.1) (eqb c.number n)
  where
    go : Distinct (dropped n cs) → (b : Bool) → Distinct (cond b cs (c ∷ dropped n cs))
    go ih true = u.1
    go ih false = (numbered-dropped c.number n cs u.0, ih)
