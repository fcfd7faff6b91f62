-- Laws of a queue by its sections: cutting a slice into them, joining them, and writing over one of them.
use Rattle.std.proofs.Common.{◌≡◌, ℕ, ◌+◌, ◌*◌, ◌<◌, ◌≤◌, List, [], ◌∷◌, ◌++◌, length, get_or, take, drop, sym, refl, ap, ◌∙◌, arith, length-append, length-drop, take-append-drop}
use borrow.Rule.Slice.PartMut.{put_mid}
use Rattle.std.proofs.lemmas.List.FromFn.{fill_by_all}
use lib.Seq.{take-append-add, drop-append-add}
use Rattle.std.proofs.lemmas.List.{length-take-le, append_assoc, take_at, drop_at, drop-drop, get_or-take}
use Rattle.change.specs.Records.{change_width}
use Rattle.run.specs.Records.{run_width, verdict_width}
use Rattle.run.specs.Layout.{most_landed, most_waiting, most_rejected, most_verdicts, most_running, benches_at, depth_at, landed_count, waiting_count, rejected_count, verdicts_count, running_count, requested_at, landed_at, waiting_at, rejected_at, verdicts_at, running_at, queue_length}
use Rattle.run.specs.Numbers.{Sections, sections, whole}

-- each section is as long as the layout says
pub record Sized (s : Sections) : Type 0 where
  pub counters : length s.counters ≡ landed_at
  pub landed : length s.landed ≡ change_width * most_landed
  pub waiting : length s.waiting ≡ change_width * most_waiting
  pub rejected : length s.rejected ≡ change_width * most_rejected
  pub verdicts : length s.verdicts ≡ verdict_width * most_verdicts
  pub running : length s.running ≡ run_width * most_running

-- the sections with one of them replaced
abbrev pub counters_as : List ℕ → Sections → Sections
counters_as ys s = record { counters = ys; landed = s.landed; waiting = s.waiting; rejected = s.rejected; verdicts = s.verdicts; running = s.running; behind = s.behind }

abbrev pub landed_as : List ℕ → Sections → Sections
landed_as ys s = record { counters = s.counters; landed = ys; waiting = s.waiting; rejected = s.rejected; verdicts = s.verdicts; running = s.running; behind = s.behind }

abbrev pub waiting_as : List ℕ → Sections → Sections
waiting_as ys s = record { counters = s.counters; landed = s.landed; waiting = ys; rejected = s.rejected; verdicts = s.verdicts; running = s.running; behind = s.behind }

abbrev pub rejected_as : List ℕ → Sections → Sections
rejected_as ys s = record { counters = s.counters; landed = s.landed; waiting = s.waiting; rejected = ys; verdicts = s.verdicts; running = s.running; behind = s.behind }

abbrev pub verdicts_as : List ℕ → Sections → Sections
verdicts_as ys s = record { counters = s.counters; landed = s.landed; waiting = s.waiting; rejected = s.rejected; verdicts = ys; running = s.running; behind = s.behind }

abbrev pub running_as : List ℕ → Sections → Sections
running_as ys s = record { counters = s.counters; landed = s.landed; waiting = s.waiting; rejected = s.rejected; verdicts = s.verdicts; running = ys; behind = s.behind }

-- pieces one after another in front of a list, and how long they are together
abbrev pieces : List (List ℕ) → List ℕ → List ℕ
pieces [] xs = xs
pieces (p ∷ ps) xs = p ++ pieces ps xs

abbrev lengths : List (List ℕ) → ℕ
lengths [] = 0
lengths (p ∷ ps) = length p + lengths ps

-- what stands behind pieces, the piece next to them, and the pieces with another list behind them
drop-behind : (ps : List (List ℕ)) (xs : List ℕ) (a : ℕ) → lengths ps ≡ a → drop a (pieces ps xs) ≡ xs
drop-behind [] xs a e = ap (λ u. drop u xs) (sym e)
drop-behind (p ∷ ps) xs a e = ap (λ u. drop u (p ++ pieces ps xs)) (sym e) ∙ (drop-append-add p (pieces ps xs) (lengths ps) ∙ drop-behind ps xs (lengths ps) refl)

take_behind : (ps : List (List ℕ)) (q r : List ℕ) (a k : ℕ) → lengths ps ≡ a → length q ≡ k → take k (drop a (pieces ps (q ++ r))) ≡ q
take_behind ps q r a k e f = ap (take k) (drop-behind ps (q ++ r) a e) ∙ take_at q r k f

take_front : (ps : List (List ℕ)) (xs ys : List ℕ) (a : ℕ) → lengths ps ≡ a → take a (pieces ps xs) ++ ys ≡ pieces ps ys
take_front [] xs ys a e = ap (λ u. take u xs ++ ys) (sym e)
take_front (p ∷ ps) xs ys a e =
    ap (λ u. take u (p ++ pieces ps xs) ++ ys) (sym e)
    ∙ (ap (λ l. l ++ ys) (take-append-add p (pieces ps xs) (lengths ps)) ∙ (append_assoc p (take (lengths ps) (pieces ps xs)) ys ∙ ap (λ l. p ++ l) (take_front ps xs ys (lengths ps) refl)))

-- a piece that is written over, behind any number of others
put_behind : (ps : List (List ℕ)) (q r ys : List ℕ) (a k : ℕ) → lengths ps ≡ a → length q ≡ k → put_mid a k (pieces ps (q ++ r)) ys ≡ pieces ps (ys ++ r)
put_behind ps q r ys a k e f =
    take_front ps (q ++ r) (ys ++ drop k (drop a (pieces ps (q ++ r)))) a e
    ∙ ap (λ l. pieces ps (ys ++ l)) (ap (drop k) (drop-behind ps (q ++ r) a e) ∙ drop_at q r k f)

-- what stands in front of each section, and that it is as long as the layout says
abbrev before_landed : Sections → List (List ℕ)
before_landed s = s.counters ∷ []

abbrev before_waiting : Sections → List (List ℕ)
before_waiting s = s.counters ∷ s.landed ∷ []

abbrev before_rejected : Sections → List (List ℕ)
before_rejected s = s.counters ∷ s.landed ∷ s.waiting ∷ []

abbrev before_verdicts : Sections → List (List ℕ)
before_verdicts s = s.counters ∷ s.landed ∷ s.waiting ∷ s.rejected ∷ []

abbrev before_running : Sections → List (List ℕ)
before_running s = s.counters ∷ s.landed ∷ s.waiting ∷ s.rejected ∷ s.verdicts ∷ []

abbrev before_behind : Sections → List (List ℕ)
before_behind s = s.counters ∷ s.landed ∷ s.waiting ∷ s.rejected ∷ s.verdicts ∷ s.running ∷ []

landed_begins : (s : Sections) → Sized s → lengths (before_landed s) ≡ landed_at
landed_begins s z = omega (arith, z.counters)

waiting_begins : (s : Sections) → Sized s → lengths (before_waiting s) ≡ waiting_at
waiting_begins s z = omega (arith, z.counters, z.landed)

rejected_begins : (s : Sections) → Sized s → lengths (before_rejected s) ≡ rejected_at
rejected_begins s z = omega (arith, z.counters, z.landed, z.waiting)

verdicts_begins : (s : Sections) → Sized s → lengths (before_verdicts s) ≡ verdicts_at
verdicts_begins s z = omega (arith, z.counters, z.landed, z.waiting, z.rejected)

running_begins : (s : Sections) → Sized s → lengths (before_running s) ≡ running_at
running_begins s z = omega (arith, z.counters, z.landed, z.waiting, z.rejected, z.verdicts)

behind_begins : (s : Sections) → Sized s → lengths (before_behind s) ≡ queue_length
behind_begins s z = omega (arith, z.counters, z.landed, z.waiting, z.rejected, z.verdicts, z.running)

-- how a section is written over
pub put_landed : (s : Sections) (ys : List ℕ) → Sized s → put_mid landed_at (change_width * most_landed) (whole s) ys ≡ whole (landed_as ys s)
put_landed s ys z = put_behind (before_landed s) s.landed _ ys landed_at (change_width * most_landed) (landed_begins s z) z.landed

pub put_waiting : (s : Sections) (ys : List ℕ) → Sized s → put_mid waiting_at (change_width * most_waiting) (whole s) ys ≡ whole (waiting_as ys s)
put_waiting s ys z = put_behind (before_waiting s) s.waiting _ ys waiting_at (change_width * most_waiting) (waiting_begins s z) z.waiting

pub put_rejected : (s : Sections) (ys : List ℕ) → Sized s → put_mid rejected_at (change_width * most_rejected) (whole s) ys ≡ whole (rejected_as ys s)
put_rejected s ys z = put_behind (before_rejected s) s.rejected _ ys rejected_at (change_width * most_rejected) (rejected_begins s z) z.rejected

pub put_verdicts : (s : Sections) (ys : List ℕ) → Sized s → put_mid verdicts_at (verdict_width * most_verdicts) (whole s) ys ≡ whole (verdicts_as ys s)
put_verdicts s ys z = put_behind (before_verdicts s) s.verdicts _ ys verdicts_at (verdict_width * most_verdicts) (verdicts_begins s z) z.verdicts

pub put_running : (s : Sections) (ys : List ℕ) → Sized s → put_mid running_at (run_width * most_running) (whole s) ys ≡ whole (running_as ys s)
put_running s ys z = put_behind (before_running s) s.running _ ys running_at (run_width * most_running) (running_begins s z) z.running

-- counters stand in the first section
pub get_counter : (xs : List ℕ) (k : ℕ) → k < landed_at → get_or (sections xs).counters k 0 ≡ get_or xs k 0
get_counter xs k lt = get_or-take landed_at xs k 0 lt

-- what stands from a section on is the section and what stands behind it
pub cut : (a n b : ℕ) (xs : List ℕ) → b ≡ a + n → take n (drop a xs) ++ drop b xs ≡ drop a xs
cut a n b xs e = ap (λ l. take n (drop a xs) ++ l) (ap (λ u. drop u xs) e ∙ sym (drop-drop n a xs)) ∙ take-append-drop n (drop a xs)

-- a slice cut into sections is these sections joined
pub whole-sections : (xs : List ℕ) → whole (sections xs) ≡ xs
whole-sections xs =
    let s : Sections = sections xs in
    ap (λ l. s.counters ++ (s.landed ++ (s.waiting ++ (s.rejected ++ (s.verdicts ++ l))))) (cut running_at (run_width * most_running) queue_length xs refl)
    ∙ (ap (λ l. s.counters ++ (s.landed ++ (s.waiting ++ (s.rejected ++ l)))) (cut verdicts_at (verdict_width * most_verdicts) running_at xs refl)
    ∙ (ap (λ l. s.counters ++ (s.landed ++ (s.waiting ++ l))) (cut rejected_at (change_width * most_rejected) verdicts_at xs refl)
    ∙ (ap (λ l. s.counters ++ (s.landed ++ l)) (cut waiting_at (change_width * most_waiting) rejected_at xs refl)
    ∙ (ap (λ l. s.counters ++ l) (cut landed_at (change_width * most_landed) waiting_at xs refl) ∙ take-append-drop landed_at xs))))

pub sized_sections : (xs : List ℕ) → queue_length ≤ length xs → Sized (sections xs)
sized_sections xs le =
    let long : (a n : ℕ) → a + n ≤ length xs → length (take n (drop a xs)) ≡ n = λ a n h. length-take-le n (drop a xs) (omega (arith, length-drop a xs)) in
    record {
      counters = length-take-le landed_at xs (omega arith);
      landed = long landed_at (change_width * most_landed) (omega arith);
      waiting = long waiting_at (change_width * most_waiting) (omega arith);
      rejected = long rejected_at (change_width * most_rejected) (omega arith);
      verdicts = long verdicts_at (verdict_width * most_verdicts) (omega arith);
      running = long running_at (run_width * most_running) (omega arith);
    }

-- sections of the right lengths, joined, are cut where they were joined
pub sections-whole : (s : Sections) → Sized s → sections (whole s) ≡ s
sections-whole s z =
    let counters = take_at s.counters _ landed_at z.counters in
    let landed = take_behind (before_landed s) s.landed _ landed_at (change_width * most_landed) (landed_begins s z) z.landed in
    let waiting = take_behind (before_waiting s) s.waiting _ waiting_at (change_width * most_waiting) (waiting_begins s z) z.waiting in
    let rejected = take_behind (before_rejected s) s.rejected _ rejected_at (change_width * most_rejected) (rejected_begins s z) z.rejected in
    let verdicts = take_behind (before_verdicts s) s.verdicts _ verdicts_at (verdict_width * most_verdicts) (verdicts_begins s z) z.verdicts in
    let running = take_behind (before_running s) s.running _ running_at (run_width * most_running) (running_begins s z) z.running in
    let behind = drop-behind (before_behind s) s.behind queue_length (behind_begins s z) in
    λ i. record { counters = counters i; landed = landed i; waiting = waiting i; rejected = rejected i; verdicts = verdicts i; running = running i; behind = behind i }

-- the counters, one by one
pub counters_are : (xs : List ℕ) → queue_length ≤ length xs →
    (sections xs).counters ≡ get_or xs benches_at 0 ∷ get_or xs depth_at 0 ∷ get_or xs landed_count 0 ∷ get_or xs waiting_count 0 ∷ get_or xs rejected_count 0 ∷ get_or xs verdicts_count 0 ∷ get_or xs running_count 0 ∷ get_or xs requested_at 0 ∷ []
counters_are xs long = fill_by_all (λ k. get_or xs k 0) (sections xs).counters landed_at 0 (sized_sections xs long).counters (get_counter xs)

-- sections of the right lengths, joined, are long enough
pub long-whole : (s : Sections) → Sized s → queue_length ≤ length (whole s)
long-whole s z =
    let r₅ : List ℕ = s.running ++ s.behind in
    let r₄ : List ℕ = s.verdicts ++ r₅ in
    let r₃ : List ℕ = s.rejected ++ r₄ in
    let r₂ : List ℕ = s.waiting ++ r₃ in
    let r₁ : List ℕ = s.landed ++ r₂ in
    omega
    (arith, length-append s.counters r₁, length-append s.landed r₂, length-append s.waiting r₃, length-append s.rejected r₄, length-append s.verdicts r₅, length-append s.running s.behind, z)
