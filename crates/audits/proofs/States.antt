-- The first fault among states that are looked at one after another.
use Rattle.std.proofs.Common.{◌≡◌, ℕ, ◌+◌, ◌<◌, Bool, cond, List, [], ◌∷◌, ◌++◌, map, length, get_or, take, drop, is_some, Some, None, Option, sym, refl, ap, ◌∙◌, arith, length-append}
use Rattle.std.specs.List.{sum_by}
use Rattle.std.specs.Option.{option_map}
use Rattle.std.proofs.lemmas.List.{drop_more, length-take-le, map_push, take_more}
use Rattle.std.proofs.lemmas.List.Sums.{sum_by-cons}
use Rattle.change.specs.Change.{Change}
use Rattle.change.specs.Records.{change_of}
use Rattle.change.specs.declared.change.Change as declared
use Rattle.run.specs.Run.{Run, Verdict}
use Rattle.run.specs.declared.known.Known.TheVariants.{Nothing, Good, Bad}
use Rattle.audits.specs.Audit.{fault_of, faulty, first_fault, log_says, states_at, states_from}
use Rattle.audits.specs.declared.fault.Fault as code

-- the first fault among some states, else the first among the others
pub fault_else : (vs : List Verdict) (xs ys : List Run) → first_fault vs (xs ++ ys) ≡ cond (is_some (first_fault vs xs)) (first_fault vs xs) (first_fault vs ys)
fault_else vs [] ys = refl
fault_else vs (r ∷ rs) ys =
    elim (log_says r vs) as (λ k. faulty k r (first_fault vs (rs ++ ys)) ≡ cond (is_some (faulty k r (first_fault vs rs))) (faulty k r (first_fault vs rs)) (first_fault vs ys)) [
      | Nothing ↦ refl
      | Good ↦ fault_else vs rs ys
      | Bad ↦ refl
    ]

-- what is made of the elements from the i-th on: what is made of that one, and of the others
mapped_more : {X Y : Type 0} (f : X → Y) (xs : List X) (i : ℕ) (x : X) → i < length xs → x ≡ get_or xs i x → map f (drop i xs) ≡ f x ∷ map f (drop (i + 1) xs)
mapped_more f xs i x lt is = ap (map f) (drop_more xs i x lt ∙ ap (λ y. y ∷ drop (i + 1) xs) (sym is))

-- the states of a main line from the i-th change on: those of this change, and those of the others
pub states_more : (main : List declared.Change) (i : ℕ) (x : declared.Change) → i < length main → x ≡ get_or main i x →
    states_from (map change_of (take i main)) (map change_of (drop i main))
    ≡ states_at (map change_of (take (i + 1) main)) (change_of x).parts ++ states_from (map change_of (take (i + 1) main)) (map change_of (drop (i + 1) main))
states_more main i x lt is =
    let t : map change_of (take (i + 1) main) ≡ map change_of (take i main) ++ change_of x ∷ [] =
    ap (map change_of) (take_more main i x lt ∙ ap (λ y. take i main ++ y ∷ []) (sym is)) ∙ map_push change_of (take i main) x in
    ap (states_from (map change_of (take i main))) (mapped_more change_of main i x lt is)
    ∙ ap (λ before. states_at before (change_of x).parts ++ states_from before (map change_of (drop (i + 1) main))) (sym t)

-- what the audit finds from the i-th change on: what is found among this change's states, else what it finds from the next
pub audited_more : (vs : List Verdict) (main : List declared.Change) (i : ℕ) (x : declared.Change) (ps : List ℕ) (found : Option code.Fault) (b : Bool) → i < length main → x ≡ get_or main i x →
    ps ≡ (change_of x).parts → option_map fault_of found ≡ first_fault vs (states_at (map change_of (take (i + 1) main)) ps) → b ≡ is_some found →
    first_fault vs (states_from (map change_of (take i main)) (map change_of (drop i main)))
    ≡ cond b (option_map fault_of found) (first_fault vs (states_from (map change_of (take (i + 1) main)) (map change_of (drop (i + 1) main))))
audited_more vs main i x ps found b lt is parts here some =
    let before = map change_of (take (i + 1) main) in
    let rest = states_from before (map change_of (drop (i + 1) main)) in
    ap (first_fault vs) (states_more main i x lt is ∙ ap (λ l. states_at before l ++ rest) (sym parts))
    ∙ (fault_else vs (states_at before ps) rest
    ∙ (ap (λ o. cond (is_some o) o (first_fault vs rest)) (sym here) ∙ (ap (λ t. cond t (option_map fault_of found) (first_fault vs rest)) (still found ∙ sym some))))
  where
    still : (o : Option code.Fault) → is_some (option_map fault_of o) ≡ is_some o
    still None = refl
    still (Some f) = refl

-- each part has one state
length-states_at : (main : List Change) (ps : List ℕ) → length (states_at main ps) ≡ length ps
length-states_at main [] = refl
length-states_at main (p ∷ ps) = let h = length-states_at main ps in omega arith

pub states_count : (before : List Change) (cs : List declared.Change) → length (states_from before (map change_of cs)) ≡ sum_by (λ c. c.count) cs
states_count before [] = refl
states_count before (c ∷ cs) =
    let more = before ++ change_of c ∷ [] in
    let all = length-append (states_at more (change_of c).parts) (states_from more (map change_of cs)) in
    let here = length-states_at more (change_of c).parts in
    let few = c.few in
    let long = c.long in
    let parts : length (change_of c).parts ≡ c.count = length-take-le c.count c.parts (omega arith) in
    let rest = states_count more cs in
    let sum = sum_by-cons (λ d. d.count) c cs in
    omega (arith, all, here, parts, rest, sum)
