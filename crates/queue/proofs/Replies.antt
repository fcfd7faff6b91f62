-- Laws of checks made one after another: where one refuses, its refusal is the reply; where all pass, the event is taken.
use Rattle.std.proofs.Common.{◌≡◌, ℕ, List, Some, None, Err, Result, ap, ◌∙◌, subst}
use Rattle.queue.specs.Refusals.{Check, then}
use Rattle.queue.specs.Entry.{Reply, Replies, unless_refused}
use Rattle.queue.specs.declared.reply.Refusal.{Refusal}

-- the first of two checks refuses
pub first : {r : Refusal} {k : Check} (d : Check) → Some r ≡ k → Some r ≡ then k d
first d e = ap (λ (x : Check). then x d) e

-- the first of two passes, and the second says x
pub next : {x k d : Check} → None ≡ k → x ≡ d → x ≡ then k d
next {x} {k} {d} e f = f ∙ ap (λ (y : Check). then y d) e

-- the reply to a refusal
pub stops : {A : Type 0} {c : Result A Refusal} {r : Refusal} {q : Reply} {k : Check} (xs : List ℕ) (t : Reply × List ℕ) → c ≡ Err r → Replies c q → Some r ≡ k → (q, xs) ≡ unless_refused k xs t
stops {A} {c} {r} {q} xs t e f g =
    let is : q ≡ Err r = subst (λ (x : Result A Refusal). Replies x q) e f in
    ap (λ (x : Reply). (x, xs)) is ∙ ap (λ (x : Check). unless_refused x xs t) g

-- no check refuses
pub goes_on : {k : Check} (xs : List ℕ) (y t : Reply × List ℕ) → None ≡ k → y ≡ t → y ≡ unless_refused k xs t
goes_on xs y t e f = f ∙ ap (λ (x : Check). unless_refused x xs t) e

-- the first of two checks does not refuse: what the second makes of it
pub passes : {k : Check} (d : Check) (xs : List ℕ) (y t : Reply × List ℕ) → None ≡ k → y ≡ unless_refused d xs t → y ≡ unless_refused (then k d) xs t
passes d xs y t e f = f ∙ ap (λ (x : Check). unless_refused (then x d) xs t) e
