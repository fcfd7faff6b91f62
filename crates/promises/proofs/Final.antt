-- What is decided stays decided, and the config does not matter once nobody waits. Assumes nothing.
use Rattle.std.proofs.Common.{◌≡◌, List, [], ◌∷◌, ◌++◌, length, take, sym, refl, ap, ◌∙◌, ap₂, append_assoc, append-nil}
use Rattle.std.proofs.lemmas.List.{take_at}
use Rattle.change.specs.Change.{Change, line, numbered}
use Rattle.run.specs.State.{Config, Queue, empty}
use Rattle.serial.specs.Serial.{serial_landed, serial_rejected}
use Rattle.plan.specs.Plan.{planned}
use Rattle.queue.specs.Queue.{Event, submit, withdraw, report, recorded, decided, step, replayed}
use Rattle.promises.specs.Day.{logged, not_waiting}
use Rattle.promises.specs.Promises.{ConfigIndependent, DecisionsFinal}
use Rattle.promises.proofs.Pass.{pass_all}
use Rattle.promises.proofs.Days.{day_keeps}
use Rattle.promises.proofs.Main.{serial_equivalence}

-- L and B begin with what had landed and what was rejected
record Since (L₀ B₀ L W B : List Change) : Type 0 where
  pub landed : List Change
  pub rejected : List Change
  pub landed_is : L ≡ L₀ ++ landed
  pub rejected_is : B ≡ B₀ ++ rejected

abbrev SinceIn : Queue → Queue → Type 0
SinceIn q r = Since q.landed q.rejected r.landed r.waiting r.rejected

-- the pass, recording and requesting only add behind them
since_decided : (q r : Queue) → SinceIn q r → SinceIn q (decided r)
unfolding decided
since_decided q r m =
    pass_all r.verdicts (Since q.landed q.rejected)
    (λ L W₁ c W₂ B e h. record { landed = h.landed ++ c ∷ []; rejected = h.rejected; landed_is = ap (λ (X : List Change). X ++ c ∷ []) h.landed_is ∙ append_assoc q.landed h.landed (c ∷ []); rejected_is = h.rejected_is })
    (λ L W₁ c W₂ B e h. record { landed = h.landed; rejected = h.rejected ++ c ∷ []; landed_is = h.landed_is; rejected_is = ap (λ (X : List Change). X ++ c ∷ []) h.rejected_is ∙ append_assoc q.rejected h.rejected (c ∷ []) })
    r.landed r.waiting r.rejected m

since_recorded : (q r : Queue) (e : Event) → SinceIn q r → SinceIn q (recorded r e)
unfolding recorded
since_recorded q r (submit c) m = record { landed = m.landed; rejected = m.rejected; landed_is = m.landed_is; rejected_is = m.rejected_is }
since_recorded q r (withdraw n) m = record { landed = m.landed; rejected = m.rejected; landed_is = m.landed_is; rejected_is = m.rejected_is }
since_recorded q r (report i g) m = m

since_step : (t : Config) (q r : Queue) (e : Event) → SinceIn q r → SinceIn q (step t r e)
unfolding step planned
since_step t q r e m = since_decided q (recorded r e) (since_recorded q r e m)

since_day : (t : Config) (q : Queue) (es : List Event) → SinceIn q (replayed t q es)
since_day t q es = day_keeps t (SinceIn q) (λ r e a m. since_step t q r e m) es q
    (record { landed = []; rejected = []; landed_is = sym (append-nil q.landed); rejected_is = sym (append-nil q.rejected) })

pub decisions_final : DecisionsFinal
decisions_final t q es = (
  ap (take (length q.landed)) m.landed_is ∙ take_at q.landed m.landed (length q.landed) refl,
  ap (take (length q.rejected)) m.rejected_is ∙ take_at q.rejected m.rejected (length q.rejected) refl,
)
  where
    m : SinceIn q (replayed t q es)
    m = since_day t q es

-- both days are serial testing of the same changes
pub config_independent : ConfigIndependent
config_independent f s t es fs he hf we wf same =
    let one = serial_equivalence f s es he in
    let two = serial_equivalence f t fs hf in (
      λ p. one.0 p ∙ ap (λ (cs : List Change). line p (serial_landed f [] cs)) those ∙ sym (two.0 p),
      λ n. one.1 n ∙ ap (λ (cs : List Change). numbered n (serial_landed f [] cs)) those ∙ sym (two.1 n),
      λ n. one.2 n ∙ ap (λ (cs : List Change). numbered n (serial_rejected f [] cs)) those ∙ sym (two.2 n),
    )
  where
    those : not_waiting (logged s es).arrivals (replayed s empty es).waiting ≡ not_waiting (logged t fs).arrivals (replayed t empty fs).waiting
    those = ap₂ not_waiting same (we ∙ sym wf)
