-- The log read from its front, verdict by verdict, says what its definition says.
use Rattle.std.proofs.Common.{◌≡◌, cond, List, [], ◌∷◌, refl, arith}
use Rattle.std.proofs.lemmas.Grind.{common_steps}
use Rattle.run.specs.Run.{Run, Verdict, same_run}
use Rattle.run.specs.declared.known.Known.{Known}
use Rattle.run.specs.declared.known.Known.TheVariants.{Nothing, Good, Bad}
use Rattle.audits.specs.Audit.{said_good, said_bad, log_says}

-- bad as soon as one verdict on the run is, and `k` if none is on the run
abbrev pub reading : Known → Run → List Verdict → Known
reading k r [] = k
reading k r (v ∷ vs) = cond (same_run r v.run) (cond v.good (reading Good r vs) Bad) (reading k r vs)

reading_else : (k : Known) (r : Run) (vs : List Verdict) → reading k r vs ≡ cond (said_bad r vs) Bad (cond (said_good r vs) Good k)
reading_else k r [] = refl
reading_else k r (v ∷ vs) = grind (arith, common_steps, reading_else k r vs, reading_else Good r vs)

pub reading_is : (r : Run) (vs : List Verdict) → reading Nothing r vs ≡ log_says r vs
reading_is r vs = reading_else Nothing r vs
