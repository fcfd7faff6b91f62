-- Which runs are useful, which are kept, and which are requested. Assumes nothing: these are definitions.
use Rattle.std.specs.Prelude.{ℕ, zero, suc, ◌+◌, ◌-◌, Bool, false, cond, not, ◌&&◌, ◌||◌, List, [], ◌∷◌, ◌++◌, length, nat_lt}
use Rattle.change.specs.Change.{Change}
use Rattle.run.specs.Run.{Run, Verdict, same_run, heard, is_unknown, runs_on}
use Rattle.run.specs.State.{Config, Queue}

-- for each of the first `depth` changes that wait, each of its parts with all before it (landed, then waiting) and the change
unfoldable pub useful : ℕ → List Change → List Change → List Run
useful zero before ws = []
useful (suc depth) before [] = []
useful (suc depth) before (c ∷ cs) = runs_on before c.number c.parts ++ useful depth (before ++ c ∷ []) cs

-- the run stands in the list
abbrev pub among : Run → List Run → Bool
among r [] = false
among r (s ∷ ss) = same_run r s || among r ss

-- those that pass a test, in their order
abbrev pub kept : {A : Type 0} → (A → Bool) → List A → List A
kept t [] = []
kept t (x ∷ xs) = cond (t x) (x ∷ kept t xs) (kept t xs)

-- running runs that are not useful are cancelled, verdicts on such runs are dropped
abbrev pub still_running : List Run → List Run → List Run
still_running us rs = kept (λ r. among r us) rs

abbrev pub still_known : List Run → List Verdict → List Verdict
still_known us vs = kept (λ v. among v.run us) vs

-- nothing is known of the run, and it is not running
abbrev pub lacks : List Verdict → List Run → Run → Bool
lacks vs running u = is_unknown (heard u vs) && not (among u running)

-- what runs once these were requested one after another: each that lacks, while fewer than `benches` run
unfoldable pub request : ℕ → List Verdict → List Run → List Run → List Run
request benches vs running [] = running
request benches vs running (u ∷ us) =
    request benches vs (cond (nat_lt (length running) benches && lacks vs running u) (running ++ u ∷ []) running) us

abbrev pub useful_in : Config → Queue → List Run
useful_in t q = useful t.depth q.landed q.waiting

-- these verdicts are held, of these runs that still run, and these run now
abbrev pub with_runs : Queue → List Verdict → List Run → List Run → Queue
with_runs q vs still running = record {
  landed = q.landed;
  waiting = q.waiting;
  rejected = q.rejected;
  verdicts = vs;
  running = running;
  requested = q.requested + (length running - length still);
}

-- what is not useful is cancelled and dropped, then useful runs are requested while a bench is free
unfoldable pub planned : Config → Queue → Queue
planned t q =
    let us = useful_in t q in
    let vs = still_known us q.verdicts in
    let still = still_running us q.running in
    with_runs q vs still (request t.benches vs still us)
