-- The changes of a reachable queue are proper and have numbers of their own; the runs that are known or running are useful and different ones. Assumes nothing.
use Rattle.std.proofs.Common.{◌≡◌, ℕ, zero, suc, ◌+◌, ◌<◌, ◌≤◌, Bool, true, false, cond, not, ◌&&◌, ◌||◌, eqb, ltb, ◌⊎◌, List, [], ◌∷◌, ◌++◌, map, length, get_or, sym, refl, ap, ◌∙◌, subst, ap₂, inl, inr, true≢false, append_assoc, append-nil, arith, length-append}
use mathlib.Core.Bool.{or-true}
use Rattle.std.proofs.lemmas.Bool.{eqb-true, eqb-false, ne_eqb, not-true, or_from, not-false, ltb-true, ltb-false, or_cases, and_cases}
use Rattle.std.specs.List.{AllByRecursion}
use Rattle.std.proofs.ByRecursion.{All-push}
use Rattle.std.proofs.lemmas.List.{length_push, map_push}
use Rattle.run.specs.declared.known.Known.TheVariants.{Good, Bad}
use Rattle.run.proofs.Compared.{same_run_swap}
use Rattle.change.specs.Change.{Change, numbered, dropped, without}
use Rattle.run.specs.Run.{Run, Verdict, same_run, heard, is_unknown}
use Rattle.run.specs.State.{Config, Queue, empty}
use Rattle.plan.specs.Plan.{among, kept, still_running, still_known, lacks, request, useful_in, planned}
use Rattle.queue.specs.Queue.{Event, submit, withdraw, report, used, fresh, proper, roomy, accepts, no_run, answered, recorded, decided, step, replayed}
use Rattle.promises.specs.Day.{held, Different}
use Rattle.promises.specs.Promises.{OnlyUsefulRuns}
use Rattle.promises.proofs.Basics.{clash, not_so, neither_left, neither_right, both_left, both_right, numbered_push, length-place}
use Rattle.promises.proofs.Serial.{all-out, all-at}
use Rattle.promises.proofs.Pass.{pass_all}
use Rattle.promises.proofs.Marks.{numbered-place, Distinct, distinct_push, numbered-dropped, distinct-dropped}
use Rattle.promises.proofs.Days.{day_keeps, fresh-number}
use Rattle.plan.proofs.Among.{among-parts}
use Rattle.promises.proofs.Runs.{among_head, among-left, among_right, among_cases, among_one, among-place, Sub, all_from, among-kept, different-kept, different_push}
use Rattle.promises.proofs.Useful.{Proper, proper_is}

-- CHANGES. L has landed, W waits, B was rejected.
pub record Neat (L W B : List Change) : Type 0 where
  pub landed : AllByRecursion Proper L
  pub waiting : AllByRecursion Proper W
  pub rejected : AllByRecursion Proper B
  pub distinct : Distinct W
  pub apart : (n : ℕ) → numbered n W ≡ true → numbered n L ≡ false

abbrev pub NeatIn : Queue → Type 0
NeatIn q = Neat q.landed q.waiting q.rejected

-- one of distinct numbers is not among the others
distinct-place : (W₁ : List Change) (c : Change) (W₂ : List Change) → Distinct (W₁ ++ c ∷ W₂) → (numbered c.number (W₁ ++ W₂) ≡ false) × Distinct (W₁ ++ W₂)
distinct-place [] c W₂ u = u
distinct-place (w ∷ W₁) c W₂ u =
    let k = distinct-place W₁ c W₂ u.1 in
    let other = sym (numbered-place w.number W₁ c W₂) ∙ u.0 in (
      or_from (eqb w.number c.number) (numbered c.number (W₁ ++ W₂))
          (ne_eqb w.number c.number (λ e. eqb-false c.number w.number (neither_left (eqb c.number w.number) (numbered w.number (W₁ ++ W₂)) other) (sym e))) k.0,
      (neither_right (eqb c.number w.number) (numbered w.number (W₁ ++ W₂)) other, k.1),
    )

numbered_still : (n : ℕ) (W₁ : List Change) (c : Change) (W₂ : List Change) → numbered n (W₁ ++ W₂) ≡ true → numbered n (W₁ ++ c ∷ W₂) ≡ true
numbered_still n W₁ c W₂ e = numbered-place n W₁ c W₂ ∙ ap (◌||◌ (eqb c.number n)) e ∙ or-true (eqb c.number n)

-- a decision keeps changes neat
pub neat-land : (L W₁ : List Change) (c : Change) (W₂ B : List Change) → Neat L (W₁ ++ c ∷ W₂) B → Neat (L ++ c ∷ []) (W₁ ++ W₂) B
neat-land L W₁ c W₂ B k = record {
  landed = All-push Proper L c k.landed (all-at Proper W₁ c W₂ k.waiting);
  waiting = all-out Proper W₁ c W₂ k.waiting;
  rejected = k.rejected;
  distinct = (distinct-place W₁ c W₂ k.distinct).1;
  apart = λ n e. numbered_push n L c ∙ or_from (eqb c.number n) (numbered n L)
      (ne_eqb c.number n (λ j. clash (subst (λ (x : ℕ). numbered x (W₁ ++ W₂) ≡ true) (sym j) e) (distinct-place W₁ c W₂ k.distinct).0))
      (k.apart n (numbered_still n W₁ c W₂ e));
}

pub neat-reject : (L W₁ : List Change) (c : Change) (W₂ B : List Change) → Neat L (W₁ ++ c ∷ W₂) B → Neat L (W₁ ++ W₂) (B ++ c ∷ [])
neat-reject L W₁ c W₂ B k = record {
  landed = k.landed;
  waiting = all-out Proper W₁ c W₂ k.waiting;
  rejected = All-push Proper B c k.rejected (all-at Proper W₁ c W₂ k.waiting);
  distinct = (distinct-place W₁ c W₂ k.distinct).1;
  apart = λ n e. k.apart n (numbered_still n W₁ c W₂ e);
}

neat-decided : (q : Queue) → NeatIn q → NeatIn (decided q)
unfolding decided
neat-decided q k = pass_all q.verdicts Neat (λ L W₁ c W₂ B e h. neat-land L W₁ c W₂ B h) (λ L W₁ c W₂ B e h. neat-reject L W₁ c W₂ B h) q.landed q.waiting q.rejected k

all-dropped : (P : Change → Type 0) (n : ℕ) (cs : List Change) → AllByRecursion P cs → AllByRecursion P (dropped n cs)
all-dropped P n [] s = tt
all-dropped P n (c ∷ cs) s = go (all-dropped P n cs s.1) (eqb c.number n)
  where
    go : AllByRecursion P (dropped n cs) → (b : Bool) → AllByRecursion P (cond b cs (c ∷ dropped n cs))
    go ih true = s.1
    go ih false = (s.0, ih)

accepts-proper : (t : Config) (q : Queue) (c : Change) → accepts t q (submit c) ≡ true → Proper c
unfolding accepts
accepts-proper t q c a = proper_is c (both_left (proper c) (roomy q) (both_right (fresh q c.number) (proper c && roomy q) a))

-- recording an event that is taken keeps them neat
pub neat-recorded : (t : Config) (q : Queue) (e : Event) → accepts t q e ≡ true → NeatIn q → NeatIn (recorded q e)
unfolding recorded
neat-recorded t q (submit c) a k = record {
  landed = k.landed;
  waiting = All-push Proper q.waiting c k.waiting (accepts-proper t q c a);
  rejected = k.rejected;
  distinct = distinct_push q.waiting c k.distinct (neither_left (numbered n q.waiting) (numbered n q.rejected) (neither_right (numbered n q.landed) (numbered n q.waiting || numbered n q.rejected) new));
  apart = λ m e. elim (or_cases (eqb n m) (numbered m q.waiting) (sym (numbered_push m q.waiting c) ∙ e)) [
    | inl j ↦ subst (λ (x : ℕ). numbered x q.landed ≡ false) (eqb-true n m j) (neither_left (numbered n q.landed) (numbered n q.waiting || numbered n q.rejected) new)
    | inr j ↦ k.apart m j
  ];
}
  where
    n : ℕ
    n = c.number

    new : used n q.landed q.waiting q.rejected ≡ false
    new = fresh-number t q c a
neat-recorded t q (withdraw n) a k = record {
  landed = k.landed;
  waiting = all-dropped Proper n q.waiting k.waiting;
  rejected = k.rejected;
  distinct = distinct-dropped n q.waiting k.distinct;
  apart = λ m e. k.apart m (still m e (numbered m q.waiting) refl);
}
  where
    still : (m : ℕ) → numbered m (dropped n q.waiting) ≡ true → (b : Bool) → numbered m q.waiting ≡ b → numbered m q.waiting ≡ true
    still m e true j = j
    still m e false j = clash e (numbered-dropped m n q.waiting j)
neat-recorded t q (report i g) a k = k

-- RUNS. A run is known if it stands among those that verdicts are on.
abbrev pub known : List Verdict → List Run
known vs = map (λ v. v.run) vs

-- nothing is known of a run if no verdict is on it, and it lacks if it is not held
pub unknown_is : (r : Run) (vs : List Verdict) → is_unknown (heard r vs) ≡ not (among r (known vs))
unknown_is r [] = refl
unknown_is r (v ∷ vs) = go (unknown_is r vs) (same_run r v.run) v.good
  where
    go : is_unknown (heard r vs) ≡ not (among r (known vs)) → (b g : Bool) → is_unknown (cond b (cond g Good Bad) (heard r vs)) ≡ not (b || among r (known vs))
    go ih true true = refl
    go ih true false = refl
    go ih false g = ih

lacks_is : (vs : List Verdict) (rs : List Run) (u : Run) → lacks vs rs u ≡ not (among u (known vs ++ rs))
lacks_is vs rs u = ap (λ (b : Bool). b && not (among u rs)) (unknown_is u vs) ∙ neither (among u (known vs)) (among u rs) ∙ ap not (sym (among-parts u (known vs) rs))
  where
    neither : (a b : Bool) → (not a && not b) ≡ not (a || b)
    neither true b = refl
    neither false b = refl

-- recording a report moves its run from the running to the known
record TakenOut (i : ℕ) (rs : List Run) : Type 0 where
  pub before : List Run
  pub behind : List Run
  pub is : rs ≡ before ++ get_or rs i no_run ∷ behind
  pub left : without i rs ≡ before ++ behind

taken_out : (i : ℕ) (rs : List Run) → i < length rs → TakenOut i rs
taken_out i [] l = absurd (omega arith)
taken_out zero (r ∷ rs) l = record { before = []; behind = rs; is = refl; left = refl }
taken_out (suc i) (r ∷ rs) l =
    let k = taken_out i rs (omega arith) in
    record { before = r ∷ k.before; behind = k.behind; is = ap (λ (xs : List Run). r ∷ xs) k.is; left = ap (λ (xs : List Run). r ∷ xs) k.left }

among_moved : (x : Run) (K A : List Run) (r : Run) (B : List Run) → among x (K ++ r ∷ (A ++ B)) ≡ among x (K ++ (A ++ r ∷ B))
among_moved x K A r B = among-parts x K (r ∷ (A ++ B)) ∙ ap (◌||◌ (among x K)) (sym (among-place x A r B)) ∙ sym (among-parts x K (A ++ r ∷ B))

-- a run that moves leaves the others different
different_moved : (K A : List Run) (r : Run) (B : List Run) → Different (K ++ (A ++ r ∷ B)) → Different (K ++ r ∷ (A ++ B))
different_moved [] [] r B d = d
different_moved [] (x ∷ A) r B d =
    let k = different_moved [] A r B d.1 in
    let other = sym (among-place x A r B) ∙ d.0 in (
      or_from (same_run r x) (among r (A ++ B)) (not_so (same_run r x) (λ e. clash (sym (same_run_swap r x) ∙ e) (neither_left (same_run x r) (among x (A ++ B)) other))) k.0,
      (neither_right (same_run x r) (among x (A ++ B)) other, k.1),
    )
different_moved (k ∷ K) A r B d = (among_moved k K A r B ∙ d.0, different_moved K A r B d.1)

-- the runs held once a report was recorded, one of them moved
pub record Moved (q p : Queue) : Type 0 where
  pub same : (x : Run) → among x (held p) ≡ among x (held q)
  pub different : Different (held q) → Different (held p)
  pub length_is : length (held p) ≡ length (held q)

moved_report : (q : Queue) (i : ℕ) (g : Bool) → i < length q.running → Moved q (answered q i g)
moved_report q i g l = go (taken_out i q.running l)
  where
    r : Run
    r = get_or q.running i no_run

    K : List Run
    K = known q.verdicts

    go : TakenOut i q.running → Moved q (answered q i g)
    go k = record {
      same = λ x. ap (among x) after ∙ among_moved x K k.before r k.behind ∙ ap (λ (rs : List Run). among x (K ++ rs)) (sym k.is);
      different = λ d. subst Different (sym after) (different_moved K k.before r k.behind (subst (λ (rs : List Run). Different (K ++ rs)) k.is d));
      length_is = ap length after ∙ omega (arith, length-append K (r ∷ (k.before ++ k.behind)), length-append K q.running, ap length k.is ∙ length-place k.before r k.behind);
    }
      where
        after : held (answered q i g) ≡ K ++ r ∷ (k.before ++ k.behind)
        after = ap₂ ◌++◌ (map_push (λ (v : Verdict). v.run) q.verdicts (record { run = r; good = g })) k.left ∙ append_assoc K (r ∷ []) (k.before ++ k.behind)

pub moved : (t : Config) (q : Queue) (e : Event) → accepts t q e ≡ true → Moved q (recorded q e)
unfolding recorded accepts
moved t q (submit c) a = record { same = λ x. refl; different = λ d. d; length_is = refl }
moved t q (withdraw n) a = record { same = λ x. refl; different = λ d. d; length_is = refl }
moved t q (report i g) a = moved_report q i g (ltb-true i (length q.running) a)

-- REQUESTS. What holds of the runs that still run, and is kept by one request, holds once all were requested.
request-keeps : (b : ℕ) (vs : List Verdict) (all : List Run) (P : List Run → Type 0) →
    ((rs : List Run) (u : Run) → among u all ≡ true → length rs < b → among u (known vs ++ rs) ≡ false → P rs → P (rs ++ u ∷ [])) →
    (us rs : List Run) → Sub us all → P rs → P (request b vs rs us)
unfolding request
request-keeps b vs all P k [] rs s h = h
request-keeps b vs all P k (u ∷ us) rs s h =
    request-keeps b vs all P k us (cond (ltb (length rs) b && lacks vs rs u) (rs ++ u ∷ []) rs) (λ r e. s r (among_right r (u ∷ []) us e)) (go (ltb (length rs) b && lacks vs rs u) refl)
  where
    go : (x : Bool) → (ltb (length rs) b && lacks vs rs u) ≡ x → P (cond x (rs ++ u ∷ []) rs)
    go true e = k rs u (s u (among_head u us)) (ltb-true (length rs) b (both_left (ltb (length rs) b) (lacks vs rs u) e))
        (not-true (among u (known vs ++ rs)) (sym (lacks_is vs rs u) ∙ both_right (ltb (length rs) b) (lacks vs rs u) e)) h
    go false e = h

-- what was requested beside those that still run
pub record Filled (b : ℕ) (known still us rs : List Run) : Type 0 where
  pub new : List Run
  pub is : rs ≡ still ++ new
  pub useful : Sub new us
  pub different : Different (known ++ rs)
  pub few : length rs ≤ b

-- requests are useful, were not held, and keep to the benches
filled : (b : ℕ) (vs : List Verdict) (us still : List Run) → Different (known vs ++ still) → length still ≤ b → Filled b (known vs) still us (request b vs still us)
filled b vs us still d l = request-keeps b vs us (Filled b (known vs) still us)
    (λ rs u m k o h. record {
      new = h.new ++ u ∷ [];
      is = ap (λ (xs : List Run). xs ++ u ∷ []) h.is ∙ append_assoc still h.new (u ∷ []);
      useful = λ r e. elim (among_cases r h.new (u ∷ []) e) [
        | inl j ↦ h.useful r j
        | inr j ↦ subst (λ (x : Run). among x us ≡ true) (sym (among_one r u j)) m
      ];
      different = subst Different (append_assoc (known vs) rs (u ∷ [])) (different_push (known vs ++ rs) u h.different o);
      few = omega (arith, length_push rs u, k);
    })
    us still (λ r e. e) (record { new = []; is = sym (append-nil still); useful = λ r e. absurd (true≢false (sym e)); different = d; few = l })

-- while a bench is free, every useful run is requested
pub booked : (b : ℕ) (vs : List Verdict) (us rs : List Run) → length (request b vs rs us) < b →
    Sub (known vs ++ rs) (known vs ++ request b vs rs us) × Sub us (known vs ++ request b vs rs us)
unfolding request
booked b vs [] rs l = (λ r e. e, λ r e. absurd (true≢false (sym e)))
booked b vs (u ∷ us) rs l = go (ltb (length rs) b && lacks vs rs u) refl l (booked b vs us)
  where
    all : List Run → List Run
    all ns = known vs ++ request b vs ns us

    -- requesting never takes a run away
    grows : (ns : List Run) → length ns ≤ length (request b vs ns us)
    grows ns = request-keeps b vs us (λ xs. length ns ≤ length xs) (λ xs v m k o h. omega (arith, length_push xs v, h)) us ns (λ r e. e) (omega arith)

    go : (x : Bool) → (ltb (length rs) b && lacks vs rs u) ≡ x → length (request b vs (cond x (rs ++ u ∷ []) rs) us) < b →
        ((ns : List Run) → length (request b vs ns us) < b → Sub (known vs ++ ns) (all ns) × Sub us (all ns)) →
        Sub (known vs ++ rs) (all (cond x (rs ++ u ∷ []) rs)) × Sub (u ∷ us) (all (cond x (rs ++ u ∷ []) rs))
    go true e m ih =
        let k = ih (rs ++ u ∷ []) m in
        let wider : Sub (known vs ++ rs) (known vs ++ (rs ++ u ∷ [])) = λ r h. ap (among r) (sym (append_assoc (known vs) rs (u ∷ []))) ∙ among-left r (known vs ++ rs) (u ∷ []) h in (
          λ r h. k.0 r (wider r h),
          λ r h. elim (among_cases r (u ∷ []) us h) [
            | inl j ↦ k.0 r (among_right r (known vs) (rs ++ u ∷ []) (among_right r rs (u ∷ []) j))
            | inr j ↦ k.1 r j
          ],
        )
    go false e m ih =
        let k = ih rs m in (
          k.0,
          λ r h. elim (among_cases r (u ∷ []) us h) [
            | inl j ↦ k.0 r (subst (λ (x : Run). among x (known vs ++ rs) ≡ true) (sym (among_one r u j)) (there (and_cases (ltb (length rs) b) (lacks vs rs u) e)))
            | inr j ↦ k.1 r j
          ],
        )
      where
        there : (ltb (length rs) b ≡ false) ⊎ (lacks vs rs u ≡ false) → among u (known vs ++ rs) ≡ true
        there (inl j) = absurd (omega (arith, ltb-false (length rs) b j, grows rs, m))
        there (inr j) = not-false (among u (known vs ++ rs)) (sym (lacks_is vs rs u) ∙ j)

-- PLANNING. Verdicts and running runs are kept by one test.
pub kept_append : (test : Run → Bool) (xs ys : List Run) → kept test (xs ++ ys) ≡ kept test xs ++ kept test ys
kept_append test [] ys = refl
kept_append test (x ∷ xs) ys = go (kept_append test xs ys) (test x)
  where
    go : kept test (xs ++ ys) ≡ kept test xs ++ kept test ys → (b : Bool) →
        cond b (x ∷ kept test (xs ++ ys)) (kept test (xs ++ ys)) ≡ cond b (x ∷ kept test xs) (kept test xs) ++ kept test ys
    go ih true = ap (λ (rs : List Run). x ∷ rs) ih
    go ih false = ih

known_still : (us : List Run) (vs : List Verdict) → known (still_known us vs) ≡ kept (λ r. among r us) (known vs)
known_still us [] = refl
known_still us (v ∷ vs) = go (known_still us vs) (among v.run us)
  where
    go : known (still_known us vs) ≡ kept (λ r. among r us) (known vs) → (b : Bool) →
        known (cond b (v ∷ still_known us vs) (still_known us vs)) ≡ cond b (v.run ∷ kept (λ r. among r us) (known vs)) (kept (λ r. among r us) (known vs))
    go ih true = ap (λ (rs : List Run). v.run ∷ rs) ih
    go ih false = ih

length-kept : (test : Run → Bool) (rs : List Run) → length (kept test rs) ≤ length rs
length-kept test [] = omega arith
length-kept test (r ∷ rs) = go (length-kept test rs) (test r)
  where
    go : length (kept test rs) ≤ length rs → (b : Bool) → length (cond b (r ∷ kept test rs) (kept test rs)) ≤ suc (length rs)
    go ih true = omega arith
    go ih false = omega arith

-- the runs held before that are useful still
abbrev pub still_held : Config → Queue → List Run
still_held t q = kept (λ r. among r (useful_in t q)) (held q)

-- so what is kept of both is what is kept of the runs held
still_held_is : (t : Config) (q : Queue) → known (still_known (useful_in t q) q.verdicts) ++ still_running (useful_in t q) q.running ≡ still_held t q
still_held_is t q = ap (λ (rs : List Run). rs ++ still_running (useful_in t q) q.running) (known_still (useful_in t q) q.verdicts) ∙ sym (kept_append (λ r. among r (useful_in t q)) (known q.verdicts) q.running)

-- what planning makes of the runs held
pub record Replanned (t : Config) (q p : Queue) : Type 0 where
  pub new : List Run
  pub running_is : p.running ≡ still_running (useful_in t q) q.running ++ new
  pub held_is : held p ≡ still_held t q ++ new
  pub requested_is : p.requested ≡ q.requested + length new
  pub useful : Sub (held p) (useful_in t q)
  pub different : Different (held p)
  pub few : length p.running ≤ t.benches

-- planning keeps what is still useful and adds what it requests
replanned : (t : Config) (q : Queue) → Different (held q) → length q.running ≤ t.benches → Replanned t q (planned t q)
unfolding planned
replanned t q d l = record {
  new = k.new;
  running_is = k.is;
  held_is = now;
  requested_is = omega (arith, ap length k.is, length-append still k.new);
  useful = λ r e. elim (among_cases r (still_held t q) k.new (ap (among r) (sym now) ∙ e)) [
    | inl j ↦ both_left (among r us) (among r (held q)) (sym (among-kept (λ x. among x us) r (held q)) ∙ j)
    | inr j ↦ k.useful r j
  ];
  different = k.different;
  few = k.few;
}
  where
    us : List Run
    us = useful_in t q

    vs : List Verdict
    vs = still_known us q.verdicts

    still : List Run
    still = still_running us q.running

    k : Filled t.benches (known vs) still us (request t.benches vs still us)
    k = filled t.benches vs us still (subst Different (sym (still_held_is t q)) (different-kept (λ r. among r us) (held q) d)) (omega (arith, length-kept (λ r. among r us) q.running, l))

    now : known vs ++ request t.benches vs still us ≡ still_held t q ++ k.new
    now = ap (λ (rs : List Run). known vs ++ rs) k.is ∙ sym (append_assoc (known vs) still k.new) ∙ ap (λ (rs : List Run). rs ++ k.new) (still_held_is t q)

-- THE DAY: what holds of every reachable queue
pub record Orderly (t : Config) (q : Queue) : Type 0 where
  pub neat : NeatIn q
  pub useful : Sub (held q) (useful_in t q)
  pub different : Different (held q)
  pub few : length q.running ≤ t.benches

length_without : {A : Type 0} (i : ℕ) (xs : List A) → length (without i xs) ≤ length xs
length_without i [] = omega arith
length_without zero (x ∷ xs) = omega arith
length_without (suc i) (x ∷ xs) = omega (arith, length_without i xs)

few-recorded : (b : ℕ) (q : Queue) (e : Event) → length q.running ≤ b → length (decided (recorded q e)).running ≤ b
unfolding recorded decided
few-recorded b q (submit c) l = l
few-recorded b q (withdraw n) l = l
few-recorded b q (report i g) l = omega (arith, length_without i q.running)

-- the state before planning, and planning it
pub ready : (t : Config) (q : Queue) (e : Event) → accepts t q e ≡ true → Orderly t q → Replanned t (decided (recorded q e)) (step t q e)
unfolding step decided
ready t q e a o = replanned t (decided (recorded q e)) ((moved t q e a).different o.different) (few-recorded t.benches q e o.few)

-- every event that is taken keeps the queue orderly
pub orderly-step : (t : Config) (q : Queue) (e : Event) → accepts t q e ≡ true → Orderly t q → Orderly t (step t q e)
unfolding step planned
orderly-step t q e a o =
    let k = ready t q e a o in
    record { neat = neat-decided (recorded q e) (neat-recorded t q e a o.neat); useful = k.useful; different = k.different; few = k.few }

pub orderly-empty : (t : Config) → Orderly t empty
orderly-empty t = record {
  neat = record { landed = tt; waiting = tt; rejected = tt; distinct = tt; apart = λ n e. refl };
  useful = λ r e. absurd (true≢false (sym e));
  different = tt;
  few = omega arith;
}

pub orderly : (t : Config) (es : List Event) → Orderly t (replayed t empty es)
orderly t es = day_keeps t (Orderly t) (orderly-step t) es empty (orderly-empty t)

pub only_useful_runs : OnlyUsefulRuns
only_useful_runs t es =
    let o = orderly t es in
    (o.few, all_from (λ r. among r (useful_in t (replayed t empty es)) ≡ true) (held (replayed t empty es)) o.useful, o.different)
