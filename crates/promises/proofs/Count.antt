-- How many runs are requested: those of the changes that landed, those held, and a window for each change that is rejected or withdrawn. Assumes nothing.
use Rattle.std.proofs.Common.{◌≡◌, ℕ, zero, suc, ◌+◌, ◌-◌, ◌*◌, ◌<◌, ◌≤◌, Bool, true, false, cond, not, ◌&&◌, ◌||◌, eqb, ◌⊎◌, List, [], ◌∷◌, ◌++◌, length, sym, refl, ap, ◌∙◌, subst, ap₂, inl, inr, true≢false, arith, length-append}
use mathlib.Core.Bool.{or-true}
use Rattle.std.proofs.lemmas.Bool.{eq-eqb, not-false, and_from, cases_lt}
use Rattle.std.proofs.lemmas.List.{length_push}
use Rattle.run.specs.declared.known.Known.{Known}
use Rattle.run.specs.declared.known.Known.TheVariants.{Nothing, Good, Bad}
use Rattle.change.specs.Change.{most_parts, Change, numbered, without}
use Rattle.run.specs.Run.{Run, Verdict, heard, is_good, is_unknown, runs_on}
use Rattle.run.specs.State.{Config, Queue, empty}
use Rattle.decide.specs.Decide.{all_good}
use Rattle.plan.specs.Plan.{useful, among, kept, still_running, useful_in, planned}
use Rattle.queue.specs.Queue.{Event, submit, withdraw, report, accepts, recorded, decided, step, replayed}
use Rattle.promises.specs.Day.{Log, blank, withdrawn_by, new_runs, with_event, logged, held, Different, parts_in}
use Rattle.promises.specs.Promises.{EachRunOnce, WasteBounded}
use Rattle.promises.proofs.Basics.{clash, not_so, neither_right, both_left, both_right, numbered_push, kept-all}
use Rattle.promises.proofs.Serial.{all-at}
use Rattle.promises.proofs.Pass.{Lands, Rejects, pass_all}
use Rattle.promises.proofs.Marks.{numbered-place}
use Rattle.promises.proofs.Days.{log-keeps}
use Rattle.plan.proofs.Among.{among-parts}
use Rattle.promises.proofs.Runs.{among_head, among-left, among_right, among_cases, among_one, Sub, all_from, among-kept, different-kept, different-append, different_both, different_apart, pigeons}
use Rattle.promises.proofs.Useful.{Proper, length-runs_on, useful_more, useful-land, last, runs_last, useful-last, different-runs, useful-few, useful-parts}
use Rattle.promises.proofs.Held.{Neat, neat-land, neat-reject, neat-recorded, known, unknown_is, moved, kept_append, still_held, Replanned, Orderly, ready, orderly-step, orderly-empty}
use Rattle.promises.proofs.Idle.{useful_none}

-- what is known good is known
good-known : (vs : List Verdict) (rs : List Run) → all_good rs vs ≡ true → Sub rs (known vs)
good-known vs [] e r h = absurd (true≢false (sym h))
good-known vs (s ∷ rs) e r h = elim (among_cases r (s ∷ []) rs h) [
  | inl j ↦ subst (λ (x : Run). among x (known vs) ≡ true) (sym (among_one r s j)) (not-false (among s (known vs)) (sym (unknown_is s vs) ∙ heard-some (heard s vs) (both_left (is_good (heard s vs)) (all_good rs vs) e)))
  | inr j ↦ good-known vs rs (both_right (is_good (heard s vs)) (all_good rs vs) e) r j
]
  where
    heard-some : (k : Known) → is_good k ≡ true → is_unknown k ≡ false
    heard-some Nothing i = absurd (true≢false (sym i))
    heard-some Good i = refl
    heard-some Bad i = refl

-- the parts of a list with one more change
parts_push : (cs : List Change) (c : Change) → parts_in (cs ++ c ∷ []) ≡ parts_in cs + length c.parts
parts_push [] c = omega arith
parts_push (d ∷ cs) c = omega (arith, parts_push cs c)

-- THE PASS. The runs of the changes that landed in it were held; if nothing left otherwise, what was held is one of these or still useful.
-- At its start L₀ had landed and b₀ were rejected, and so many were withdrawn.
record Account (n b₀ gone : ℕ) (held : List Run) (L₀ L W B : List Change) : Type 0 where
  pub neat : Neat L W B
  pub runs : List Run
  pub count : parts_in L ≡ parts_in L₀ + length runs
  pub held_all : Sub runs held
  pub different : Different runs
  pub ended : (r : Run) → among r runs ≡ true → numbered (last r) L ≡ true
  pub landed_still : (m : ℕ) → numbered m L₀ ≡ true → numbered m L ≡ true
  pub more : b₀ ≤ length B
  pub cover : gone + length B ≡ b₀ → (r : Run) → among r held ≡ true → (among r runs ≡ true) ⊎ (among r (useful n L W) ≡ true)

-- a change that lands adds its runs, which were known good
account_land : (n b₀ gone : ℕ) (vs : List Verdict) (held : List Run) (L₀ : List Change) → Sub (known vs) held → Lands vs (Account n b₀ gone held L₀)
account_land n b₀ gone vs held L₀ s L W₁ c W₂ B y k = record {
  neat = neat-land L W₁ c W₂ B k.neat;
  runs = k.runs ++ mine;
  count = omega (arith, parts_push L c, k.count, length-append k.runs mine, length-runs_on L c.number c.parts);
  held_all = λ r e. elim (among_cases r k.runs mine e) [
    | inl j ↦ k.held_all r j
    | inr j ↦ s r (good-known vs mine y.runs r j)
  ];
  different = different-append k.runs mine k.different (different-runs L c.number c.parts (all-at Proper W₁ c W₂ k.neat.waiting).once)
      (λ r e. not_so (among r mine) (λ j. clash (k.ended r e) (ap (λ (m : ℕ). numbered m L) (sym (runs_last L c.number c.parts r j)) ∙ new)));
  ended = λ r e. numbered_push (last r) L c ∙ elim (among_cases r k.runs mine e) [
    | inl j ↦ ap (◌||◌ (eqb c.number (last r))) (k.ended r j) ∙ or-true (eqb c.number (last r))
    | inr j ↦ ap (λ (b : Bool). b || numbered (last r) L) (eq-eqb c.number (last r) (runs_last L c.number c.parts r j))
  ];
  landed_still = λ m e. numbered_push m L c ∙ ap (◌||◌ (eqb c.number m)) (k.landed_still m e) ∙ or-true (eqb c.number m);
  more = k.more;
  cover = λ e r h. elim (k.cover e r h) [
    | inl j ↦ inl (among-left r k.runs mine j)
    | inr j ↦ elim (useful-land n W₁ c W₂ L (L ++ c ∷ []) y.apart (λ p. refl) r j) [
      | inl l ↦ inl (among_right r k.runs mine l)
      | inr l ↦ inr l
    ]
  ];
}
  where
    mine : List Run
    mine = runs_on L c.number c.parts

    new : numbered c.number L ≡ false
    new = k.neat.apart c.number (numbered-place c.number W₁ c W₂ ∙ ap (λ (b : Bool). b || numbered c.number (W₁ ++ W₂)) (eq-eqb c.number c.number refl))

-- a rejection gives up the cover, and keeps the rest
account_reject : (n b₀ gone : ℕ) (vs : List Verdict) (held : List Run) (L₀ : List Change) → Rejects vs (Account n b₀ gone held L₀)
account_reject n b₀ gone vs held L₀ L W₁ c W₂ B y k = record {
  neat = neat-reject L W₁ c W₂ B k.neat;
  runs = k.runs;
  count = k.count;
  held_all = k.held_all;
  different = k.different;
  ended = k.ended;
  landed_still = k.landed_still;
  more = omega (arith, length_push B c, k.more);
  cover = λ e r h. absurd (omega (arith, length_push B c, k.more, e));
}

-- what was useful before an event is useful once it is recorded, unless it is a withdrawal
cover-recorded : (t : Config) (q : Queue) (e : Event) → withdrawn_by e + length (recorded q e).rejected ≡ length q.rejected →
    Sub (useful_in t q) (useful_in t (recorded q e))
unfolding recorded
cover-recorded t q (submit c) k = useful_more t.depth q.waiting (c ∷ []) q.landed
cover-recorded t q (withdraw n) k = absurd (omega (arith, k))
cover-recorded t q (report i g) k = λ r e. e

recorded-same : (q : Queue) (e : Event) → ((recorded q e).landed ≡ q.landed) × ((recorded q e).rejected ≡ q.rejected) × ((recorded q e).requested ≡ q.requested)
unfolding recorded
recorded-same q (submit c) = (refl, refl, refl)
recorded-same q (withdraw n) = (refl, refl, refl)
recorded-same q (report i g) = (refl, refl, refl)

abbrev AccountOf : Config → Queue → Event → Type 0
AccountOf t q e =
    let p = decided (recorded q e) in
    Account t.depth (length q.rejected) (withdrawn_by e) (held q) q.landed p.landed p.waiting p.rejected

-- the account of one event
account : (t : Config) (q : Queue) (e : Event) → accepts t q e ≡ true → Orderly t q → AccountOf t q e
unfolding decided
account t q e a o = pass_all p.verdicts (Account t.depth (length q.rejected) (withdrawn_by e) (held q) q.landed)
    (account_land t.depth (length q.rejected) (withdrawn_by e) p.verdicts (held q) q.landed (λ r h. sym ((moved t q e a).same r) ∙ among-left r (known p.verdicts) p.running h))
    (account_reject t.depth (length q.rejected) (withdrawn_by e) p.verdicts (held q) q.landed)
    p.landed p.waiting p.rejected
    (record {
      neat = neat-recorded t q e a o.neat;
      runs = [];
      count = omega (arith, ap parts_in same.0);
      held_all = λ r h. absurd (true≢false (sym h));
      different = tt;
      ended = λ r h. absurd (true≢false (sym h));
      landed_still = λ m h. ap (numbered m) same.0 ∙ h;
      more = omega (arith, ap length same.1);
      cover = λ h r j. inr (cover-recorded t q e h r (o.useful r j));
    })
  where
    p : Queue
    p = recorded q e

    same : ((recorded q e).landed ≡ q.landed) × ((recorded q e).rejected ≡ q.rejected) × ((recorded q e).requested ≡ q.requested)
    same = recorded-same q e

-- ONE EVENT. What is held after it, by what was held before.
among_still : (t : Config) (q : Queue) (e : Event) → accepts t q e ≡ true → (r : Run) →
    among r (still_held t (decided (recorded q e))) ≡ (among r (useful_in t (decided (recorded q e))) && among r (held q))
unfolding decided
among_still t q e a r = among-kept (λ s. among s (useful_in t (decided (recorded q e)))) r (held (recorded q e)) ∙ ap (◌&&◌ (among r (useful_in t (decided (recorded q e))))) ((moved t q e a).same r)

-- the runs of what landed are gone, and all else that was useful is still held
least_gone : (t : Config) (q : Queue) (e : Event) → accepts t q e ≡ true → Orderly t q → (k : AccountOf t q e) →
    length k.runs + length (still_held t (decided (recorded q e))) ≤ length (held q)
unfolding decided
least_gone t q e a o k = omega (arith, length-append k.runs still, pigeons (k.runs ++ still) (held q) apart there)
  where
    still : List Run
    still = still_held t (decided (recorded q e))

    apart : Different (k.runs ++ still)
    apart = different-append k.runs still k.different (different-kept (λ r. among r (useful_in t (decided (recorded q e)))) (held (recorded q e)) ((moved t q e a).different o.different))
        (λ r h. not_so (among r still) (λ j. clash (k.ended r h) (k.neat.apart (last r)
        (useful-last t.depth (decided (recorded q e)).waiting (decided (recorded q e)).landed r (both_left (among r (useful_in t (decided (recorded q e)))) (among r (held q)) (sym (among_still t q e a r) ∙ j))))))

    there : Sub (k.runs ++ still) (held q)
    there r h = elim (among_cases r k.runs still h) [
      | inl j ↦ k.held_all r j
      | inr j ↦ both_right (among r (useful_in t (decided (recorded q e)))) (among r (held q)) (sym (among_still t q e a r) ∙ j)
    ]

-- and if nothing was rejected or withdrawn, nothing else is gone
most_gone : (t : Config) (q : Queue) (e : Event) → accepts t q e ≡ true → Orderly t q → (k : AccountOf t q e) →
    withdrawn_by e + length (decided (recorded q e)).rejected ≡ length q.rejected →
    length (held q) ≤ length k.runs + length (still_held t (decided (recorded q e)))
most_gone t q e a o k h = omega (arith, length-append k.runs still, pigeons (held q) (k.runs ++ still) o.different there)
  where
    still : List Run
    still = still_held t (decided (recorded q e))

    there : Sub (held q) (k.runs ++ still)
    there r j = elim (k.cover h r j) [
      | inl l ↦ among-left r k.runs still l
      | inr l ↦ among_right r k.runs still (among_still t q e a r ∙ and_from (among r (useful_in t (decided (recorded q e)))) (among r (held q)) l j)
    ]

-- never more is held than is useful
pub held-few : (t : Config) (q : Queue) → Orderly t q → length (held q) ≤ most_parts * t.depth
held-few t q o = omega (arith, pigeons (held q) (useful_in t q) o.different o.useful, useful-few t.depth q.waiting q.landed o.neat.waiting)

step_same : (t : Config) (q : Queue) (e : Event) → ((step t q e).landed ≡ (decided (recorded q e)).landed) × ((step t q e).waiting ≡ (decided (recorded q e)).waiting) × ((step t q e).rejected ≡ (decided (recorded q e)).rejected)
unfolding step planned
step_same t q e = (refl, refl, refl)

decided-requested : (q : Queue) (e : Event) → (decided (recorded q e)).requested ≡ q.requested
unfolding decided
decided-requested q e = (recorded-same q e).2

-- the runs that the log writes down are the ones requested
kept_none : (test : Run → Bool) (rs : List Run) → ((r : Run) → among r rs ≡ true → test r ≡ false) → kept test rs ≡ []
kept_none test [] k = refl
kept_none test (r ∷ rs) k = ap (λ (b : Bool). cond b (r ∷ kept test rs) (kept test rs)) (k r (among_head r rs)) ∙ kept_none test rs (λ s e. k s (among_right s (r ∷ []) rs e))

-- a run that was held and is useful is not requested
new_not_held : (t : Config) (q : Queue) (e : Event) → accepts t q e ≡ true → (k : Replanned t (decided (recorded q e)) (step t q e)) → (r : Run) →
    among r k.new ≡ true → among r (held q) ≡ false
new_not_held t q e a k r h = not_so (among r (held q)) (λ j. clash h (different_apart still k.new (subst Different k.held_is k.different) r
    (among_still t q e a r ∙ and_from (among r us) (among r (held q)) (k.useful r (ap (among r) k.held_is ∙ among_right r still k.new h)) j)))
  where
    us : List Run
    us = useful_in t (decided (recorded q e))

    still : List Run
    still = still_held t (decided (recorded q e))

without_sub : (i : ℕ) (rs : List Run) → Sub (without i rs) rs
without_sub i [] r e = e
without_sub zero (s ∷ rs) r e = among_right r (s ∷ []) rs e
without_sub (suc i) (s ∷ rs) r e = elim (among_cases r (s ∷ []) (without i rs) e) [
  | inl j ↦ among-left r (s ∷ []) rs j
  | inr j ↦ among_right r (s ∷ []) rs (without_sub i rs r j)
]

-- recording and deciding start no run
running_sub : (q : Queue) (e : Event) → Sub (decided (recorded q e)).running q.running
unfolding decided recorded
running_sub q (submit c) r h = h
running_sub q (withdraw n) r h = h
running_sub q (report i g) r h = without_sub i q.running r h

-- of the runs that run now, those that did not run before are the requests
requests_are : (t : Config) (q : Queue) (e : Event) → accepts t q e ≡ true → (k : Replanned t (decided (recorded q e)) (step t q e)) →
    new_runs q.running (step t q e).running ≡ k.new
requests_are t q e a k =
    ap (kept test) k.running_is ∙ kept_append test still k.new
    ∙ ap₂ ◌++◌ (kept_none test still (λ r h. ap not (running_sub q e r (both_right (among r us) (among r p.running) (sym (among-kept (λ s. among s us) r p.running) ∙ h)))))
    (kept-all test k.new (all_from (λ r. test r ≡ true) k.new (λ r h. ap not (neither_right (among r (known q.verdicts)) (among r q.running) (sym (among-parts r (known q.verdicts) q.running) ∙ new_not_held t q e a k r h)))))
  where
    p : Queue
    p = decided (recorded q e)

    us : List Run
    us = useful_in t p

    still : List Run
    still = still_running us p.running

    test : Run → Bool
    test r = not (among r q.running)

-- THE DAY: how many runs were requested, and which
record Counted (t : Config) (q : Queue) (g : Log) : Type 0 where
  pub orderly : Orderly t q
  pub requested_is : q.requested ≡ length g.requests
  pub least : parts_in q.landed + length (held q) ≤ q.requested
  pub most : q.requested ≤ parts_in q.landed + length (held q) + (length q.rejected + g.withdrawn) * (most_parts * t.depth)
  pub once : length q.rejected + g.withdrawn ≡ 0 → Different g.requests × ((r : Run) → among r g.requests ≡ true → (among r (held q) ≡ true) ⊎ (numbered (last r) q.landed ≡ true))

-- every event keeps the count
counted_step : (t : Config) (q : Queue) (g : Log) (e : Event) → accepts t q e ≡ true → Counted t q g → Counted t (step t q e) (with_event t q e g)
counted_step t q g e a c = record {
  orderly = orderly-step t q e a o;
  requested_is = omega (arith, k.requested_is, decided-requested q e, c.requested_is, length-append g.requests (new_runs q.running n.running), ap length news);
  least = omega (arith, c.least, least_gone t q e a o m, spent, k.requested_is, decided-requested q e, gained);
  most = most_by (cases_lt (length q.rejected) (withdrawn_by e + length n.rejected));
  once = once_by;
}
  where
    n : Queue
    n = step t q e

    o : Orderly t q
    o = c.orderly

    k : Replanned t (decided (recorded q e)) n
    k = ready t q e a o

    m : AccountOf t q e
    m = account t q e a o

    still : List Run
    still = still_held t (decided (recorded q e))

    news : new_runs q.running n.running ≡ k.new
    news = requests_are t q e a k

    spent : parts_in n.landed ≡ parts_in q.landed + length m.runs
    spent = ap parts_in (step_same t q e).0 ∙ m.count

    gained : length (held n) ≡ length still + length k.new
    gained = ap length k.held_is ∙ length-append still k.new

    rejected_is : length n.rejected ≡ length (decided (recorded q e)).rejected
    rejected_is = ap length (step_same t q e).2

    W : ℕ
    W = most_parts * t.depth

    -- a rejection or a withdrawal may waste all that was held; otherwise nothing is lost
    most_by : (length q.rejected < withdrawn_by e + length n.rejected) ⊎ (withdrawn_by e + length n.rejected ≤ length q.rejected) →
        n.requested ≤ parts_in n.landed + length (held n) + (length n.rejected + (withdrawn_by e + g.withdrawn)) * W
    most_by (inl l) =
        let d = withdrawn_by e + length n.rejected - suc (length q.rejected) in
        let x : length n.rejected + (withdrawn_by e + g.withdrawn) ≡ length q.rejected + g.withdrawn + 1 + d = omega (arith, l) in
        omega (arith, ap (λ (y : ℕ). y * W) x, c.most, held-few t q o, spent, gained, k.requested_is, decided-requested q e)
    most_by (inr l) =
        let x : withdrawn_by e + length n.rejected ≡ length q.rejected = omega (arith, l, m.more, rejected_is) in
        let y : length n.rejected + (withdrawn_by e + g.withdrawn) ≡ length q.rejected + g.withdrawn = omega (arith, x) in
        omega (arith, ap (λ (z : ℕ). z * W) y, c.most, most_gone t q e a o m (ap (λ (z : ℕ). withdrawn_by e + z) (sym rejected_is) ∙ x), spent, gained, k.requested_is, decided-requested q e)

    once_by : length n.rejected + (withdrawn_by e + g.withdrawn) ≡ 0 →
        Different (g.requests ++ new_runs q.running n.running) × ((r : Run) → among r (g.requests ++ new_runs q.running n.running) ≡ true → (among r (held n) ≡ true) ⊎ (numbered (last r) n.landed ≡ true))
    once_by z = (
      subst (λ (rs : List Run). Different (g.requests ++ rs)) (sym news)
          (different-append g.requests k.new before.0 (different_both still k.new (subst Different k.held_is k.different)).1 (λ r h. not_so (among r k.new) (λ j. again r j (before.1 r h)))),
      λ r h. elim (among_cases r g.requests k.new (ap (λ (rs : List Run). among r (g.requests ++ rs)) (sym news) ∙ h)) [
        | inl j ↦ stays r (before.1 r j)
        | inr j ↦ inl (ap (among r) k.held_is ∙ among_right r still k.new j)
      ],
    )
      where
        before : Different g.requests × ((r : Run) → among r g.requests ≡ true → (among r (held q) ≡ true) ⊎ (numbered (last r) q.landed ≡ true))
        before = c.once (omega (arith, z, m.more, rejected_is))

        -- a new run is neither held before nor of a change that landed
        again : (r : Run) → among r k.new ≡ true → (among r (held q) ≡ true) ⊎ (numbered (last r) q.landed ≡ true) → ⊥
        again r j (inl l) = clash l (new_not_held t q e a k r j)
        again r j (inr l) = clash (m.landed_still (last r) l) (m.neat.apart (last r)
            (useful-last t.depth (decided (recorded q e)).waiting (decided (recorded q e)).landed r (k.useful r (ap (among r) k.held_is ∙ among_right r still k.new j))))

        stays : (r : Run) → (among r (held q) ≡ true) ⊎ (numbered (last r) q.landed ≡ true) → (among r (held n) ≡ true) ⊎ (numbered (last r) n.landed ≡ true)
        stays r (inl l) = elim (m.cover (omega (arith, z, m.more, rejected_is)) r l) [
          | inl j ↦ inr (ap (λ (cs : List Change). numbered (last r) cs) (step_same t q e).0 ∙ m.ended r j)
          | inr j ↦ inl (ap (among r) k.held_is ∙ among-left r still k.new (among_still t q e a r ∙ and_from (among r (useful_in t (decided (recorded q e)))) (among r (held q)) j l))
        ]
        stays r (inr l) = inr (ap (λ (cs : List Change). numbered (last r) cs) (step_same t q e).0 ∙ m.landed_still (last r) l)

counted : (t : Config) (es : List Event) → Counted t (replayed t empty es) (logged t es)
counted t es = log-keeps t (Counted t) (counted_step t) es empty blank (record {
  orderly = orderly-empty t;
  requested_is = refl;
  least = omega arith;
  most = omega arith;
  once = λ z. (tt, λ r e. absurd (true≢false (sym e)));
})

pub waste_bounded : WasteBounded
waste_bounded t es = let c = counted t es in omega (arith, c.most, held-few t (replayed t empty es) c.orderly)

pub each_run_once : EachRunOnce
each_run_once t es = (
  c.requested_is,
  λ b w. (
    (c.once (omega (arith, b, w))).0,
    omega (arith, most b w, pigeons (held q) (useful_in t q) c.orderly.different c.orderly.useful, useful-parts t.depth q.waiting q.landed),
    λ e. omega (arith, most b w, c.least, pigeons (held q) (useful_in t q) c.orderly.different c.orderly.useful, ap length (ap (useful t.depth q.landed) e ∙ useful_none t.depth q.landed)),
  ),
)
  where
    q : Queue
    q = replayed t empty es

    c : Counted t q (logged t es)
    c = counted t es

    most : length q.rejected ≡ 0 → (logged t es).withdrawn ≡ 0 → q.requested ≤ parts_in q.landed + length (held q)
    most b w = omega (arith, c.most, ap₂ (λ (x : ℕ) (y : ℕ). (x + y) * (most_parts * t.depth)) b w)
