use Rattle.std.proofs.Common.{◌≡◌, ℕ, ◌+◌, ◌-◌, ◌<◌, Bool, inl, true, false, List, ◌∷◌, ◌++◌, length, get_or, take, drop, sym, ap, ◌∙◌, arith}
use native.Mathlib.Nat.{sub-zero}
use Rattle.std.proofs.lemmas.List.{append-nil, length-take}
use Rattle.change.specs.Change.{Change, line}
use Rattle.change.specs.Listed.{changes_of}
use Rattle.change.specs.Records.{change_of}
use Rattle.run.specs.Run.{Run, runs_on, same_run}
use Rattle.run.specs.Records.{run_of, run_row}
use Rattle.run.specs.declared.run.Run as declared
use Rattle.run.specs.Layout.{depth_at, waiting_count}
use Rattle.run.specs.Numbers.{landed_in, waiting_in}
use Rattle.run.proofs.Rows.{row_is}
use Rattle.run.proofs.Compared.{run_long, same_run_true}
use Rattle.plan.specs.Plan.{among, useful}
use Rattle.plan.specs.Numbers.{first_waiting, run_behind}
use Rattle.plan.proofs.Looking.{look_all, look_counts, look_goes_on, look_inside, look_is, look_none, still_looked}
use Rattle.plan.proofs.Among.{short_useless, useful-all, look_on, look_found, among_none, among_not, among_yes, last_not, last_is}
use Rattle.plan.proofs.planner.Planner.find_useful.Goals as goal
use Rattle.plan.proofs.planner.Planner.find_useful.Goals.{else-c-last-via-then-c-last+else-touches, else-c-last-via-else-c-last}

pub returns-in_default : goal.returns-in_default
returns-in_default c =
    let xs : List ℕ = c.args.self.queue.now in
    let cs : List Change = landed_in xs in
    let r = c.args.stored.now in
    let l = run_long cs r c.requires (omega (arith, r.few, r.long)) in
    let none = length-take r.follows r.numbers in
    short_useless (run_of cs r) (get_or xs depth_at 0) cs (waiting_in xs) (omega (arith, l, c.requires, c.in_default.ensures.item.3, ap length c.following.ensures, none, r.few, r.long))

pub loop-i-init : goal.loop-i-init
loop-i-init c =
    let xs : List ℕ = c.args.self.queue.now in
    let cs : List Change = landed_in xs in
    let d : ℕ = get_or xs depth_at 0 in
    let made = c.into_iter-i-iterator.result in
    let it = c.into_iter-i-iterator.ensures.into_iter_gives in
    let k : made.count ≡ 0 = ap (λ s. s.count) it ∙ c.enumerate-i-items.ensures.count in
    let all = look_all xs made.count (changes_of made.iter) k (ap (λ s. changes_of s.iter) it ∙ (ap changes_of c.enumerate-i-items.ensures.source ∙ c.looked_at.ensures)) in (
      (tt, tt, inl (look_counts xs made.count (changes_of made.iter) c.args.self.ready.depth all (omega (arith, k)))),
      tt,
      all,
      ap (λ j. among (run_of cs c.args.stored.now) (useful (d - j) (cs ++ take j (waiting_in xs)) (drop j (waiting_in xs)))) k
          ∙ (λ i. among (run_of cs c.args.stored.now) (useful (sub-zero d i) (append-nil cs i) (waiting_in xs))),
    )

-- the useful runs of those from here on, and whether the stored run is among them
module _ (xs : List ℕ) (stored : declared.Run) (k : ℕ) (x : Change) (left more : List Change) (inv : left ≡ still_looked xs k) (steps : left ≡ x ∷ more) where
  abbrev d : ℕ
  d = get_or xs depth_at 0

  abbrev r : Run
  r = run_of (landed_in xs) stored

  abbrev from_here : ℕ → Bool
  from_here j = among r (useful (d - j) (landed_in xs ++ take j (waiting_in xs)) (drop j (waiting_in xs)))

  in_depth : k < d
  in_depth = omega (arith, look_inside xs k x left more inv steps)

  waits : k < get_or xs waiting_count 0
  waits = omega (arith, look_inside xs k x left more inv steps)

  passed : (b : Bool) (j : ℕ) → j ≡ k + 1 → among r (runs_on (landed_in xs ++ first_waiting k xs) x.number x.parts) ≡ false → from_here k ≡ b → from_here j ≡ b
  passed b j e no_run f = ap from_here e ∙ look_on (landed_in xs) xs (get_or xs waiting_count 0) d k x waits in_depth (look_is xs k x left more inv steps) r b no_run f

  found : (b : Bool) → among r (runs_on (landed_in xs ++ first_waiting k xs) x.number x.parts) ≡ true → from_here k ≡ b → b ≡ true
  found b own f = look_found (landed_in xs) xs (get_or xs waiting_count 0) d k x waits in_depth (look_is xs k x left more inv steps) r b own f

-- whether the stored run is the change's own, by its comparison with the one that is made for the last number
own_run : (xs : List ℕ) (stored u : declared.Run) (i k last : ℕ) (x : Change) (ls : List Change) (b : Bool) → i ≡ k → x.number ≡ last → ls ≡ landed_in xs → run_of (landed_in xs) u ≡ run_behind xs i last stored.part →
    b ≡ same_run (run_of ls stored) (run_of ls u) → same_run (run_of (landed_in xs) stored) (run_behind xs k x.number stored.part) ≡ b
own_run xs stored u i k last x ls b at number e value same =
    (λ j. same_run (run_of (landed_in xs) stored) (run_behind xs (sym at j) (number j) stored.part))
    ∙ (ap (same_run (run_of (landed_in xs) stored)) (sym value) ∙ (ap (λ l. same_run (run_of l stored) (run_of l u)) (sym e) ∙ sym same))

pub useful_run-u-requires : goal.useful_run-u-requires
useful_run-u-requires c =
    let xs : List ℕ = c.args.self.queue.now in
    let s = c.in-Some-2.ensures.steps in
    omega (arith, s.1, c.args.self.ready.depth, look_inside xs c.loop-i.i-iterator.count (change_of c.in-Some-2.c) (changes_of c.loop-i.i-iterator.iter) (changes_of c.next.new.self.iter) c.loop-i.invariant.2 s.0)

pub returns-then-is_same : goal.returns-then-is_same
returns-then-is_same c =
    let xs : List ℕ = c.args.self.queue.now in
    let cs : List Change = landed_in xs in
    let u = c.useful_run-u.result in
    let x : Change = change_of c.in-Some-2.c in
    let k : ℕ = c.loop-i.i-iterator.count in
    let i = c.loop-i.invariant in
    let s = c.in-Some-2.ensures.steps in
    let same = own_run xs c.args.stored.now u c.in-Some-2.i k c.in-Some.last.now x (changes_of c.landed.result) true s.1 c.if-c-last.true c.landed.ensures c.useful_run-u.ensures.value (sym c.if-is_same.true ∙ c.is_same.ensures) in
    let h = among_yes (run_of cs c.args.stored.now) (cs ++ first_waiting k xs) x.number x.parts (sym c.if-touches.ensures) same in
    let t : same_run (run_of cs c.args.stored.now) (run_of cs u) ≡ true = ap (λ l. same_run (run_of l c.args.stored.now) (run_of l u)) (sym c.landed.ensures) ∙ (sym c.is_same.ensures ∙ c.if-is_same.true) in (
      found xs c.args.stored.now k x (changes_of c.loop-i.i-iterator.iter) (changes_of c.next.new.self.iter) i.2 s.0 _ h i.3,
      row_is cs u (c.useful_run-u.ensures.begins ∙ ap (λ p. length (line p cs)) (sym c.useful_run-u.ensures.part)) (omega (arith, u.few, u.long)) ∙ ap (run_row cs) (sym (same_run_true (run_of cs c.args.stored.now) (run_of cs u) t)),
    )

pub loop-i-preserved-then-touches : goal.loop-i-preserved-then-touches
loop-i-preserved-then-touches c =
    let xs : List ℕ = c.args.self.queue.now in
    let cs : List Change = landed_in xs in
    let r = c.args.stored.now in
    let x : Change = change_of c.in-Some-2.c in
    let k : ℕ = c.loop-i.i-iterator.count in
    let i = c.loop-i.invariant in
    let s = c.in-Some-2.ensures.steps in
    let left = changes_of c.loop-i.i-iterator.iter in
    let more = changes_of c.next.new.self.iter in
    let on = look_goes_on xs k x left more i.2 s.0 c.args.self.ready.depth c.next.new.self.count s.2 in
    let other = own_run xs r c.useful_run-u.result c.in-Some-2.i k c.in-Some.last.now x (changes_of c.landed.result) false s.1 c.if-c-last.true c.landed.ensures c.useful_run-u.ensures.value (sym c.if-is_same.false ∙ c.is_same.ensures) in
    let no_run = among_not (run_of cs r) (cs ++ first_waiting k xs) x.number x.parts other in
    ((tt, tt, inl on.1), tt, on.0, passed xs r k x left more i.2 s.0 _ c.next.new.self.count s.2 no_run i.3)

pub loop-i-preserved : goal.loop-i-preserved
loop-i-preserved c =
    let xs : List ℕ = c.args.self.queue.now in
    let cs : List Change = landed_in xs in
    let r = c.args.stored.now in
    let x : Change = change_of c.in-Some-2.c in
    let k : ℕ = c.loop-i.i-iterator.count in
    let i = c.loop-i.invariant in
    let s = c.in-Some-2.ensures.steps in
    let left = changes_of c.loop-i.i-iterator.iter in
    let more = changes_of c.next.new.self.iter in
    let on = look_goes_on xs k x left more i.2 s.0 c.args.self.ready.depth c.next.new.self.count s.2 in
    let no_run : among (run_of cs r) (runs_on (cs ++ first_waiting k xs) x.number x.parts) ≡ false = elim c.else-c-last.branch [
      | else-c-last-via-then-c-last+else-touches w ↦ among_none (run_of cs r) (cs ++ first_waiting k xs) x.number x.parts (sym w.if-touches.ensures)
      | else-c-last-via-else-c-last w ↦
          let ns = c.following.result.now in
          let item = c.in-Some.ensures.item.3 in
          among_not (run_of cs r) (cs ++ first_waiting k xs) x.number x.parts
          (last_not (run_of cs r) (cs ++ first_waiting k xs) x.number (take r.begins (line r.part cs) ++ take (length ns - 1) ns) (get_or ns (length ns - 1) 0) (last_is cs r ns c.following.ensures item.0) (λ e. w.if-c-last.false (e ∙ sym (item.1 0))))
    ] in
    ((tt, tt, inl on.1), tt, on.0, passed xs r k x left more i.2 s.0 _ c.next.new.self.count s.2 no_run i.3)

pub returns : goal.returns
returns c =
    let xs : List ℕ = c.args.self.queue.now in
    let cs : List Change = landed_in xs in
    let ws : List Change = waiting_in xs in
    let d : ℕ = get_or xs depth_at 0 in
    let k : ℕ = c.loop-i.i-iterator.count in
    let i = c.loop-i.invariant in
    let all = look_none xs k (sym i.2 ∙ c.in-None.ensures.steps.0.0) in
    sym i.3 ∙ ap (among (run_of cs c.args.stored.now)) (useful-all d k (cs ++ take k ws) ws all)
