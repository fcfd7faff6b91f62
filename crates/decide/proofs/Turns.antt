-- Laws of one turn of the pass: how the pass goes on when the change at hand waits, lands or is rejected, and what the numbers say then.
use Rattle.std.proofs.Common.{◌≡◌, ℕ, ◌+◌, ◌-◌, ◌*◌, ◌<◌, ◌≤◌, true, false, List, [], ◌∷◌, ◌++◌, length, get_or, take, drop, sym, refl, ap, ◌∙◌, subst, arith}
use Rattle.std.proofs.ByRecursion.{All-get_or, All-push}
use Rattle.std.proofs.lemmas.List.{append-nil, drop_all, drop_at, drop-drop, drop_more, length_push, length-take-le, take_all, take_at, take_more}
use Rattle.change.specs.Change.{Change, without}
use Rattle.change.specs.Records.{Tallies, change_in, change_width, changes_in}
use Rattle.change.proofs.Rows.{front_rows}
use Rattle.change.proofs.Tables.{get_d_rows}
use Rattle.run.specs.Layout.{landed_count, most_landed, most_rejected, queue_length, rejected_count, verdicts_at, verdicts_count, waiting_at, waiting_count}
use Rattle.run.specs.Numbers.{Sections, Settled, Small, decode, landed_in, rejected_in, waiting_in, whole, with_changes}
use Rattle.run.specs.Records.{verdicts_in}
use Rattle.run.specs.Run.{Verdict, runs_on}
use Rattle.run.specs.State.{Queue}
use Rattle.run.proofs.Changed.{Fitting, changes_again, count_landed, count_rejected, count_waiting, decode_changed, fitting_settled, landed_changed, rejected_changed, runs_settled, settled_changed, verdicts_changed, waiting_changed}
use Rattle.decide.specs.Decide.{Passed, by_decision, decision, decision_by, pass, shares_any}
use Rattle.decide.specs.Passing.{passed_in, passed_sections, passed_state}
use Rattle.decide.specs.declared.decision.Decision.{Decision}
use Rattle.decide.specs.declared.decision.Decision.TheVariants.{Wait, Land, Reject}
use Rattle.decide.proofs.Looks.{decided, waits_behind}
use Rattle.decide.proofs.Moves.{none, without_is, length_without, all_without}

-- what the pass makes of those from the i-th on, where those before it wait
abbrev pub from : List Verdict → ℕ → List Change → List Change → List Change → Passed
from vs i landed waiting rejected = pass vs (take i waiting) landed rejected (drop i waiting)

module _ (vs : List Verdict) (i : ℕ) (L W R : List Change) (x : Change) (lt : i < length W) (is : x ≡ get_or W i none) where
  here : drop i W ≡ x ∷ drop (i + 1) W
  here = drop_more W i none lt ∙ ap (λ y. y ∷ drop (i + 1) W) (sym is)

  -- how the pass goes on by the decision
  abbrev next : Decision → Passed
  next d = by_decision d (pass vs (take i W ++ x ∷ []) L R (drop (i + 1) W)) (pass vs (take i W) (L ++ x ∷ []) R (drop (i + 1) W)) (pass vs (take i W) L (R ++ x ∷ []) (drop (i + 1) W))

  turned : from vs i L W R ≡ next (decision vs (take i W) L x)
  unfolding pass
  turned = ap (pass vs (take i W) L R) here

  front : take i (without i W) ≡ take i W
  front = ap (take i) (without_is i W lt) ∙ take_at (take i W) (drop (i + 1) W) i (length-take-le i W (omega arith))

  back : drop i (without i W) ≡ drop (i + 1) W
  back = ap (drop i) (without_is i W lt) ∙ drop_at (take i W) (drop (i + 1) W) i (length-take-le i W (omega arith))

  pub from_waits : decision vs (take i W) L x ≡ Wait → from vs i L W R ≡ from vs (i + 1) L W R
  from_waits e =
      turned ∙ (ap next e ∙ ap (λ l. pass vs l L R (drop (i + 1) W)) (sym (take_more W i none lt ∙ ap (λ y. take i W ++ y ∷ []) (sym is))))

  pub from_lands : decision vs (take i W) L x ≡ Land → from vs i L W R ≡ from vs i (L ++ x ∷ []) (without i W) R
  from_lands e =
      turned ∙ (ap next e ∙ (λ j. pass vs (sym front j) (L ++ x ∷ []) R (sym back j)))

  pub from_rejects : decision vs (take i W) L x ≡ Reject → from vs i L W R ≡ from vs i L (without i W) (R ++ x ∷ [])
  from_rejects e =
      turned ∙ (ap next e ∙ (λ j. pass vs (sym front j) L (R ++ x ∷ []) (sym back j)))

pub from_all : (vs : List Verdict) (i : ℕ) (L W R : List Change) → length W ≤ i → from vs i L W R ≡ record { landed = L; waiting = W; rejected = R }
unfolding pass
from_all vs i L W R le = λ j. pass vs (take_all i W le j) L R (drop_all i W le j)

-- the verdicts that the numbers hold
abbrev pub held_verdicts : List ℕ → List Verdict
held_verdicts xs = verdicts_in (landed_in xs) (get_or xs verdicts_count 0) (drop verdicts_at xs)

-- the state with these changes
abbrev with_lists : List Change → List Change → List Change → Queue → Queue
with_lists L W R q = record { landed = L; waiting = W; rejected = R; verdicts = q.verdicts; running = q.running; requested = q.requested }

-- the pass over `old` after some turns: the numbers are `new`, and the first i of those that wait were looked at
pub record Underway (old new : List ℕ) (i : ℕ) : Type 0 where
  pub settled : Settled new
  pub verdicts : held_verdicts new ≡ held_verdicts old
  pub count : get_or new verdicts_count 0 ≡ get_or old verdicts_count 0
  pub same : (L W R : List Change) → with_changes new L W R ≡ with_changes old L W R
  pub state : decode new ≡ with_lists (landed_in new) (waiting_in new) (rejected_in new) (decode old)
  pub goes_on : from (held_verdicts old) i (landed_in new) (waiting_in new) (rejected_in new) ≡ passed_in old

pub start : (xs : List ℕ) → Settled xs → Underway xs xs 0
unfolding decode
start xs h = record { settled = h; verdicts = refl; count = refl; same = λ L W R. refl; state = refl; goes_on = refl }

-- where all were looked at, the numbers are those that the pass gives, and they say its state
module _ (old new : List ℕ) (i : ℕ) (u : Underway old new i) (le : get_or new waiting_count 0 ≤ i) where
  all_passed : record { landed = landed_in new; waiting = waiting_in new; rejected = rejected_in new } ≡ passed_in old
  all_passed = sym (from_all (held_verdicts old) i (landed_in new) (waiting_in new) (rejected_in new) (omega (arith, count_waiting new))) ∙ u.goes_on

  pub done : new ≡ whole (passed_sections old)
  done = u.settled.is ∙ (ap whole (u.same (landed_in new) (waiting_in new) (rejected_in new)) ∙ ap (λ (p : Passed). whole (with_changes old p.landed p.waiting p.rejected)) all_passed)

  pub done_state : decode new ≡ passed_state old
  done_state = u.state ∙ ap (λ (p : Passed). with_lists p.landed p.waiting p.rejected (decode old)) all_passed

pub behind_stays : (old new : List ℕ) (i : ℕ) → Underway old new i → drop queue_length new ≡ drop queue_length old
behind_stays old new i u = ap (λ (s : Sections). s.behind) (u.same [] [] [])

-- the change at hand
module _ (old new : List ℕ) (i : ℕ) (x : Change) (u : Underway old new i) (lt : i < get_or new waiting_count 0) (at : x ≡ change_in (drop (waiting_at + change_width * i) new)) where
  abbrev L : List Change
  L = landed_in new

  abbrev W : List Change
  W = waiting_in new

  abbrev R : List Change
  R = rejected_in new

  there : i < length W
  there = omega (arith, count_waiting new)

  is : x ≡ get_or W i none
  is = at ∙ sym (get_d_rows change_in change_width (get_or new waiting_count 0) i (drop waiting_at new) none lt ∙ ap change_in (drop-drop (change_width * i) waiting_at new))

  -- those before it
  held : changes_in i (drop waiting_at new) ≡ take i W
  held = sym (front_rows change_in change_width (get_or new waiting_count 0) i (drop waiting_at new) (omega arith))

  -- its decision, as it is read from the numbers
  pub behind : shares_any x (changes_in i (drop waiting_at new)) ≡ true → decision (held_verdicts new) (take i W) L x ≡ Wait
  behind e = waits_behind (held_verdicts new) (take i W) L x (ap (shares_any x) (sym held) ∙ e)

  pub by_runs : (n : ℕ) (d : Decision) → n ≡ get_or old verdicts_count 0 → shares_any x (changes_in i (drop waiting_at new)) ≡ false → decision_by Land (runs_on L x.number x.parts) (verdicts_in L n (drop verdicts_at new)) ≡ d →
      decision (held_verdicts new) (take i W) L x ≡ d
  by_runs n d k e f =
      decided (held_verdicts new) (take i W) L x d (ap (shares_any x) (sym held) ∙ e)
      (ap (λ m. decision_by Land (runs_on L x.number x.parts) (verdicts_in L m (drop verdicts_at new))) (u.count ∙ sym k) ∙ f)

  pub stays : decision (held_verdicts new) (take i W) L x ≡ Wait → Underway old new (i + 1)
  stays e =
      let d = ap (λ vs. decision vs (take i W) L x) (sym u.verdicts) ∙ e in
      record {
        settled = u.settled;
        verdicts = u.verdicts;
        count = u.count;
        same = u.same;
        state = u.state;
        goes_on = sym (from_waits (held_verdicts old) i L W R x there is d) ∙ u.goes_on;
      }

  small : Small x
  small = subst Small (sym is) (All-get_or Small W i none there (fitting_settled new u.settled).small_waiting)

  -- the numbers once the change waits no more, and these others have landed or were rejected
  moves : (zs : List ℕ) (L₁ ds R₁ : List Change) → L₁ ≡ L ++ ds → Fitting L₁ (without i W) R₁ → zs ≡ whole (with_changes new L₁ (without i W) R₁) →
      from (held_verdicts old) i L W R ≡ from (held_verdicts old) i L₁ (without i W) R₁ → Underway old zs i × (get_or zs waiting_count 0 + 1 ≡ get_or new waiting_count 0) × (landed_in zs ≡ L₁)
  moves zs L₁ ds R₁ e fit z step =
      let h = u.settled in
      let fit₁ = subst (λ (l : List Change). Fitting l (without i W) R₁) e fit in
      let z₁ = z ∙ ap (λ (l : List Change). whole (with_changes new l (without i W) R₁)) e in
      let landed = landed_changed new L₁ (without i W) R₁ h.long fit zs z in
      let waiting = waiting_changed new L₁ (without i W) R₁ h.long fit zs z in
      let rejected = rejected_changed new L₁ (without i W) R₁ h.long fit zs z in
      let again = changes_again new L₁ (without i W) R₁ h.long fit zs z in
      let left : get_or zs waiting_count 0 + 1 ≡ get_or new waiting_count 0 = omega (arith, count_waiting zs, ap length waiting, length_without i W there, count_waiting new) in (
        record {
          settled = settled_changed new zs ds (without i W) R₁ (runs_settled new h) fit₁ z₁;
          verdicts = verdicts_changed new zs ds (without i W) R₁ (runs_settled new h) fit₁ z₁ ∙ u.verdicts;
          count = ap (λ l. get_or l verdicts_count 0) z ∙ u.count;
          same = λ L₂ W₂ R₂. again L₂ W₂ R₂ ∙ u.same L₂ W₂ R₂;
          state = decode_changed new zs ds (without i W) R₁ (runs_settled new h) fit₁ z₁ ∙ (λ j. with_lists (sym (landed ∙ e) j) (sym waiting j) (sym rejected j) (u.state j));
          goes_on = (λ j. from (held_verdicts old) i (landed j) (waiting j) (rejected j)) ∙ (sym step ∙ u.goes_on);
        },
        left,
        landed,
      )

  -- the change is taken out of those that wait
  module _ (ys : List ℕ) (out : ys ≡ whole (with_changes new L (without i W) R)) where
    fit_out : Fitting L (without i W) R
    fit_out =
        let f = fitting_settled new u.settled in
        let l = length_without i W there in
        record {
          landed = omega (arith, f.landed);
          waiting = omega (arith, f.waiting);
          rejected = omega (arith, f.rejected);
          small_landed = f.small_landed;
          small_waiting = all_without Small i W f.small_waiting;
          small_rejected = f.small_rejected;
        }

    landed_out : landed_in ys ≡ L
    landed_out = landed_changed new L (without i W) R u.settled.long fit_out ys out

    waiting_out : waiting_in ys ≡ without i W
    waiting_out = waiting_changed new L (without i W) R u.settled.long fit_out ys out

    rejected_out : rejected_in ys ≡ R
    rejected_out = rejected_changed new L (without i W) R u.settled.long fit_out ys out

    -- there is a place for it among those that landed, and among those that were rejected
    pub taken_out : Settled ys × (get_or ys landed_count 0 < most_landed) × (get_or ys rejected_count 0 < most_rejected)
    taken_out =
        let f = fitting_settled new u.settled in
        let e : L ≡ L ++ [] = sym (append-nil L) in (
          settled_changed new ys [] (without i W) R (runs_settled new u.settled) (subst (λ (l : List Change). Fitting l (without i W) R) e fit_out) (out ∙ ap (λ (l : List Change). whole (with_changes new l (without i W) R)) e),
          omega (arith, f.landed, ap length landed_out, count_landed ys, there),
          omega (arith, f.rejected, ap length rejected_out, count_rejected ys, there),
        )

    -- and lands
    pub lands : (zs : List ℕ) → zs ≡ whole (with_changes ys (landed_in ys ++ x ∷ []) (waiting_in ys) (rejected_in ys)) → decision (held_verdicts new) (take i W) L x ≡ Land →
        Underway old zs i × (get_or zs waiting_count 0 + 1 ≡ get_or new waiting_count 0) × (landed_in zs ≡ L ++ x ∷ [])
    lands zs z e =
        let fit : Fitting (L ++ x ∷ []) (without i W) R = record {
          landed = omega (arith, (fitting_settled new u.settled).landed, length_push L x, length_without i W there);
          waiting = fit_out.waiting;
          rejected = fit_out.rejected;
          small_landed = All-push Small L x fit_out.small_landed small;
          small_waiting = fit_out.small_waiting;
          small_rejected = fit_out.small_rejected;
        } in
        let d = ap (λ vs. decision vs (take i W) L x) (sym u.verdicts) ∙ e in
        moves zs (L ++ x ∷ []) (x ∷ []) R refl fit
        (z ∙ (ap whole (changes_again new L (without i W) R u.settled.long fit_out ys out (landed_in ys ++ x ∷ []) (waiting_in ys) (rejected_in ys)) ∙ (λ j. whole (with_changes new (landed_out j ++ x ∷ []) (waiting_out j) (rejected_out j)))))
        (from_lands (held_verdicts old) i L W R x there is d)

    -- or is rejected
    pub rejects : (zs : List ℕ) → zs ≡ whole (with_changes ys (landed_in ys) (waiting_in ys) (rejected_in ys ++ x ∷ [])) → decision (held_verdicts new) (take i W) L x ≡ Reject →
        Underway old zs i × (get_or zs waiting_count 0 + 1 ≡ get_or new waiting_count 0) × (landed_in zs ≡ L)
    rejects zs z e =
        let fit : Fitting L (without i W) (R ++ x ∷ []) = record {
          landed = fit_out.landed;
          waiting = fit_out.waiting;
          rejected = omega (arith, (fitting_settled new u.settled).rejected, length_push R x, length_without i W there);
          small_landed = fit_out.small_landed;
          small_waiting = fit_out.small_waiting;
          small_rejected = All-push Small R x fit_out.small_rejected small;
        } in
        let d = ap (λ vs. decision vs (take i W) L x) (sym u.verdicts) ∙ e in
        moves zs L [] (R ++ x ∷ []) (sym (append-nil L)) fit
        (z ∙ (ap whole (changes_again new L (without i W) R u.settled.long fit_out ys out (landed_in ys) (waiting_in ys) (rejected_in ys ++ x ∷ [])) ∙ (λ j. whole (with_changes new (landed_out j) (waiting_out j) (rejected_out j ++ x ∷ [])))))
        (from_rejects (held_verdicts old) i L W R x there is d)

-- so many turns were taken, and so many changes decided in them: the others are held; the tally counts what has landed
pub record Turned (old new tally : List ℕ) (turn decided : ℕ) : Type 0 where
  pub fewer : decided ≤ turn
  pub underway : Underway old new (turn - decided)
  pub left : get_or new waiting_count 0 + decided ≡ get_or old waiting_count 0
  pub tallied : Tallies tally (landed_in new)

pub turned_none : (xs tally : List ℕ) → Settled xs → Tallies tally (landed_in xs) → Turned xs xs tally 0 0
turned_none xs tally h t = record { fewer = omega arith; underway = start xs h; left = omega arith; tallied = t }

-- one more turn, in which the change is held, or decided
module _ (old new tally : List ℕ) (turn decided : ℕ) (t : Turned old new tally turn decided) where
  pub turned_held : Underway old new (turn - decided + 1) → Turned old new tally (turn + 1) decided
  turned_held u = record { fewer = omega (arith, t.fewer); underway = subst (Underway old new) (omega (arith, t.fewer)) u; left = t.left; tallied = t.tallied }

  pub turned_decided : (zs us : List ℕ) → Underway old zs (turn - decided) → get_or zs waiting_count 0 + 1 ≡ get_or new waiting_count 0 → Tallies us (landed_in zs) → Turned old zs us (turn + 1) (decided + 1)
  turned_decided zs us u less c = record { fewer = omega (arith, t.fewer); underway = subst (Underway old zs) (omega (arith, t.fewer)) u; left = omega (arith, t.left); tallied = c }
