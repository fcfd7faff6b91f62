-- Laws of recording an event: the changes' sections are written anew, one joins those that wait, one leaves them.
use Rattle.std.proofs.Common.{◌≡◌, ℕ, suc, ◌+◌, ◌-◌, ◌*◌, ◌<◌, ◌≤◌, Bool, true, false, cond, eqb, List, [], ◌∷◌, ◌++◌, length, get_or, take, drop, set, Some, None, Option, sym, refl, ap, ◌∙◌, subst, arith, length-drop}
use borrow.Rule.Slice.PartMut.{put_mid}
use Rattle.std.specs.Option.{option_map}
use Rattle.std.proofs.lemmas.List.{length-take-le, length_push, append-nil}
use Rattle.std.proofs.ByRecursion.{All-push}
use Rattle.std.specs.List.{AllByRecursion}
use Rattle.change.specs.Change.{Change, place_of, dropped, without}
use Rattle.change.specs.Records.{change_row, change_width, changes_in, table, row_out}
use Rattle.run.specs.Layout.{most_landed, most_waiting, most_rejected, benches_at, depth_at, landed_count, waiting_count, rejected_count, verdicts_count, running_count, requested_at, landed_at, waiting_at, rejected_at, queue_length}
use Rattle.run.specs.Numbers.{Sections, sections, whole, landed_in, waiting_in, rejected_in, changes_section, with_changes, decode, RunsFit, Settled, Small}
use Rattle.run.specs.State.{Queue}
use Rattle.decide.proofs.Moves.{section_less, length_without, all_without}
use Rattle.queue.specs.Queue.{with_waiting}
use Rattle.queue.specs.Stages.{Roomy, Sound, Says}
use Rattle.queue.specs.declared.counts.Counts.{Counts}
use Rattle.run.proofs.Sections.{Sized, landed_as, waiting_as, put_landed, put_waiting, put_rejected, counters_are, whole-sections, sized_sections, sections-whole}
use Rattle.run.proofs.Changed.{section_long, count_landed, count_waiting, count_rejected, small_changes, Fitting, runs_settled, settled_changed, decode_changed, waiting-written, config_changed, behind_changed}
use Rattle.run.proofs.Round.{change_records, rows_section}

-- a section that was written anew is what is written of what the queue says there
pub section_anew : (at most n k : ℕ) (xs part ys : List ℕ) → at + change_width * most ≤ length xs → part ≡ take (change_width * most) (drop at xs) → n ≡ k → n ≤ most →
    ys ≡ table change_row (length part) (changes_in n part) → ys ≡ changes_section most (changes_in k (drop at xs))
section_anew at most n k xs part ys long is e few h =
    let enough : change_width * most ≤ length (drop at xs) = omega (arith, length-drop at xs) in
    let l : length part ≡ change_width * most = ap length is ∙ length-take-le (change_width * most) (drop at xs) enough in
    let r : changes_in n part ≡ changes_in k (drop at xs) = ap (changes_in n) is ∙ (rows_section change_records n (change_width * most) (drop at xs) (omega arith) enough ∙ ap (λ u. changes_in u (drop at xs)) e) in
    h ∙ (λ i. table change_row (l i) (r i))

-- numbers that are these sections, one of which is written over
sized_landed : (s : Sections) (ys : List ℕ) → Sized s → length ys ≡ change_width * most_landed → Sized (landed_as ys s)
sized_landed s ys z l = record { counters = z.counters; landed = l; waiting = z.waiting; rejected = z.rejected; verdicts = z.verdicts; running = z.running }

sized_waiting : (s : Sections) (ys : List ℕ) → Sized s → length ys ≡ change_width * most_waiting → Sized (waiting_as ys s)
sized_waiting s ys z l = record { counters = z.counters; landed = z.landed; waiting = l; rejected = z.rejected; verdicts = z.verdicts; running = z.running }

waiting-part : (xs : List ℕ) (s : Sections) → Sized s → xs ≡ whole s → (sections xs).waiting ≡ s.waiting
waiting-part xs s z e = ap (λ l. (sections l).waiting) e ∙ ap (λ (t : Sections). t.waiting) (sections-whole s z)

rejected-part : (xs : List ℕ) (s : Sections) → Sized s → xs ≡ whole s → (sections xs).rejected ≡ s.rejected
rejected-part xs s z e = ap (λ l. (sections l).rejected) e ∙ ap (λ (t : Sections). t.rejected) (sections-whole s z)

-- what stands where it stood, and the changes' sections written anew, one after another
pub tidied : (xs ls ws rs : List ℕ) (n m k : ℕ) → queue_length ≤ length xs → n ≡ get_or xs landed_count 0 → m ≡ get_or xs waiting_count 0 → k ≡ get_or xs rejected_count 0 → n ≤ most_landed → m ≤ most_waiting → k ≤ most_rejected →
    let x₁ = put_mid landed_at (change_width * most_landed) xs ls in
    let x₂ = put_mid waiting_at (change_width * most_waiting) x₁ ws in
    ls ≡ table change_row (length (sections xs).landed) (changes_in n (sections xs).landed) →
    ws ≡ table change_row (length (sections x₁).waiting) (changes_in m (sections x₁).waiting) →
    rs ≡ table change_row (length (sections x₂).rejected) (changes_in k (sections x₂).rejected) →
    put_mid rejected_at (change_width * most_rejected) x₂ rs ≡ whole (with_changes xs (landed_in xs) (waiting_in xs) (rejected_in xs))
tidied xs ls ws rs n m k long ln lm lk fn fm fk hl hw hr =
    let s₀ : Sections = sections xs in
    let z₀ : Sized s₀ = sized_sections xs long in
    let x₁ : List ℕ = put_mid landed_at (change_width * most_landed) xs ls in
    let x₂ : List ℕ = put_mid waiting_at (change_width * most_waiting) x₁ ws in
    let el : ls ≡ changes_section most_landed (landed_in xs) = section_anew landed_at most_landed n (get_or xs landed_count 0) xs (sections xs).landed ls (omega arith) refl ln fn hl in
    let s₁ : Sections = landed_as ls s₀ in
    let z₁ : Sized s₁ = sized_landed s₀ ls z₀ (ap length el ∙ section_long most_landed (landed_in xs) (omega (arith, count_landed xs))) in
    let e₁ : x₁ ≡ whole s₁ = ap (λ l. put_mid landed_at (change_width * most_landed) l ls) (sym (whole-sections xs)) ∙ put_landed s₀ ls z₀ in
    let ew : ws ≡ changes_section most_waiting (waiting_in xs) = section_anew waiting_at most_waiting m (get_or xs waiting_count 0) xs (sections x₁).waiting ws (omega arith) (waiting-part x₁ s₁ z₁ e₁) lm fm hw in
    let s₂ : Sections = waiting_as ws s₁ in
    let z₂ : Sized s₂ = sized_waiting s₁ ws z₁ (ap length ew ∙ section_long most_waiting (waiting_in xs) (omega (arith, count_waiting xs))) in
    let e₂ : x₂ ≡ whole s₂ = ap (λ l. put_mid waiting_at (change_width * most_waiting) l ws) e₁ ∙ put_waiting s₁ ws z₁ in
    let er : rs ≡ changes_section most_rejected (rejected_in xs) = section_anew rejected_at most_rejected k (get_or xs rejected_count 0) xs (sections x₂).rejected rs (omega arith) (rejected-part x₂ s₂ z₂ e₂) lk fk hr in
    let counters : s₀.counters ≡ (with_changes xs (landed_in xs) (waiting_in xs) (rejected_in xs)).counters =
    counters_are xs long ∙ (λ i. get_or xs benches_at 0 ∷ get_or xs depth_at 0 ∷ sym (count_landed xs) i ∷ sym (count_waiting xs) i ∷ sym (count_rejected xs) i ∷ get_or xs verdicts_count 0 ∷ get_or xs running_count 0 ∷ get_or xs requested_at 0 ∷ []) in
    ap (λ l. put_mid rejected_at (change_width * most_rejected) l rs) e₂
    ∙ (put_rejected s₂ rs z₂
    ∙ (λ i. whole (record { counters = counters i; landed = el i; waiting = ew i; rejected = er i; verdicts = s₀.verdicts; running = s₀.running; behind = s₀.behind })))

-- a queue's changes fit their sections
fitting_sound : (xs : List ℕ) (n : Counts) → Sound xs n → Fitting (landed_in xs) (waiting_in xs) (rejected_in xs)
fitting_sound xs n h = record {
  landed = omega (arith, h.can_land, h.counted.landed, h.counted.waiting, count_landed xs, count_waiting xs);
  waiting = omega (arith, h.counted.waiting, n.few_waiting, count_waiting xs);
  rejected = omega (arith, h.can_reject, h.counted.rejected, h.counted.waiting, count_rejected xs, count_waiting xs);
  small_landed = small_changes (get_or xs landed_count 0) (drop landed_at xs);
  small_waiting = small_changes (get_or xs waiting_count 0) (drop waiting_at xs);
  small_rejected = small_changes (get_or xs rejected_count 0) (drop rejected_at xs);
}

-- numbers in which others wait say the state in which they do
pub says_changes : (xs ys : List ℕ) (W : List Change) → RunsFit xs → Fitting (landed_in xs) W (rejected_in xs) → ys ≡ whole (with_changes xs (landed_in xs) W (rejected_in xs)) → Says xs (with_waiting (decode xs) W) ys
unfolding decode
says_changes xs ys W h fit is =
    let same : landed_in xs ++ [] ≡ landed_in xs = append-nil (landed_in xs) in
    let fit₁ : Fitting (landed_in xs ++ []) W (rejected_in xs) = subst (λ (cs : List Change). Fitting cs W (rejected_in xs)) (sym same) fit in
    let is₁ : ys ≡ whole (with_changes xs (landed_in xs ++ []) W (rejected_in xs)) = is ∙ ap (λ cs. whole (with_changes xs cs W (rejected_in xs))) (sym same) in
    record {
      settled = settled_changed xs ys [] W (rejected_in xs) h fit₁ is₁;
      state = decode_changed xs ys [] W (rejected_in xs) h fit₁ is₁
          ∙ ap (λ cs. record { landed = cs; waiting = W; rejected = rejected_in xs; verdicts = (decode xs).verdicts; running = (decode xs).running; requested = (decode xs).requested }) same;
      config = config_changed xs ys (landed_in xs) W (rejected_in xs) is;
      behind = behind_changed xs ys (landed_in xs) W (rejected_in xs) h.long fit is;
    }

-- so the slice is ready for the next stage, and says what it said
pub says_tidied : (xs ys : List ℕ) (n : Counts) → Sound xs n → ys ≡ whole (with_changes xs (landed_in xs) (waiting_in xs) (rejected_in xs)) → Says xs (decode xs) ys × Sound ys n
unfolding decode
says_tidied xs ys n h is =
    let fit = fitting_sound xs n h in
    let said = says_changes xs ys (waiting_in xs) h.runs fit is in (
      record { settled = said.settled; state = said.state; config = said.config; behind = said.behind },
      record {
        counted = record {
          landed = h.counted.landed ∙ sym (ap (λ l. get_or l landed_count 0) is ∙ count_landed xs);
          waiting = h.counted.waiting ∙ sym (ap (λ l. get_or l waiting_count 0) is ∙ count_waiting xs);
          rejected = h.counted.rejected ∙ sym (ap (λ l. get_or l rejected_count 0) is ∙ count_rejected xs);
          verdicts = h.counted.verdicts ∙ sym (ap (λ l. get_or l verdicts_count 0) is);
          running = h.counted.running ∙ sym (ap (λ l. get_or l running_count 0) is);
        };
        runs = runs_settled ys said.settled;
        can_land = h.can_land;
        can_reject = h.can_reject;
      },
    )

-- a change that has a place among those that wait is dropped there
pub dropped-at : (n : ℕ) (ws : List Change) (i : ℕ) → place_of n ws ≡ Some i → (i < length ws) × (dropped n ws ≡ without i ws)
dropped-at n [] i e = let z : ◌≡◌ {A = ℕ} 0 1 = cc in absurd (omega arith)
dropped-at n (c ∷ cs) i e = go (dropped-at n cs) (eqb c.number n) (place_of n cs) refl e
  where
    go : ((k : ℕ) → place_of n cs ≡ Some k → (k < length cs) × (dropped n cs ≡ without k cs)) → (b : Bool) (r : Option ℕ) → place_of n cs ≡ r → cond b (Some 0) (option_map suc r) ≡ Some i →
        (i < suc (length cs)) × (cond b cs (c ∷ dropped n cs) ≡ without i (c ∷ cs))
    go ih true r q h = let z : 0 ≡ i = cc in subst (λ (k : ℕ). (k < suc (length cs)) × (cs ≡ without k (c ∷ cs))) z (omega arith, refl)
    go ih false None q h = let z : ◌≡◌ {A = ℕ} 0 1 = cc in absurd (omega arith)
    go ih false (Some k) q h =
        let z : suc k ≡ i = cc in
        subst (λ (k : ℕ). (k < suc (length cs)) × (c ∷ dropped n cs ≡ without k (c ∷ cs))) z (omega (arith, (ih k q).0), ap (λ l. c ∷ l) (ih k q).1)

-- and so it is dropped from their section
pub dropped-waiting : (n : ℕ) (ws : List Change) (i m : ℕ) → place_of n ws ≡ Some i → m ≡ length ws → m ≤ most_waiting →
    (row_out change_width m i (changes_section most_waiting ws) ≡ changes_section most_waiting (dropped n ws)) × (m - 1 ≡ length (dropped n ws)) × (i < m)
dropped-waiting n ws i m e count few =
    let at = dropped-at n ws i e in (
      section_less most_waiting ws m i count (omega (arith, at.0)) few ∙ ap (changes_section most_waiting) (sym at.1),
      omega (arith, ap length at.1, length_without i ws at.0),
      omega (arith, at.0),
    )

-- one stage after another
pub says_next : (xs ys zs : List ℕ) (p q r : Queue) → Says xs p ys → Says ys q zs → q ≡ r → Says xs r zs
says_next xs ys zs p q r a b e = record { settled = b.settled; state = b.state ∙ e; config = b.config ∙ a.config; behind = b.behind ∙ a.behind }

pub says_same : (xs ys zs : List ℕ) (q : Queue) → Says xs q ys → zs ≡ ys → Says xs q zs
says_same xs ys zs q a e = subst (λ (l : List ℕ). Says xs q l) (sym e) a

-- those that wait are written over, and then their count
pub says_waiting : (ys zs : List ℕ) (W : List Change) (n : ℕ) → Settled ys → Fitting (landed_in ys) W (rejected_in ys) →
    ((sections ys).waiting ≡ changes_section most_waiting (waiting_in ys) → zs ≡ changes_section most_waiting W) → n ≡ length W →
    Says ys (with_waiting (decode ys) W) (set (put_mid waiting_at (change_width * most_waiting) ys zs) waiting_count n)
says_waiting ys zs W n h fit f count =
    says_changes ys (set (put_mid waiting_at (change_width * most_waiting) ys zs) waiting_count n) W (runs_settled ys h) fit (waiting-written ys zs W n h count f)

-- as many wait as the count says
pub length-waiting : (ys : List ℕ) (n : Counts) → Sound ys n → n.waiting ≡ length (waiting_in ys)
length-waiting ys n h = h.counted.waiting ∙ sym (count_waiting ys)

-- room for one more that waits
pub fitting_more : (ys : List ℕ) (n : Counts) (c : Change) → Sound ys n → Roomy n → Small c → Fitting (landed_in ys) (waiting_in ys ++ c ∷ []) (rejected_in ys)
fitting_more ys n c h r small =
    let fit = fitting_sound ys n h in
    let l = length_push (waiting_in ys) c in
    let w = length-waiting ys n h in
    record {
      landed = omega (arith, l, w, r.can_land, h.counted.landed, count_landed ys);
      waiting = omega (arith, l, w, r.can_wait);
      rejected = omega (arith, l, w, r.can_reject, h.counted.rejected, count_rejected ys);
      small_landed = fit.small_landed;
      small_waiting = All-push Small (waiting_in ys) c fit.small_waiting small;
      small_rejected = fit.small_rejected;
    }

-- and for one fewer
pub fitting_fewer : (ys : List ℕ) (n : Counts) (number place : ℕ) → Sound ys n → place_of number (waiting_in ys) ≡ Some place → Fitting (landed_in ys) (dropped number (waiting_in ys)) (rejected_in ys)
fitting_fewer ys n number place h e =
    let fit = fitting_sound ys n h in
    let ws : List Change = waiting_in ys in
    let gone = dropped-waiting number ws place n.waiting e (length-waiting ys n h) n.few_waiting in
    let w = length-waiting ys n h in
    record {
      landed = omega (arith, gone.1, w, fit.landed);
      waiting = omega (arith, gone.1, w, fit.waiting);
      rejected = omega (arith, gone.1, w, fit.rejected);
      small_landed = fit.small_landed;
      small_waiting = subst (AllByRecursion Small) (sym (dropped-at number ws place e).1) (all_without Small place ws fit.small_waiting);
      small_rejected = fit.small_rejected;
    }

-- a change that waits at a place waits there still
pub says_same-waiting : (xs ys : List ℕ) (number place : ℕ) → Says xs (decode xs) ys → place_of number (waiting_in xs) ≡ Some place → place_of number (waiting_in ys) ≡ Some place
unfolding decode
says_same-waiting xs ys number place said e = ap (λ (q : Queue). place_of number q.waiting) said.state ∙ e
