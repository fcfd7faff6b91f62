-- Laws of the parts that were seen so far: each one more, what is counted at it, and where a fault is found.
use Rattle.std.proofs.Common.{◌≡◌, ℕ, suc, ◌+◌, ◌<◌, ◌≤◌, Bool, true, false, cond, not, ◌&&◌, ◌||◌, eqb, ltb, List, [], ◌∷◌, ◌++◌, length, get_or, take, drop, set, Some, sym, refl, ap, ◌∙◌, subst, ⊎_elim, add-one, arith}
use Rattle.std.proofs.lemmas.List.{take_more, drop_more, get_or-set_same, get_or-set_other}
use Rattle.std.proofs.lemmas.Bool.{eq-eqb, ne_eqb, cases_eq, or_right, and_from, and_left, and_right, not_from_true, not_from_false, le-leb}
use Rattle.change.specs.Change.{Change, has, fault, fault_from, part_limit, most_parts}

-- one more number behind those that were looked for
pub push_yes : (xs : List ℕ) (y : ℕ) → has (xs ++ y ∷ []) y ≡ true
push_yes [] y = rw (eq-eqb y y refl)
push_yes (x ∷ xs) y = or_right (eqb x y) (has (xs ++ y ∷ []) y) (push_yes xs y)

pub push_other : (xs : List ℕ) (y p : ℕ) → (y ≡ p → ⊥) → has (xs ++ y ∷ []) p ≡ has xs p
push_other [] y p ne = rw (ne_eqb y p ne)
push_other (x ∷ xs) y p ne = ap (λ b. eqb x p || b) (push_other xs y p ne)

pub push_same : (xs : List ℕ) (y p : ℕ) → has xs y ≡ true → has (xs ++ y ∷ []) p ≡ has xs p
push_same xs y p h = ⊎_elim (λ e. subst (λ q. has (xs ++ y ∷ []) q ≡ has xs q) e (push_yes xs y ∙ sym h)) (λ ne. push_other xs y p ne) (cases_eq y p)

-- the parts seen are looked through in any order
in_front : (xs : List ℕ) (y p : ℕ) → has (y ∷ xs) p ≡ has (xs ++ y ∷ []) p
in_front [] y p = refl
in_front (x ∷ xs) y p = swap (eqb y p) (eqb x p) (has xs p) ∙ ap (λ b. eqb x p || b) (in_front xs y p)
  where
    swap : (a b c : Bool) → (a || (b || c)) ≡ (b || (a || c))
    swap true true c = refl
    swap true false c = refl
    swap false b c = refl

same_seen : (xs ys : List ℕ) (i : ℕ) (ps : List ℕ) → ((p : ℕ) → has xs p ≡ has ys p) → fault_from xs i ps ≡ fault_from ys i ps
same_seen xs ys i [] same = refl
same_seen xs ys i (p ∷ ps) same =
    ap (λ b. cond (ltb p part_limit && not b) (fault_from (p ∷ xs) (suc i) ps) (Some i)) (same p)
    ∙ ap (λ f. cond (ltb p part_limit && not (has ys p)) f (Some i)) (same_seen (p ∷ xs) (p ∷ ys) (suc i) ps (λ q. ap (λ b. eqb p q || b) (same q)))

-- parts that were seen, one more
module _ (ps : List ℕ) (i q : ℕ) (lt : i < length ps) (is : q ≡ get_or ps i 0) where
  seen : take (i + 1) ps ≡ take i ps ++ q ∷ []
  seen = take_more ps i 0 lt ∙ ap (λ u. take i ps ++ u ∷ []) (sym is)

  pub seen_same : (p : ℕ) → has (take i ps) q ≡ true → has (take (i + 1) ps) p ≡ has (take i ps) p
  seen_same p h = ap (λ l. has l p) seen ∙ push_same (take i ps) q p h

  pub seen_other : (p : ℕ) → (q ≡ p → ⊥) → has (take (i + 1) ps) p ≡ has (take i ps) p
  seen_other p ne = ap (λ l. has l p) seen ∙ push_other (take i ps) q p ne

  seen_new : (p : ℕ) → q ≡ p → has (take (i + 1) ps) p ≡ true
  seen_new p e = ap (λ u. has (take (i + 1) ps) u) (sym e) ∙ (ap (λ l. has l q) seen ∙ push_yes (take i ps) q)

  pub count_step : (cs es : List ℕ) (p : ℕ) → q < length cs → has (take i ps) q ≡ false → get_or cs p 0 ≡ get_or es p 0 + cond (has (take i ps) p) 1 0 →
      get_or (set cs q (get_or cs q 0 + 1)) p 0 ≡ get_or es p 0 + cond (has (take (i + 1) ps) p) 1 0
  count_step cs es p lq no-yet h = ⊎_elim
      (λ e.
      let a : get_or (set cs q (get_or cs q 0 + 1)) p 0 ≡ get_or cs q 0 + 1 = ap (λ u. get_or (set cs q (get_or cs q 0 + 1)) u 0) (sym e) ∙ get_or-set_same cs q (get_or cs q 0 + 1) 0 lq in
      let b : get_or cs q 0 ≡ get_or es p 0 + 0 = ap (λ u. get_or cs u 0) e ∙ (h ∙ ap (λ u. get_or es p 0 + cond u 1 0) (ap (λ u. has (take i ps) u) (sym e) ∙ no-yet)) in
      a ∙ (omega arith ∙ ap (λ u. get_or es p 0 + cond u 1 0) (sym (seen_new p e))))
      (λ ne. get_or-set_other cs q p (get_or cs q 0 + 1) 0 (λ e. ne (sym e)) ∙ (h ∙ ap (λ u. get_or es p 0 + cond u 1 0) (sym (seen_other p ne))))
      (cases_eq q p)

  pub stamp_step : (ss es : List ℕ) (stamp p : ℕ) → q < length ss → get_or ss p 0 ≡ cond (has (take i ps) p) stamp (get_or es p 0) →
      get_or (set ss q stamp) p 0 ≡ cond (has (take (i + 1) ps) p) stamp (get_or es p 0)
  stamp_step ss es stamp p lq h = ⊎_elim
      (λ e. ap (λ u. get_or (set ss q stamp) u 0) (sym e) ∙ (get_or-set_same ss q stamp 0 lq ∙ ap (λ u. cond u stamp (get_or es p 0)) (sym (seen_new p e))))
      (λ ne. get_or-set_other ss q p stamp 0 (λ e. ne (sym e)) ∙ (h ∙ ap (λ u. cond u stamp (get_or es p 0)) (sym (seen_other p ne))))
      (cases_eq q p)

  -- the fault of the parts from the i-th on, where the i-th is sound, where it is not
  fault_sound : (ltb q part_limit && not (has (take i ps) q)) ≡ true → fault_from (take i ps) i (drop i ps) ≡ fault_from (take (i + 1) ps) (i + 1) (drop (i + 1) ps)
  fault_sound e =
      ap (fault_from (take i ps) i) (drop_more ps i 0 lt)
      ∙ (ap (λ u. fault_from (take i ps) i (u ∷ drop (i + 1) ps)) (sym is)
      ∙ (ap (λ b. cond b (fault_from (q ∷ take i ps) (suc i) (drop (i + 1) ps)) (Some i)) e
      ∙ (same_seen (q ∷ take i ps) (take (i + 1) ps) (suc i) (drop (i + 1) ps) (λ p. in_front (take i ps) q p ∙ ap (λ l. has l p) (sym seen))
      ∙ ap (λ u. fault_from (take (i + 1) ps) u (drop (i + 1) ps)) (sym (add-one i)))))

  fault_here : (ltb q part_limit && not (has (take i ps) q)) ≡ false → fault_from (take i ps) i (drop i ps) ≡ Some i
  fault_here e =
      ap (fault_from (take i ps) i) (drop_more ps i 0 lt)
      ∙ (ap (λ u. fault_from (take i ps) i (u ∷ drop (i + 1) ps)) (sym is) ∙ ap (λ b. cond b (fault_from (q ∷ take i ps) (suc i) (drop (i + 1) ps)) (Some i)) e)

-- the same by the two tests of the i-th part
module _ (ps : List ℕ) (i : ℕ) (lt : i < length ps) where
  pub fault_later : ltb (get_or ps i 0) part_limit ≡ true → has (take i ps) (get_or ps i 0) ≡ false → fault_from (take i ps) i (drop i ps) ≡ fault_from (take (i + 1) ps) (i + 1) (drop (i + 1) ps)
  fault_later small new = fault_sound ps i (get_or ps i 0) lt refl (and_from _ _ small (not_from_false _ new))

  pub fault_large : ltb (get_or ps i 0) part_limit ≡ false → fault_from (take i ps) i (drop i ps) ≡ Some i
  fault_large large = fault_here ps i (get_or ps i 0) lt refl (and_left _ _ large)

  pub fault_again : has (take i ps) (get_or ps i 0) ≡ true → fault_from (take i ps) i (drop i ps) ≡ Some i
  fault_again old = fault_here ps i (get_or ps i 0) lt refl (and_right _ _ (not_from_true _ old))

-- a change that has parts, and not too many, is faulty where its parts are
pub fault_by_parts : (c : Change) → 1 ≤ length c.parts → length c.parts ≤ most_parts → fault c ≡ fault_from [] 0 c.parts
fault_by_parts c some few =
    ap (λ b. cond b (fault_from [] 0 c.parts) (Some most_parts)) (and_from _ _ (le-leb 1 (length c.parts) some) (le-leb (length c.parts) most_parts few))
