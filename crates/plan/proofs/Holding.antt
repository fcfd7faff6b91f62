-- Laws of sections that hold runs and verdicts, and of requesting runs on top of them.
use Rattle.std.proofs.Common.{◌≡◌, ℕ, ◌+◌, ◌-◌, ◌*◌, ◌<◌, ◌≤◌, Bool, true, false, cond, not, ◌&&◌, ◌||◌, ltb, List, [], ◌∷◌, ◌++◌, map, length, get_or, take, drop, replicate, sym, refl, ap, ◌∙◌, subst, arith}
use Rattle.std.specs.List.{flat_map, AllByRecursion}
use Rattle.std.proofs.lemmas.List.{append_assoc, take_at, drop_at, length_push, at_drop_more}
use Rattle.std.proofs.ByRecursion.{All-push}
use Rattle.std.proofs.lemmas.Bool.{cond_both, le-ltb, ltb-true, and_parts}
use Rattle.change.specs.Change.{Change}
use Rattle.change.specs.Records.{rows, written}
use Rattle.change.proofs.Tables.{table_push, table_is, rows-table}
use Rattle.run.specs.Run.{Run, Verdict, same_run, heard, is_unknown, run_on, runs_on}
use Rattle.run.specs.declared.known.Known.TheVariants.{Good, Bad}
use Rattle.run.specs.Records.{run_width, verdict_width, run_row, verdict_row, Ahead, AheadVerdict}
use Rattle.run.specs.Layout.{most_running, most_verdicts, most_benches}
use Rattle.run.proofs.Rows.{length-run_row, length-verdict_row}
use Rattle.run.proofs.Round.{Records}
use Rattle.plan.specs.Plan.{among, lacks, request}
use Rattle.plan.specs.Rows.{has_row, run_rows, lacks_row, Holds, HoldsRuns, HoldsVerdicts}
use Rattle.plan.proofs.Ahead.{row_same}

module _ {A : Type 0} {f : List ℕ → A} {row : A → List ℕ} {w : ℕ} {P : A → Type 0} (rec : Records f row w P) (most n : ℕ) (xs : List ℕ) (ys : List A) (h : Holds row P w most n xs ys) where
  -- what a section holds is what is read there
  pub holds_read : rows f w n xs ≡ ys
  holds_read = ap (λ u. rows f w u xs) h.count ∙ (ap (rows f w (length ys)) h.is ∙ rows-table f row w P rec.long rec.reads (w * most) ys h.all)

  pub holds_again : Holds row P w most n xs (rows f w n xs)
  holds_again = subst (Holds row P w most n xs) (sym holds_read) h

-- what is read from the rows of a list, as a function of its elements
rows-map : {A B : Type 0} (f : List ℕ → B) (g : A → B) (row : A → List ℕ) (w : ℕ) → ((x : A) → length (row x) ≡ w) → ((x : A) (ys : List ℕ) → f (row x ++ ys) ≡ g x) →
    (xs : List A) (ys : List ℕ) → rows f w (length xs) (flat_map row xs ++ ys) ≡ map g xs
rows-map f g row w len reads [] ys = refl
rows-map f g row w len reads (x ∷ xs) ys =
    let a = append_assoc (row x) (flat_map row xs) ys in
    let h : f ((row x ++ flat_map row xs) ++ ys) ≡ g x = ap f a ∙ reads x (flat_map row xs ++ ys) in
    let d : drop w ((row x ++ flat_map row xs) ++ ys) ≡ flat_map row xs ++ ys = ap (drop w) a ∙ drop_at (row x) (flat_map row xs ++ ys) w (len x) in
    rw (h, d) (ap (λ l. g x ∷ l) (rows-map f g row w len reads xs ys))

-- the rows of the runs that a section holds
holds_rows : {A : Type 0} (g : A → List ℕ) (row : A → List ℕ) (P : A → Type 0) (w most n : ℕ) → ((x : A) → length (row x) ≡ w) → ((x : A) (ys : List ℕ) → take run_width (row x ++ ys) ≡ g x) →
    (xs : List ℕ) (ys : List A) → Holds row P w most n xs ys → run_rows w n xs ≡ map g ys
holds_rows g row P w most n len front xs ys h =
    ap (λ u. run_rows w u xs) h.count
    ∙ (ap (run_rows w (length ys)) (h.is ∙ table_is row w len (w * most) (w * length ys) ys refl) ∙ rows-map (take run_width) g row w len front ys (replicate (w * most - w * length ys) 0))

run_front : (cs : List Change) (r : Run) (ys : List ℕ) → take run_width (run_row cs r ++ ys) ≡ run_row cs r
run_front cs r ys = take_at (run_row cs r) ys run_width (length-run_row cs r)

verdict_front : (cs : List Change) (v : Verdict) (ys : List ℕ) → take run_width (verdict_row cs v ++ ys) ≡ run_row cs v.run
unfolding verdict_row
verdict_front cs v ys = ap (take run_width) (append_assoc (run_row cs v.run) (cond v.good 1 0 ∷ []) ys) ∙ run_front cs v.run (cond v.good 1 0 ∷ ys)

-- a run among rows is a run among runs
has-among : (cs : List Change) (r : Run) → Ahead cs r → (rs : List Run) → AllByRecursion (Ahead cs) rs → has_row (run_row cs r) (map (run_row cs) rs) ≡ among r rs
has-among cs r h [] all = refl
has-among cs r h (x ∷ xs) all = λ i. row_same cs r x h all.0 i || has-among cs r h xs all.1 i

-- a run of which no verdict has the row is unknown
has_known : (cs : List Change) (r : Run) → Ahead cs r → (vs : List Verdict) → AllByRecursion (AheadVerdict cs) vs → not (has_row (run_row cs r) (map (λ (v : Verdict). run_row cs v.run) vs)) ≡ is_unknown (heard r vs)
has_known cs r h [] all = refl
has_known cs r h (v ∷ vs) all =
    ap (λ b. not (b || has_row (run_row cs r) (map (λ (v : Verdict). run_row cs v.run) vs))) (row_same cs r v.run h all.0) ∙ go (has_known cs r h vs all.1) (same_run r v.run) v.good
  where
    go : not (has_row (run_row cs r) (map (λ (v : Verdict). run_row cs v.run) vs)) ≡ is_unknown (heard r vs) → (b g : Bool) →
        not (b || has_row (run_row cs r) (map (λ (v : Verdict). run_row cs v.run) vs)) ≡ is_unknown (cond b (cond g Good Bad) (heard r vs))
    go ih true true = refl
    go ih true false = refl
    go ih false g = ih

-- one run is requested or not
module _ (cs : List Change) (b v n m : ℕ) (vs xs ys row : List ℕ) (ks : List Verdict) (rs : List Run) (r : Run) (hv : HoldsVerdicts cs v vs ks) (h : HoldsRuns cs n xs rs) (ahead : Ahead cs r) (is : row ≡ run_row cs r) (most : b ≤ most_benches) where
  abbrev wanted : Bool
  wanted = ltb (length rs) b && lacks ks rs r

  same_test : lacks_row b v vs n xs row ≡ wanted
  same_test =
      let a : not (has_row row (run_rows verdict_width v vs)) ≡ is_unknown (heard r ks) =
      ap (λ u. not (has_row u (run_rows verdict_width v vs))) is
      ∙ (ap (λ u. not (has_row (run_row cs r) u)) (holds_rows (λ (v : Verdict). run_row cs v.run) (verdict_row cs) (AheadVerdict cs) verdict_width most_verdicts v (length-verdict_row cs) (verdict_front cs) vs ks hv) ∙ has_known cs r ahead ks hv.all) in
      let c : has_row row (run_rows run_width n xs) ≡ among r rs =
      ap (λ u. has_row u (run_rows run_width n xs)) is
      ∙ (ap (has_row (run_row cs r)) (holds_rows (run_row cs) (run_row cs) (Ahead cs) run_width most_running n (length-run_row cs) (run_front cs) xs rs h) ∙ has-among cs r ahead rs h.all) in
      λ i. ltb (h.count i) b && (a i && not (c i))

  by_test : (t : Bool) → wanted ≡ t → ys ≡ cond t (written (run_width * n) row xs) xs → m ≡ cond t (n + 1) n → HoldsRuns cs m ys (cond t (rs ++ r ∷ []) rs)
  by_test true w e f =
      let lt : n < b = ltb-true n b (and_parts (ltb n b) _ (same_test ∙ w)).0 in
      record {
        is = e ∙ (ap (λ u. written (run_width * n) u xs) is ∙ (ap (written (run_width * n) (run_row cs r)) h.is ∙ table_push (run_row cs) run_width (length-run_row cs) (run_width * most_running) (run_width * n) rs r (ap (λ u. run_width * u) h.count) (omega arith)));
        all = All-push (Ahead cs) rs r h.all ahead;
        count = f ∙ omega (arith, h.count, length_push rs r);
        few = omega (arith, f);
      }
  by_test false w e f = record { is = e ∙ h.is; all = h.all; count = f ∙ h.count; few = omega (arith, f, h.few) }

  pub request_one : ys ≡ cond (lacks_row b v vs n xs row) (written (run_width * n) row xs) xs → m ≡ cond (lacks_row b v vs n xs row) (n + 1) n → HoldsRuns cs m ys (cond wanted (rs ++ r ∷ []) rs)
  request_one e f = by_test wanted refl (e ∙ ap (λ t. cond t (written (run_width * n) row xs) xs) same_test) (f ∙ ap (λ t. cond t (n + 1) n) same_test)

module _ (b : ℕ) (vs : List Verdict) where
  -- requesting two lists one after the other
  pub request-append : (rs xs ys : List Run) → request b vs rs (xs ++ ys) ≡ request b vs (request b vs rs xs) ys
  unfolding request
  request-append rs [] ys = refl
  request-append rs (x ∷ xs) ys = request-append (cond (ltb (length rs) b && lacks vs rs x) (rs ++ x ∷ []) rs) xs ys

  -- with no bench free nothing is requested
  pub request_full : (rs us : List Run) → b ≤ length rs → request b vs rs us ≡ rs
  unfolding request
  request_full rs [] le = refl
  request_full rs (u ∷ us) le = ap (λ t. request b vs (cond (t && lacks vs rs u) (rs ++ u ∷ []) rs) us) (le-ltb (length rs) b le) ∙ request_full rs us le

  -- requesting nothing, and one run before others
  pub request_none : (rs : List Run) → request b vs rs [] ≡ rs
  unfolding request
  request_none rs = refl

  pub request_more : (rs us : List Run) (u : Run) → request b vs rs (u ∷ us) ≡ request b vs (cond (ltb (length rs) b && lacks vs rs u) (rs ++ u ∷ []) rs) us
  unfolding request
  request_more rs us u = refl

  -- what runs goes on
  pub request_longer : (rs us : List Run) → length rs ≤ length (request b vs rs us)
  unfolding request
  request_longer rs [] = omega arith
  request_longer rs (u ∷ us) =
      let t : Bool = ltb (length rs) b && lacks vs rs u in
      let h = request_longer (cond t (rs ++ u ∷ []) rs) us in
      let l : length rs ≤ length (cond t (rs ++ u ∷ []) rs) = cond_both t (rs ++ u ∷ []) rs (λ l. length rs ≤ length l) (λ _. omega (arith, length_push rs u)) (λ _. omega arith) in
      omega arith

-- a change's runs from its p-th part on
pub runs_more : (before : List Change) (n : ℕ) (ps : List ℕ) (p : ℕ) → p < length ps → runs_on before n (drop p ps) ≡ run_on before n (get_or ps p 0) ∷ runs_on before n (drop (p + 1) ps)
runs_more before n ps p lt = at_drop_more (runs_on before n) ps p 0 lt
