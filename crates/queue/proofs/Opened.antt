-- Laws of opening: 0 everywhere and then the config is how an empty queue is written.
use Rattle.std.proofs.Common.{◌≡◌, ℕ, ◌+◌, ◌*◌, List, [], ◌∷◌, ◌++◌, set, replicate, sym, ap, ◌∙◌}
use Rattle.std.proofs.lemmas.List.{append_assoc, replicate-append-replicate}
use Rattle.change.specs.Records.{change_row, change_width}
use Rattle.change.proofs.Tables.{table_none}
use Rattle.run.specs.Records.{run_row, run_width, verdict_row, verdict_width}
use Rattle.run.specs.Layout.{most_landed, most_waiting, most_rejected, most_verdicts, most_running, benches_at, depth_at, queue_length}
use Rattle.run.specs.State.{empty}
use Rattle.run.specs.Numbers.{encode}
use Rattle.queue.specs.Entry.{config}

-- two stretches of 0, one behind the other
zeros : (a b : ℕ) (xs : List ℕ) → replicate a 0 ++ (replicate b 0 ++ xs) ≡ replicate (a + b) 0 ++ xs
zeros a b xs = sym (append_assoc (replicate a 0) (replicate b 0) xs) ∙ ap (λ l. l ++ xs) (replicate-append-replicate a b 0)

-- eight counters and five stretches of 0, of which the first two numbers are set
zeros_set : (b k l w r v n : ℕ) (xs : List ℕ) →
    set (set (replicate (8 + (l + (w + (r + (v + n))))) 0 ++ xs) benches_at b) depth_at k
    ≡ (b ∷ k ∷ 0 ∷ 0 ∷ 0 ∷ 0 ∷ 0 ∷ 0 ∷ []) ++ (replicate l 0 ++ (replicate w 0 ++ (replicate r 0 ++ (replicate v 0 ++ (replicate n 0 ++ xs)))))
zeros_set b k l w r v n xs =
    ap (λ ys. set (set ys benches_at b) depth_at k) (sym (zeros 8 (l + (w + (r + (v + n)))) xs))
    ∙ ap (λ ys. b ∷ k ∷ 0 ∷ 0 ∷ 0 ∷ 0 ∷ 0 ∷ 0 ∷ ys)
    (sym (zeros l (w + (r + (v + n))) xs) ∙ ap (λ ys. replicate l 0 ++ ys)
    (sym (zeros w (r + (v + n)) xs) ∙ ap (λ ys. replicate w 0 ++ ys)
    (sym (zeros r (v + n) xs) ∙ ap (λ ys. replicate r 0 ++ ys) (sym (zeros v n xs)))))

pub opened_is : (b k : ℕ) (behind : List ℕ) → set (set (replicate queue_length 0 ++ behind) benches_at b) depth_at k ≡ encode (config b k) empty behind
unfolding encode
opened_is b k behind =
    zeros_set b k (change_width * most_landed) (change_width * most_waiting) (change_width * most_rejected) (verdict_width * most_verdicts) (run_width * most_running) behind
    ∙ (λ i. b ∷ k ∷ 0 ∷ 0 ∷ 0 ∷ 0 ∷ 0 ∷ 0 ∷ (sym (table_none change_row (change_width * most_landed)) i ++ (sym (table_none change_row (change_width * most_waiting)) i ++ (sym (table_none change_row (change_width * most_rejected)) i ++ (sym (table_none (verdict_row []) (verdict_width * most_verdicts)) i ++ (sym (table_none (run_row []) (run_width * most_running)) i ++ behind))))))
