-- A day is played event by event. Assumes nothing.
use Rattle.std.proofs.Common.{◌≡◌, ℕ, true, List, [], ◌∷◌, ◌++◌, Some, None, codes, sym, refl, ap, ◌∙◌, true≢false, Ok, Err}
use Rattle.std.specs.declared.fmt.Formatter.{Formatter}
use Rattle.std.specs.Fmt.{IsPlainFormatter, HasWritten}
use Rattle.run.proofs.Writing.{Sofar, sofar_more, sofar_all}
use Rattle.queue.specs.Entry.{Reply}
use Rattle.queue.specs.Refusals.{refusal_text}
use Rattle.queue.specs.declared.reply.Refusal.{Refusal}
use Rattle.promises.specs.Lent.{is_done}
use Rattle.day.specs.Day.{answered, printed, lines, ends, started_text, text_from, day_text}
use Rattle.day.specs.DayFile.{config_read, events_in}
use Rattle.day.specs.Played.{started}

module _ {W : Type 0} (took : W → List ℕ → W → Type 0) (f : Formatter W) (most : ℕ) (whole last : List ℕ) where
  -- these numbers and events are left of a day that holds at most so many changes: its lines so far were written, and the numbers at its end are the last
  pub record Underway (xs : List ℕ) (es : List (List ℕ)) (g : Formatter W) : Type 0 where
    pub text : Sofar took f whole (lines most xs es) g
    pub end : ends most xs es ≡ last

  pub underway_more : (xs e ys : List ℕ) (es more : List (List ℕ)) (r : Reply) (g h : Formatter W) → Underway xs es g → es ≡ e ∷ more → (r, ys) ≡ answered most xs e →
      (IsPlainFormatter g → HasWritten took g (printed (r, ys)) h) → Underway ys more h
  unfolding lines ends
  underway_more xs e ys es more r g h u is a k = record {
    text = sofar_more took f whole _ g (printed (r, ys)) (lines most ys more) h u.text (ap (lines most xs) is ∙ ap (λ b. printed b ++ lines most b.1 more) (sym a)) k;
    end = sym (ap (ends most xs) is ∙ ap (λ b. ends most b.1 more) (sym a)) ∙ u.end;
  }

  pub underway_text : (xs : List ℕ) (es : List (List ℕ)) (g : Formatter W) → Underway xs es g → es ≡ [] → IsPlainFormatter f → HasWritten took f whole g
  unfolding lines
  underway_text xs es g u e = sofar_all took f whole _ g u.text (ap (lines most xs) e)

  pub underway_end : (xs : List ℕ) (es : List (List ℕ)) (g : Formatter W) → Underway xs es g → es ≡ [] → xs ≡ last
  unfolding ends
  underway_end xs es g u e = sym (ap (ends most xs) e) ∙ u.end

-- a file without a config, and one with a config that opens the queue or is refused
pub text_none : (most : ℕ) (bs : List ℕ) → config_read bs ≡ None → day_text most bs ≡ []
unfolding day_text
text_none most bs e = ap (λ o. text_from most o (events_in bs)) e

module _ (most : ℕ) (bs : List ℕ) (t : ℕ × ℕ) (e : config_read bs ≡ Some t) where
  text-started : day_text most bs ≡ started_text most (started t.0 t.1).0 (started t.0 t.1).1 (events_in bs)
  unfolding day_text
  text-started = ap (λ o. text_from most o (events_in bs)) e

  done-text : (r : Reply) (xs : List ℕ) (es : List (List ℕ)) → is_done r ≡ true → started_text most r xs es ≡ lines most xs es
  done-text (Ok n) xs es d = refl
  done-text (Err r) xs es d = absurd (true≢false (sym d))

  pub text-done : (ys : List ℕ) → is_done (started t.0 t.1).0 ≡ true → ys ≡ (started t.0 t.1).1 → day_text most bs ≡ lines most ys (events_in bs)
  text-done ys d b = text-started ∙ done-text (started t.0 t.1).0 _ _ d ∙ ap (λ (l : List ℕ). lines most l (events_in bs)) (sym b)

  pub text_refused : (r : Refusal) → (started t.0 t.1).0 ≡ Err r → day_text most bs ≡ refusal_text r ++ codes "\n"
  text_refused r a = text-started ∙ ap (λ (s : Reply). started_text most s (started t.0 t.1).1 (events_in bs)) a
