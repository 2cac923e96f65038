-- A step that leaves a starter and all that follows it is that of the characters before the starter alone.
use Rattle.std.proofs.Common.{◌≡◌, ℕ, suc, ◌≤◌, Bool, true, false, not, ◌&&◌, ◌==◌, List, [], ◌∷◌, ◌++◌, length, drop, map, take_while, Option, Some, None, if◌then◌else◌, refl, sym, ap, ◌∙◌, arith, inl, inr, subst, length-append, length-drop}
use Rattle.std.proofs.lemmas.Bool.{cases_Bool, or_from}
use Rattle.std.proofs.lemmas.List.{drop-append-le, nil_from_length}
use Rattle.std.proofs.lemmas.List.Sums.{take_while-cons}
use Rattle.icu_element_reading.proofs.boundaries.StepCuts.{not_accent}
use Rattle.unicode_normalization.specs.Order.{is_starter}
use Rattle.icu_table_entries.specs.declared.entry.EntryKind.{EntryKind}
use Rattle.icu_table_entries.specs.declared.entry.EntryKind.TheVariants.{Digit}
use Rattle.icu_table_entries.specs.Elements.{of_secondary}
use Rattle.icu_table_entries.specs.Entries.{kind_of, digit_value}
use Rattle.icu_table_data.specs.Data.{Data}
use Rattle.icu_table_provider.specs.Tables.{Tables, entry_of, diacritic_of}
use Rattle.icu_element_matches.specs.Matches.{Match, match_of}
use Rattle.icu_element_matches.specs.MatchesAhead.{and_then}
use Rattle.icu_element_reading.specs.TextElements.{Reading, Step, is_diacritic_above, is_silent_dot, continues_number, digit_of_char, begins_with_mark, number_elements, number_step, entry_step, step, matched_step}
use Rattle.icu_element_reading.specs.ReadAhead.{and_more}
use Rattle.icu_element_reading.proofs.Computing.{icu_elements}
use Rattle.icu_element_reading.proofs.StepLemmas.{Rests-entry_step}
use Rattle.icu_element_matches.proofs.ChoiceLemmas.{either_by}
use Rattle.icu_search_places.proofs.FoundEndLemmas.{Keeps, match_of-front}

-- a step leaves at least this many characters
pub record KeepsAt (n : ℕ) (s : Step) : Type 0 where
  pub kept : n ≤ length s.rest

-- ---- choices of which the one that is taken is known to leave so many

either_under : (P : Step → Type 0) (f : Step → Step) (b : Bool) (x x' y y' : Step) → (P x → x ≡ f x') → (P y → y ≡ f y') → P (if b then x else y) → (if b then x else y) ≡ f (if b then x' else y')
either_under P f true x x' y y' p q h = p h
either_under P f false x x' y y' p q h = q h

nil_under : (P : Step → Type 0) (f : Step → Step) (l : List ℕ) (x x' y y' : Step) → (P x → x ≡ f x') → (P y → y ≡ f y') → P (elim l as (λ _. Step) [ [] ↦ x | _ ∷ _ ↦ y ])
    → (elim l as (λ _. Step) [ [] ↦ x | _ ∷ _ ↦ y ]) ≡ f (elim l as (λ _. Step) [ [] ↦ x' | _ ∷ _ ↦ y' ])
nil_under P f [] x x' y y' p q h = p h
nil_under P f (_ ∷ _) x x' y y' p q h = q h

some_under : (P : Step → Type 0) (f : Step → Step) (o : Option ℕ) (g g' : ℕ → Step) (y y' : Step) → ((a : ℕ) → P (g a) → g a ≡ f (g' a)) → (P y → y ≡ f y') → P (elim o as (λ _. Step) [ None ↦ y | Some a ↦ g a ])
    → (elim o as (λ _. Step) [ None ↦ y | Some a ↦ g a ]) ≡ f (elim o as (λ _. Step) [ None ↦ y' | Some a ↦ g' a ])
some_under P f None g g' y y' p q h = q h
some_under P f (Some a) g g' y y' p q h = p a h

some_before : (P : Step → Type 0) (f : Step → Step) (o : Option ℕ) (g g' : ℕ → Step) (y y' : Step) → ((a : ℕ) → P (g a) → g a ≡ f (g' a)) → (P y → y ≡ f y') → P (elim o as (λ _. Step) [ Some a ↦ g a | None ↦ y ])
    → (elim o as (λ _. Step) [ Some a ↦ g a | None ↦ y ]) ≡ f (elim o as (λ _. Step) [ Some a ↦ g' a | None ↦ y' ])
some_before P f None g g' y y' p q h = q h
some_before P f (Some a) g g' y y' p q h = p a h

digit_under : (P : Step → Type 0) (f : Step → Step) (k : EntryKind) (x x' y y' : Step) → (P x → x ≡ f x') → (P y → y ≡ f y') → P (elim k as (λ _. Step) [ Digit ↦ x | _ ↦ y ])
    → (elim k as (λ _. Step) [ Digit ↦ x | _ ↦ y ]) ≡ f (elim k as (λ _. Step) [ Digit ↦ x' | _ ↦ y' ])
digit_under P f Digit x x' y y' p q h = p h
digit_under P f _ x x' y y' p q h = q h

-- ---- numbers

-- a run that ends before x is the run of what stands before x
take_while-front : (p : ℕ → Bool) (front back : List ℕ) → length (take_while p (front ++ back)) ≤ length front → take_while p (front ++ back) ≡ take_while p front
take_while-front p [] back short = nil_from_length (take_while p back) (omega (arith, short))
take_while-front p (c ∷ cs) back short =
    elim (cases_Bool (p c)) [
      | inl goes_on ↦
          let whole : take_while p (c ∷ (cs ++ back)) ≡ c ∷ take_while p (cs ++ back) = take_while-cons p c (cs ++ back) ∙ rw goes_on refl in
          let front : take_while p (c ∷ cs) ≡ c ∷ take_while p cs = take_while-cons p c cs ∙ rw goes_on refl in
          let shorter : length (take_while p (cs ++ back)) ≤ length cs = omega (arith, short, ap length whole) in
          whole ∙ ap (λ (l : List ℕ). c ∷ l) (take_while-front p cs back shorter) ∙ sym front
      | inr stops ↦
          let whole : take_while p (c ∷ (cs ++ back)) ≡ [] = take_while-cons p c (cs ++ back) ∙ rw stops refl in
          let front : take_while p (c ∷ cs) ≡ [] = take_while-cons p c cs ∙ rw stops refl in
          whole ∙ sym front
    ]

begins_with_mark-front : (front : List ℕ) (x : ℕ) (back : List ℕ) → is_starter x ≡ true → begins_with_mark (front ++ x ∷ back) ≡ begins_with_mark front
begins_with_mark-front [] x back h = ap not h
begins_with_mark-front (c ∷ cs) x back h = refl

number_step-front : (tables : Tables) (lead : ℕ) (m : Match) (x : ℕ) (back : List ℕ) → is_starter x ≡ true → KeepsAt (suc (length back)) (number_step tables lead (and_then m (x ∷ back)))
    → number_step tables lead (and_then m (x ∷ back)) ≡ and_more (number_step tables lead m) (x ∷ back)
unfolding number_step
number_step-front tables lead m x back starter keeps =
    let more = x ∷ back in
    let P : Step → Type 0 = KeepsAt (suc (length back)) in
    let f : Step → Step = λ s. and_more s more in
    let whole = m.rest ++ more in
    let run = take_while (continues_number tables) m.rest in
    let whole_run = take_while (continues_number tables) whole in
    let alone : List ℕ → Step = λ r. record { elements = number_elements lead (digit_value m.entry ∷ []); suffix = m.suffix; rest = r } in
    let together : List ℕ → List ℕ → Step = λ run r. record { elements = number_elements lead (digit_value m.entry ∷ map (digit_of_char tables) run); suffix = run; rest = drop (length run) r } in
    let left : List ℕ → Step = λ r. record { elements = number_elements lead (digit_value m.entry ∷ map (digit_of_char tables) run); suffix = run; rest = r } in
    let same_together : P (together whole_run whole) → together whole_run whole ≡ f (together run m.rest) =
    (λ kept.
    let short : length whole_run ≤ length m.rest = omega (arith, kept.kept, length-drop (length whole_run) whole, length-append m.rest more) in
    let same = take_while-front (continues_number tables) m.rest more short in
    let fits : length run ≤ length m.rest = omega (arith, short, ap length same) in
    ap (λ run. together run whole) same ∙ ap left (drop-append-le (length run) m.rest more fits)) in
    let choice : Bool → Step = λ b. if b then alone whole else together whole_run whole in
    let starts = begins_with_mark-front m.rest x back starter in
    nil_under P f m.suffix (choice (begins_with_mark whole)) (if begins_with_mark m.rest then alone m.rest else together run m.rest) (alone whole) (alone m.rest)
    (λ kept. ap choice starts ∙ either_under P f (begins_with_mark m.rest) (alone whole) (alone m.rest) (together whole_run whole) (together run m.rest) (λ _. refl) same_together (subst (λ b. P (choice b)) starts kept))
    (λ _. refl)
    keeps

entry_step-front : (reading : Reading) (home : Data) (c : ℕ) (m : Match) (x : ℕ) (back : List ℕ) → is_starter x ≡ true → KeepsAt (suc (length back)) (entry_step reading home c (and_then m (x ∷ back)))
    → entry_step reading home c (and_then m (x ∷ back)) ≡ and_more (entry_step reading home c m) (x ∷ back)
unfolding entry_step
entry_step-front reading home c m x back starter keeps =
    let P : Step → Type 0 = KeepsAt (suc (length back)) in
    let f : Step → Step = λ s. and_more s (x ∷ back) in
    digit_under P f (kind_of m.entry) _ _ _ _
    (λ kept. some_under P f reading.numeric _ _ _ _ (λ lead kept. number_step-front reading.tables lead m x back starter kept) (λ _. refl) kept)
    (λ _. refl)
    keeps

-- ---- the step

grave_is_mark : is_starter 0x300 ≡ false
unfolding icu_elements
grave_is_mark = refl

acute_is_mark : is_starter 0x301 ≡ false
unfolding icu_elements
acute_is_mark = refl

tilde_is_mark : is_starter 0x303 ≡ false
unfolding icu_elements
tilde_is_mark = refl

is_diacritic_above-front : (front : List ℕ) (x : ℕ) (back : List ℕ) → is_starter x ≡ true → is_diacritic_above (front ++ x ∷ back) ≡ is_diacritic_above front
is_diacritic_above-front [] x back h =
    or_from _ _ (or_from _ _ (not_accent x 0x300 h grave_is_mark) (not_accent x 0x301 h acute_is_mark)) (not_accent x 0x303 h tilde_is_mark)
is_diacritic_above-front (c ∷ cs) x back h = refl

-- what a match leaves at least, where the step that it makes leaves it
letter_keeps : (reading : Reading) (home : Data) (c n : ℕ) (m : Match) → KeepsAt n (entry_step reading home c m) → Keeps n m
letter_keeps reading home c n m keeps = record { kept = omega (arith, keeps.kept, (Rests-entry_step reading home c m).fits) }

-- where a step leaves x and all that follows it, it is that of what stands before x
pub step-front : (reading : Reading) (before : List ℕ) (c : ℕ) (front : List ℕ) (x : ℕ) (back : List ℕ) → is_starter x ≡ true → KeepsAt (suc (length back)) (step reading before c (front ++ x ∷ back))
    → step reading before c (front ++ x ∷ back) ≡ and_more (step reading before c front) (x ∷ back)
unfolding matched_step
step-front reading before c front x back starter keeps =
    let h = entry_of reading.tables c in
    let whole = front ++ x ∷ back in
    let P : Step → Type 0 = KeepsAt (suc (length back)) in
    let f : Step → Step = λ s. and_more s (x ∷ back) in
    let silent : List ℕ → Step = λ text. record { elements = []; suffix = []; rest = text } in
    let accent : ℕ → List ℕ → Step = λ s text. record { elements = of_secondary s ∷ []; suffix = []; rest = text } in
    some_before P f (diacritic_of reading.tables c) _ _ _ _
    (λ s kept.
    ap (λ b. if reading.lithuanian && c == 0x307 && b then silent whole else accent s whole) (is_diacritic_above-front front x back starter)
    ∙ either_by f (is_silent_dot reading.lithuanian c front) (silent whole) (silent front) (accent s whole) (accent s front) refl refl)
    (λ kept.
    let same = match_of-front h before front x back starter (letter_keeps reading h.home c (suc (length back)) (match_of h before whole) kept) in
    ap (entry_step reading h.home c) same
    ∙ entry_step-front reading h.home c (match_of h before front) x back starter (subst (λ m. P (entry_step reading h.home c m)) same kept))
    keeps
