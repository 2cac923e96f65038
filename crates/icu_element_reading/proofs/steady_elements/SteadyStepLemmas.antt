-- The elements of a step, and of the text that it leaves.
use Rattle.std.proofs.Common.{◌≡◌, ℕ, ◌<◌, ◌≤◌, true, false, Option, Some, None, IfSome, is_some, option_to_list, List, [], ◌∷◌, ◌++◌, length, drop, refl, sym, ap, ◌∙◌, append_assoc, arith}
use Rattle.icu_table_entries.specs.Elements.{Element}
use Rattle.icu_table_entries.specs.Entries.{digit_value}
use Rattle.icu_table_data.specs.Data.{HomedEntry}
use Rattle.icu_element_matches.specs.Matches.{Match, match_of}
use Rattle.icu_element_reading.specs.TextElements.{Reading, step, last_two, number_elements, number_step, elements_after}
use Rattle.icu_element_reading.specs.inner.TakenDigits.{run_of, stands_alone}
use Rattle.icu_element_reading.proofs.ReaderLemmas.{last_two-append}
use Rattle.icu_element_reading.proofs.StepLemmas.{Leaves-match_of, elements_after_cons, elements_after_nil}
use Rattle.icu_element_reading.specs.declared.steady_elements.step_elements.StepElements.{StepElements}
use Rattle.icu_element_reading.specs.steady_elements.inner.RunDigits.{run_digits, run_elements}
use Rattle.icu_element_reading.specs.steady_elements.inner.StepElements.{given_left, run_lead, elements_behind, elements_to_give, elements_from, IsBetweenSteps}

-- ---- numbers

-- the match that comes to this entry, with this suffix and this text left
abbrev matched : ℕ → List ℕ → List ℕ → Match
matched e suffix rest = record { entry = e; suffix = suffix; rest = rest }

module _ (reading : Reading) (lead c e : ℕ) (before now : List ℕ) where
  -- a digit that is a number by itself
  pub lone_number : (suffix rest : List ℕ) → stands_alone (matched e suffix rest) ≡ true → now ≡ last_two before (c ∷ suffix)
      → number_elements lead (digit_value e ∷ []) ++ elements_after reading now rest ≡ elements_from reading before c (number_step reading.tables lead (matched e suffix rest))
  unfolding number_step
  lone_number [] rest alone recent =
      rw alone (ap (λ l. number_elements lead (digit_value e ∷ []) ++ elements_after reading l rest) recent)
  lone_number (x ∷ suffix) rest alone recent =
      ap (λ l. number_elements lead (digit_value e ∷ []) ++ elements_after reading l rest) recent

  -- a digit that begins a run
  pub begun_run : (suffix rest : List ℕ) → stands_alone (matched e suffix rest) ≡ false → now ≡ last_two before (c ∷ suffix)
      → run_elements reading lead (digit_value e ∷ []) now rest ≡ elements_from reading before c (number_step reading.tables lead (matched e suffix rest))
  unfolding number_step
  begun_run [] rest together recent =
      let run : List ℕ = run_of reading.tables rest in
      let seen : last_two now run ≡ last_two before (c ∷ run) = ap (λ l. last_two l run) recent ∙ last_two-append before (c ∷ []) run in
      rw together (ap (λ l. number_elements lead (digit_value e ∷ run_digits reading.tables rest) ++ elements_after reading l (drop (length run) rest)) seen)
  begun_run (x ∷ suffix) rest together recent = absurd (cc)

-- ---- what is left of a step

module _ (reading : Reading) (given : StepElements) (before text : List ℕ) where
  -- all of its elements were given, in the midst of a run of digits
  pub amid_run : (lead : ℕ) → given_left given ≡ [] → run_lead given ≡ Some lead → elements_to_give reading given before text ≡ run_elements reading lead [] before text
  amid_run lead none is =
      ap (λ (es : List Element). es ++ elements_behind reading (run_lead given) before text) none
      ∙ ap (λ o. elements_behind reading o before text) is

  -- all of its elements were given, and no run goes on
  pub between_steps : IsBetweenSteps given → elements_to_give reading given before text ≡ elements_after reading before text
  between_steps h =
      ap (λ (es : List Element). es ++ elements_behind reading (run_lead given) before text) h.given_is
      ∙ ap (λ o. elements_behind reading o before text) h.lead_is

  -- then nothing is left where the text is read
  pub none_left : IsBetweenSteps given → text ≡ [] → elements_to_give reading given before text ≡ []
  none_left h none =
      between_steps h ∙ ap (elements_after reading before) none ∙ elements_after_nil reading before

  -- and else the step at the next character comes
  pub step_next : (c : ℕ) (rest : List ℕ) → IsBetweenSteps given → text ≡ c ∷ rest
      → elements_from reading before c (step reading before c rest) ≡ elements_to_give reading given before text
  step_next c rest h is =
      sym (elements_after_cons reading before c rest) ∙ ap (elements_after reading before) (sym is) ∙ sym (between_steps h)

  -- the next of its elements comes first
  pub element_next : (o : Option Element) (now : StepElements) → given_left given ≡ option_to_list o ++ given_left now → run_lead now ≡ run_lead given
      → elements_to_give reading given before text ≡ option_to_list o ++ elements_to_give reading now before text
  element_next o now is run =
      let behind : List Element = elements_behind reading (run_lead given) before text in
      ap (λ (es : List Element). es ++ behind) is
      ∙ append_assoc (option_to_list o) (given_left now) behind
      ∙ ap (λ l. option_to_list o ++ (given_left now ++ elements_behind reading l before text)) (sym run)

  -- none of its elements is left
  pub none_next : (o : Option Element) (now : StepElements) → o ≡ None → given_left given ≡ option_to_list o ++ given_left now → run_lead now ≡ run_lead given
      → elements_to_give reading given before text ≡ elements_to_give reading now before text
  none_next o now none is run =
      element_next o now is run ∙ ap (λ o. option_to_list o ++ elements_to_give reading now before text) none

pub not_some : (o : Option Element) → is_some o ≡ false → o ≡ None
not_some None h = refl
not_some (Some e) h = absurd (cc)

-- after an element fewer are left
pub one_fewer : (o : Option Element) (es fs : List Element) → es ≡ option_to_list o ++ fs → IfSome o (λ _. length fs < length es)
one_fewer None es fs is = tt
one_fewer (Some e) es fs is =
    let all : length es ≡ length (e ∷ fs) = ap length is in omega (arith, all)

-- ---- matches

-- a match leaves no more than stood before it
pub match_shorter : (h : HomedEntry) (before text mid now : List ℕ) (m : Match) → m ≡ match_of h before text → mid ≡ m.rest → length now ≤ length mid → length now ≤ length text
match_shorter h before text mid now m is rest fewer =
    let left : length mid ≡ length (match_of h before text).rest = ap length (rest ∙ ap (λ (m : Match). m.rest) is) in
    omega (arith, left, fewer, (Leaves-match_of h before text).fits)
