-- A run of digits that are read as a number.
use Rattle.std.proofs.Common.{◌≡◌, ℕ, Bool, true, false, not, List, [], ◌∷◌, ◌++◌, length, drop, map, take_while, Option, Some, None, is_some, refl, sym, ap, ◌∙◌}
use Rattle.std.specs.List.{list_all}
use Rattle.std.proofs.lemmas.Bool.{and_parts, not-true}
use Rattle.std.proofs.lemmas.List.Sums.{take_while-cons}
use Rattle.icu_table_entries.specs.declared.entry.EntryKind.{EntryKind}
use Rattle.icu_table_entries.specs.declared.entry.EntryKind.TheVariants.{Digit}
use Rattle.icu_table_entries.specs.Entries.{kind_of, digit_value}
use Rattle.icu_table_data.specs.Data.{Data}
use Rattle.icu_table_provider.specs.Tables.{Tables, entry_of, diacritic_of}
use Rattle.icu_element_matches.specs.MatchesAhead.{lone_match}
use Rattle.icu_element_reading.specs.TextElements.{Reading, Step, is_digit_kind, entry_alone, continues_number, digit_of_char, begins_with_mark, number_elements, number_step, entry_step, matched_step, step, consumed, last_two, elements_after}
use Rattle.icu_element_reading.specs.boundaries.Cuts.{ends_run}
use Rattle.icu_element_reading.proofs.StepLemmas.{elements_after_cons}
use Rattle.icu_element_reading.proofs.MatchedAloneLemmas.{digit_match, digit_alone}

at_digit : (k : EntryKind) (a b : Step) → k ≡ Digit → (elim k as (λ _. Step) [ Digit ↦ a | _ ↦ b ]) ≡ a
at_digit Digit a b h = refl
at_digit _ a b h = cc

no_accent : (o : Option ℕ) (f : ℕ → Step) (s : Step) → is_some o ≡ false → (elim o as (λ _. Step) [ Some a ↦ f a | None ↦ s ]) ≡ s
no_accent (Some a) f s h = cc
no_accent None f s h = refl

take_while-run : (p : ℕ → Bool) (ds : List ℕ) (x : ℕ) (text : List ℕ) → list_all p ds ≡ true → p x ≡ false → take_while p (ds ++ x ∷ text) ≡ ds
take_while-run p [] x text all stops = take_while-cons p x text ∙ rw stops refl
take_while-run p (d ∷ ds) x text all stops =
    let parts = and_parts (p d) _ all in
    take_while-cons p d (ds ++ x ∷ text) ∙ rw parts.0 (ap (λ (l : List ℕ). d ∷ l) (take_while-run p ds x text parts.1 stops))

take_while-all : (p : ℕ → Bool) (ds : List ℕ) → list_all p ds ≡ true → take_while p (ds ++ []) ≡ ds
take_while-all p [] all = refl
take_while-all p (d ∷ ds) all =
    let parts = and_parts (p d) _ all in
    take_while-cons p d (ds ++ []) ∙ rw parts.0 (ap (λ (l : List ℕ). d ∷ l) (take_while-all p ds parts.1))

take_while-ended : (tables : Tables) (ds text : List ℕ) → list_all (continues_number tables) ds ≡ true → ends_run tables text ≡ true → take_while (continues_number tables) (ds ++ text) ≡ ds
take_while-ended tables ds [] all ends = take_while-all (continues_number tables) ds all
take_while-ended tables ds (x ∷ text) all ends = take_while-run (continues_number tables) ds x text all (not-true _ ends)

drop_past : (ds text : List ℕ) → drop (length ds) (ds ++ text) ≡ text
drop_past [] text = refl
drop_past (d ∷ ds) text = drop_past ds text

number_step-run : (tables : Tables) (lead entry : ℕ) (ds text : List ℕ) → list_all (continues_number tables) ds ≡ true → ends_run tables text ≡ true → begins_with_mark (ds ++ text) ≡ false
    → number_step tables lead (lone_match entry (ds ++ text)) ≡ record { elements = number_elements lead (digit_value entry ∷ map (digit_of_char tables) ds); suffix = ds; rest = text }
unfolding number_step
number_step-run tables lead entry ds text all ends unmarked =
    let together : List ℕ → Step = λ run. record { elements = number_elements lead (digit_value entry ∷ map (digit_of_char tables) run); suffix = run; rest = drop (length run) (ds ++ text) } in
    let leave : List ℕ → Step = λ r. record { elements = number_elements lead (digit_value entry ∷ map (digit_of_char tables) ds); suffix = ds; rest = r } in
    rw unmarked (ap together (take_while-ended tables ds text all ends) ∙ ap leave (drop_past ds text))

numeric_step : (reading : Reading) (lead : ℕ) (home : Data) (c entry : ℕ) (text : List ℕ) → reading.numeric ≡ Some lead → kind_of entry ≡ Digit
    → entry_step reading home c (lone_match entry text) ≡ number_step reading.tables lead (lone_match entry text)
unfolding entry_step
numeric_step reading lead home c entry text is digit = at_digit (kind_of entry) _ _ digit ∙ rw is refl

-- the digits, up to a character that doesn't go on and to no mark, are one number
pub digits_step : (reading : Reading) (lead : ℕ) (before : List ℕ) (d : ℕ) (ds text : List ℕ) → reading.numeric ≡ Some lead
    → kind_of (entry_of reading.tables d).entry ≡ Digit → list_all (continues_number reading.tables) (d ∷ ds) ≡ true → ends_run reading.tables text ≡ true → begins_with_mark (ds ++ text) ≡ false
    → step reading before d (ds ++ text) ≡ record { elements = number_elements lead (map (digit_of_char reading.tables) (d ∷ ds)); suffix = ds; rest = text }
unfolding matched_step
digits_step reading lead before d ds text is own all ends unmarked =
    let h = entry_of reading.tables d in
    let parts = and_parts (continues_number reading.tables d) _ all in
    let plain = and_parts (not (is_some (diacritic_of reading.tables d))) (is_digit_kind (kind_of (entry_alone reading.tables d))) parts.0 in
    let number : ℕ → Step = λ e. record { elements = number_elements lead (digit_value e ∷ map (digit_of_char reading.tables) ds); suffix = ds; rest = text } in
    no_accent (diacritic_of reading.tables d) _ _ (not-true _ plain.0)
    ∙ ap (entry_step reading h.home d) (digit_match h before (ds ++ text) own)
    ∙ numeric_step reading lead h.home d h.entry (ds ++ text) is own
    ∙ number_step-run reading.tables lead h.entry ds text parts.1 ends unmarked
    ∙ ap number (sym (digit_alone reading.tables d own))

pub elements_after-digits : (reading : Reading) (lead : ℕ) (before : List ℕ) (d : ℕ) (ds text : List ℕ) → reading.numeric ≡ Some lead
    → kind_of (entry_of reading.tables d).entry ≡ Digit → list_all (continues_number reading.tables) (d ∷ ds) ≡ true → ends_run reading.tables text ≡ true → begins_with_mark (ds ++ text) ≡ false
    → elements_after reading before (d ∷ ds ++ text) ≡ number_elements lead (map (digit_of_char reading.tables) (d ∷ ds)) ++ elements_after reading (last_two before (d ∷ ds)) text
elements_after-digits reading lead before d ds text is own all ends unmarked =
    elements_after_cons reading before d (ds ++ text)
    ∙ ap (λ (s : Step). s.elements ++ elements_after reading (last_two before (consumed d s)) s.rest) (digits_step reading lead before d ds text is own all ends unmarked)
