-- The elements of a text are those of one step and of what it leaves: a step leaves no more than stood after its
-- character, so any list that is long enough will do to go by.
use Rattle.std.proofs.Common.{◌≡◌, ℕ, ◌+◌, ◌≤◌, List, [], ◌∷◌, ◌++◌, length, drop, map, take_while, refl, ap, arith, length-append, length-drop}
use Rattle.icu_table_entries.specs.declared.entry.EntryKind.{EntryKind}
use Rattle.icu_table_entries.specs.declared.entry.EntryKind.TheVariants.{Contraction, Digit}
use Rattle.icu_table_entries.specs.Elements.{Element, of_secondary}
use Rattle.icu_table_entries.specs.Entries.{kind_of, digit_value}
use Rattle.icu_table_data.specs.Data.{Mapping, Context, Data, HomedEntry, mapping_entry, longest_mapping}
use Rattle.icu_table_provider.specs.Tables.{Tables, entry_of, diacritic_of}
use Rattle.unicode_normalization.specs.Order.{is_starter}
use Rattle.icu_element_matches.specs.Matches.{Match, after_prefix, is_blocked, with_marks, contracted, match_from, match_of}
use Rattle.icu_element_reading.specs.TextElements.{Reading, Step, continues_number, digit_of_char, number_elements, number_step, entry_step, matched_step, step, consumed, last_two, elements_along, elements_after}
use Rattle.icu_element_matches.proofs.ChoiceLemmas.{either, maybe_any, at_nil}

-- ---- matches

-- a match leaves at most this many characters
pub record Leaves (n : ℕ) (m : Match) : Type 0 where
  pub fits : length m.rest ≤ n

Leaves-with_marks : (mappings : List Mapping) (entry : ℕ) (suffix passed text : List ℕ) → Leaves (length passed + length text) (with_marks mappings entry suffix passed text)
unfolding with_marks
Leaves-with_marks mappings entry suffix passed [] = record { fits = omega arith }
Leaves-with_marks mappings entry suffix passed (m ∷ ms) =
    let n = length passed + length (m ∷ ms) in
    let over : Leaves n (with_marks mappings entry suffix (passed ++ m ∷ []) ms) =
    record { fits = omega (arith, (Leaves-with_marks mappings entry suffix (passed ++ m ∷ []) ms).fits, length-append passed (m ∷ [])) } in
    either (Leaves n) (is_starter m) _ _ (record { fits = simp length-append (omega arith) })
    (either (Leaves n) (is_blocked passed m) _ _ over
    (maybe_any (Leaves n) (mapping_entry mappings (suffix ++ m ∷ [])) _ _ (λ joined. record { fits = omega (arith, (Leaves-with_marks mappings joined (suffix ++ m ∷ []) passed ms).fits) }) over))

Leaves-contracted : (context : Context) (text : List ℕ) → Leaves (length text) (contracted context text)
unfolding contracted
Leaves-contracted context text =
    maybe_any (Leaves (length text)) (longest_mapping context.mappings text) _ _
    (λ mapping. record { fits = omega (arith, (Leaves-with_marks context.mappings mapping.entry mapping.chars [] (drop (length mapping.chars) text)).fits, length-drop (length mapping.chars) text) })
    (record { fits = omega (arith, (Leaves-with_marks context.mappings context.default [] [] text).fits) })

at_contraction : (P : Match → Type 0) (k : EntryKind) (x y : Match) → P x → P y → P (elim k as (λ _. Match) [ Contraction ↦ x | _ ↦ y ])
at_contraction P Contraction x y p q = p
at_contraction P _ x y p q = q

pub Leaves-match_of : (h : HomedEntry) (before text : List ℕ) → Leaves (length text) (match_of h before text)
unfolding match_from
Leaves-match_of h before text =
    let alone : Match = record { entry = after_prefix h before; suffix = []; rest = text } in
    at_contraction (Leaves (length text)) _ _ alone (Leaves-contracted _ text) (record { fits = omega arith })

-- ---- steps

-- a step leaves at most this many characters
pub record Rests (n : ℕ) (s : Step) : Type 0 where
  pub fits : length s.rest ≤ n

pub at_digit : (P : Step → Type 0) (k : EntryKind) (x y : Step) → P x → P y → P (elim k as (λ _. Step) [ Digit ↦ x | _ ↦ y ])
at_digit P Digit x y p q = p
at_digit P _ x y p q = q

Rests-number_step : (tables : Tables) (lead : ℕ) (m : Match) → Rests (length m.rest) (number_step tables lead m)
unfolding number_step
Rests-number_step tables lead m =
    let run = take_while (continues_number tables) m.rest in
    let alone : Step = record { elements = number_elements lead (digit_value m.entry ∷ []); suffix = m.suffix; rest = m.rest } in
    let together : Step = record { elements = number_elements lead (digit_value m.entry ∷ map (digit_of_char tables) run); suffix = run; rest = drop (length run) m.rest } in
    at_nil (Rests (length m.rest)) m.suffix _ alone (either (Rests (length m.rest)) _ alone together (record { fits = omega arith }) (record { fits = simp length-drop (omega arith) })) (record { fits = omega arith })

pub Rests-entry_step : (reading : Reading) (home : Data) (c : ℕ) (m : Match) → Rests (length m.rest) (entry_step reading home c m)
unfolding entry_step
Rests-entry_step reading home c m =
    at_digit (Rests (length m.rest)) (kind_of m.entry) _ _
    (maybe_any (Rests (length m.rest)) reading.numeric _ _ (λ lead. Rests-number_step reading.tables lead m) (record { fits = omega arith }))
    (record { fits = omega arith })

pub Rests-step : (reading : Reading) (before : List ℕ) (c : ℕ) (text : List ℕ) → Rests (length text) (step reading before c text)
unfolding matched_step
Rests-step reading before c text =
    let h = entry_of reading.tables c in
    let m = match_of h before text in
    let silent : Step = record { elements = []; suffix = []; rest = text } in
    let sounding : ℕ → Step = λ s. record { elements = of_secondary s ∷ []; suffix = []; rest = text } in
    maybe_any (Rests (length text)) (diacritic_of reading.tables c) _ (entry_step reading h.home c m) (λ s. either (Rests (length text)) _ silent (sounding s) (record { fits = omega arith }) (record { fits = omega arith }))
    (record { fits = omega (arith, (Rests-entry_step reading h.home c m).fits, (Leaves-match_of h before text).fits) })

-- ---- texts

-- any list that is long enough will do to go by
pub elements_along-enough : (reading : Reading) (along others before text : List ℕ) → length text ≤ length along → length text ≤ length others → elements_along along reading before text ≡ elements_along others reading before text
unfolding elements_along
elements_along-enough reading along others before [] fits fit = refl
elements_along-enough reading [] others before (c ∷ text) fits fit = absurd (omega arith)
elements_along-enough reading (_ ∷ along) [] before (c ∷ text) fits fit = absurd (omega arith)
elements_along-enough reading (_ ∷ along) (_ ∷ others) before (c ∷ text) fits fit =
    let s = step reading before c text in
    ap (λ (es : List Element). s.elements ++ es)
    (elements_along-enough reading along others (last_two before (consumed c s)) s.rest (omega (arith, (Rests-step reading before c text).fits)) (omega (arith, (Rests-step reading before c text).fits)))

-- one step, and then the rest
pub elements_after_cons : (reading : Reading) (before : List ℕ) (c : ℕ) (text : List ℕ)
    → elements_after reading before (c ∷ text) ≡ (step reading before c text).elements ++ elements_after reading (last_two before (consumed c (step reading before c text))) (step reading before c text).rest
unfolding elements_after elements_along
elements_after_cons reading before c text =
    let s = step reading before c text in
    let shorter = (Rests-step reading before c text).fits in
    ap (λ (es : List Element). s.elements ++ es)
    (elements_along-enough reading text s.rest (last_two before (consumed c s)) s.rest shorter (omega arith))

-- nothing has no elements
pub elements_after_nil : (reading : Reading) (before : List ℕ) → elements_after reading before [] ≡ []
unfolding elements_after elements_along
elements_after_nil reading before = refl
