-- Runs of digits that are read as numbers.
use Rattle.std.proofs.Common.{nat_lt, ◌≡◌, ℕ, zero, suc, ◌<◌, ◌≤◌, true, false, not, List, [], ◌∷◌, ◌++◌, length, take, drop, map, Some, refl, sym, ap, ap₂, ◌∙◌, append-nil, append_assoc, arith, zero-le}
use Rattle.std.specs.List.{list_all}
use Rattle.std.proofs.lemmas.Bool.{and_parts, and_from, ltb-true, lt-ltb}
use Rattle.std.proofs.lemmas.List.{take_all, map-append}
use Rattle.std.proofs.Math.ListN.{drop_of_length-le}
use Rattle.std.proofs.lemmas.List.Folds.{list_all-append}
use Rattle.unicode_normalization.specs.Forms.{nfd}
use Rattle.unicode_normalization.proofs.TableFacts.{class_of_latin}
use Rattle.icu_table_entries.specs.declared.entry.EntryKind.TheVariants.{Digit}
use Rattle.icu_table_entries.specs.Elements.{Element, of_primary}
use Rattle.icu_table_entries.specs.Entries.{kind_of}
use Rattle.icu_table_provider.specs.Tables.{entry_of}
use Rattle.icu_order_levels.specs.Numbers.{number_weights, value_of, without_first_zeros, longest_number, run_weights}
use Rattle.icu_element_matches.proofs.numbers.DigitRunLemmas.{run_turn}
use Rattle.icu_element_reading.specs.TextElements.{Reading, continues_number, digit_of_char, begins_with_mark, number_elements, last_two, elements_after}
use Rattle.icu_element_reading.proofs.StepLemmas.{elements_after_nil}
use Rattle.icu_element_reading.proofs.boundaries.NumberRunLemmas.{elements_after-digits}
use Rattle.icu_element_reading.proofs.boundaries.LetterLemmas.{low_text}
use Rattle.icu_element_reading.proofs.boundaries.NfdLemmas.{nfd-nil}
use Rattle.icu_element_facts.specs.KeptFacts.{IsNumberDigit}
use Rattle.icu_element_cursor.specs.inner.NumberElements.{IsDigitRun, IsNumberPiece}
use Rattle.icu_element_reading.specs.boundaries.Places.{BeginsAtBoundary}

-- ---- runs

-- no digit yet
pub run_begun : (reading : Reading) (text digits : List ℕ) → IsDigitRun reading text text digits digits
run_begun reading text digits = record { chars = []; parts = refl; low = refl; continues = refl; values = sym (append-nil digits) }

-- one more
pub run_more : (reading : Reading) (text rest after old new : List ℕ) (c d : ℕ) → IsDigitRun reading text rest old new → rest ≡ c ∷ after → IsNumberDigit reading c d
    → IsDigitRun reading text after old (new ++ d ∷ [])
run_more reading text rest after old new c d h next is = record {
  chars = h.chars ++ c ∷ [];
  parts = h.parts ∙ ap (λ (l : List ℕ). h.chars ++ l) next ∙ sym (append_assoc h.chars (c ∷ []) after);
  low = list_all-append (λ x. nat_lt x 0xC0) h.chars (c ∷ []) ∙ and_from _ _ h.low (and_from _ _ (lt-ltb c 0xC0 is.low) refl);
  continues = list_all-append (continues_number reading.tables) h.chars (c ∷ []) ∙ and_from _ _ h.continues (and_from _ _ is.continues refl);
  values =
      ap₂ (λ (l : List ℕ) (e : ℕ). l ++ e ∷ []) h.values (sym is.value)
      ∙ append_assoc old (map (digit_of_char reading.tables) h.chars) (digit_of_char reading.tables c ∷ [])
      ∙ ap (λ (l : List ℕ). old ++ l) (sym (map-append (digit_of_char reading.tables) h.chars (c ∷ [])));
}

-- ---- numbers

-- a low character is no mark
unmarked : (cs : List ℕ) → list_all (λ c. nat_lt c 0xC0) cs ≡ true → begins_with_mark (cs ++ []) ≡ false
unmarked [] low = refl
unmarked (c ∷ cs) low =
    let parts = and_parts (nat_lt c 0xC0) _ low in
    ap not (class_of_latin c zero-le (omega (arith, ltb-true c 0xC0 parts.0)))

low_piece : (cs : List ℕ) → list_all (λ c. nat_lt c 0xC0) cs ≡ true → nfd cs ≡ cs ++ []
low_piece cs low = ap nfd (sym (append-nil cs)) ∙ low_text cs [] low ∙ ap (λ (l : List ℕ). cs ++ l) nfd-nil

-- a text of digits is one number
digits_alone : (reading : Reading) (lead : ℕ) (c : ℕ) (cs before : List ℕ) → reading.numeric ≡ Some lead → kind_of (entry_of reading.tables c).entry ≡ Digit → list_all (λ c. nat_lt c 0xC0) (c ∷ cs) ≡ true
    → list_all (continues_number reading.tables) (c ∷ cs) ≡ true
    → elements_after reading before (nfd (c ∷ cs)) ≡ number_elements lead (map (digit_of_char reading.tables) (c ∷ cs))
digits_alone reading lead c cs before numeric own low continues =
    let parts = and_parts (nat_lt c 0xC0) _ low in
    let es = number_elements lead (map (digit_of_char reading.tables) (c ∷ cs)) in
    ap (elements_after reading before) (low_piece (c ∷ cs) low)
    ∙ elements_after-digits reading lead before c cs [] numeric own continues refl (unmarked cs parts.1)
    ∙ ap (λ (l : List Element). es ++ l) (elements_after_nil reading (last_two before (c ∷ cs)))
    ∙ append-nil es

-- a digit and the run after it
pub number_piece : (reading : Reading) (lead c d : ℕ) (text rest digits : List ℕ) (es : List Element) → reading.numeric ≡ Some lead → IsNumberDigit reading c d
    → IsDigitRun reading text rest (d ∷ []) digits → BeginsAtBoundary reading rest → es ≡ number_elements lead digits → IsNumberPiece reading (c ∷ text) rest es
number_piece reading lead c d text rest digits es numeric is run boundary given = record {
  piece = c ∷ run.chars;
  parts = ap (λ (l : List ℕ). c ∷ l) run.parts;
  boundary = boundary;
  elements = λ before.
      given
      ∙ ap (number_elements lead) (run.values ∙ ap (λ (e : ℕ). e ∷ map (digit_of_char reading.tables) run.chars) (sym is.value))
      ∙ sym (digits_alone reading lead c run.chars before numeric is.own (and_from _ _ (lt-ltb c 0xC0 is.low) run.low) (and_from _ _ is.continues run.continues));
}

-- ---- short ones

-- digits that begin with none that is 0, as many as one number has at most
one_number : (lead : ℕ) (kept : List ℕ) → length kept ≤ longest_number
    → number_weights lead (value_of (take longest_number kept)) ++ run_weights lead (drop longest_number kept) ≡ number_weights lead (value_of kept)
one_number lead kept fits =
    ap₂ (λ (ds es : List ℕ). number_weights lead (value_of ds) ++ run_weights lead es) (take_all longest_number kept fits) (drop_of_length-le kept fits)
    ∙ append-nil (number_weights lead (value_of kept))

pub short_number : (lead : ℕ) (digits kept : List ℕ) → 0 < length digits → kept ≡ without_first_zeros digits → length kept ≤ longest_number
    → map of_primary (number_weights lead (value_of kept)) ≡ number_elements lead digits
short_number lead digits kept some is fits =
    ap (map of_primary)
    (sym (one_number lead kept fits)
    ∙ ap (λ (ds : List ℕ). number_weights lead (value_of (take longest_number ds)) ++ run_weights lead (drop longest_number ds)) is
    ∙ sym (run_turn lead digits some))

pub kept_first : (digits kept : List ℕ) → kept ≡ without_first_zeros digits → without_first_zeros kept ≡ kept
kept_first digits kept is = ap without_first_zeros is ∙ no_zeros_twice digits ∙ sym is
  where
    no_zeros_twice : (ds : List ℕ) → without_first_zeros (without_first_zeros ds) ≡ without_first_zeros ds
    no_zeros_twice [] = refl
    no_zeros_twice (zero ∷ ds) = no_zeros_twice ds
    no_zeros_twice (suc d ∷ ds) = refl
