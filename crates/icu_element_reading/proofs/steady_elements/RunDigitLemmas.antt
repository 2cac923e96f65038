-- A run of digits that is read number by number is the run.
use Rattle.std.proofs.Common.{◌≡◌, ℕ, zero, suc, ◌<◌, ◌≤◌, inl, inr, if◌then◌else◌, Some, None, slice_get, List, [], ◌∷◌, ◌++◌, length, take, drop, map, refl, sym, ap, ap₂, ◌∙◌, append_assoc, append-nil, arith}
use Rattle.std.proofs.lemmas.List.{take_all, map-append}
use Rattle.std.proofs.Math.ListN.{drop_of_length-le}
use Rattle.std.proofs.Math.Seq.{take-append_seam, drop-append_seam}
use Rattle.icu_table_entries.specs.Elements.{Element, of_primary}
use Rattle.icu_order_levels.specs.Numbers.{number_weights, value_of, without_first_zeros, longest_number, run_weights}
use Rattle.icu_element_matches.proofs.numbers.DigitRunLemmas.{run_turn}
use Rattle.icu_table_provider.specs.Tables.{Tables}
use Rattle.icu_element_reading.specs.declared.reader.recent.RecentChars.{RecentChars}
use Rattle.icu_element_reading.specs.LastChars.{recent_chars}
use Rattle.icu_element_reading.specs.TextElements.{Reading, continues_number, digit_of_char, last_two, number_elements, elements_after}
use Rattle.icu_element_reading.specs.inner.TakenDigits.{run_of}
use Rattle.icu_element_reading.proofs.ReaderLemmas.{last_two-append, none_more}
use Rattle.icu_element_reading.proofs.TakenDigitLemmas.{run_goes_on, run_ends, not_continuing, first_char}
use Rattle.icu_element_reading.proofs.steady_elements.NumberDigitLemmas.{zeros_before}
use Rattle.icu_element_reading.specs.steady_elements.inner.RunDigits.{IsRunEnd, IsDigitRead, IsWholeNumber, run_digits, elements_behind_run, run_elements, started_weights, started_elements}

-- zeros at the front may be dropped before the other digits are read
without_zeros-append : (xs ys : List ℕ) → without_first_zeros (without_first_zeros xs ++ ys) ≡ without_first_zeros (xs ++ ys)
without_zeros-append [] ys = refl
without_zeros-append (zero ∷ xs) ys = without_zeros-append xs ys
without_zeros-append (suc x ∷ xs) ys = refl

-- ---- a whole number, and the digits behind it

abbrev number_first : ℕ → List ℕ → List ℕ → List ℕ
number_first lead ds rs = number_weights lead (value_of ds) ++ run_weights lead rs

module _ (lead : ℕ) (ds : List ℕ) (first : without_first_zeros ds ≡ ds) where
  -- as long as one number may be
  full_number : (rs : List ℕ) → length ds ≡ longest_number → started_weights lead (ds ++ rs) ≡ number_first lead ds rs
  full_number rs full =
      let some : 0 < length (without_first_zeros ds) = omega (arith, ap length first, full) in
      let kept : without_first_zeros (ds ++ rs) ≡ ds ++ rs = zeros_before ds rs some ∙ ap (λ (l : List ℕ). l ++ rs) first in
      let front : take longest_number (ds ++ rs) ≡ ds = ap (λ n. take n (ds ++ rs)) (sym full) ∙ take-append_seam ds rs in
      let back : drop longest_number (ds ++ rs) ≡ rs = ap (λ n. drop n (ds ++ rs)) (sym full) ∙ drop-append_seam ds rs in
      ap₂ (number_first lead) (ap (take longest_number) kept ∙ front) (ap (drop longest_number) kept ∙ back)

  -- before no other digit
  last_number : length ds ≤ longest_number → started_weights lead (ds ++ []) ≡ number_first lead ds []
  last_number fits =
      let kept : without_first_zeros (ds ++ []) ≡ ds = ap without_first_zeros (append-nil ds) ∙ first in
      ap₂ (number_first lead)
      (ap (take longest_number) kept ∙ take_all longest_number ds fits)
      (ap (drop longest_number) kept ∙ drop_of_length-le ds fits)

  whole_number : (tables : Tables) (text : List ℕ) → length ds ≤ longest_number → IsWholeNumber tables ds text
      → started_weights lead (ds ++ run_digits tables text) ≡ number_first lead ds (run_digits tables text)
  whole_number tables text fits (inl full) = full_number (run_digits tables text) full
  whole_number tables text fits (inr none) =
      let no_digits : run_digits tables text ≡ [] = ap (map (digit_of_char tables)) none in
      ap (λ rs. started_weights lead (ds ++ rs)) no_digits ∙ last_number fits ∙ ap (number_first lead ds) (sym no_digits)

-- the elements of a whole number come first, and then those of what is left of the run
pub number_read : (reading : Reading) (lead : ℕ) (ds before text : List ℕ) → without_first_zeros ds ≡ ds → length ds ≤ longest_number → IsWholeNumber reading.tables ds text
    → started_elements reading lead ds before text ≡ map of_primary (number_weights lead (value_of ds)) ++ run_elements reading lead [] before text
number_read reading lead ds before text first fits whole =
    let behind : List Element = elements_behind_run reading before text in
    let digits : List ℕ = run_digits reading.tables text in
    ap (λ ws. map of_primary ws ++ behind) (whole_number lead ds first reading.tables text fits whole)
    ∙ ap (λ (es : List Element). es ++ behind) (map-append of_primary (number_weights lead (value_of ds)) (run_weights lead digits))
    ∙ append_assoc (map of_primary (number_weights lead (value_of ds))) (number_elements lead digits) behind

-- a run begins with a number
pub run_started : (reading : Reading) (lead d : ℕ) (before text : List ℕ) → started_elements reading lead (d ∷ []) before text ≡ run_elements reading lead (d ∷ []) before text
run_started reading lead d before text =
    ap (λ ws. map of_primary ws ++ elements_behind_run reading before text) (sym (run_turn lead (d ∷ run_digits reading.tables text) (omega arith)))

-- zeros at the front of a number may be dropped
pub zeros_dropped : (reading : Reading) (lead : ℕ) (ds before text : List ℕ) → started_elements reading lead (without_first_zeros ds) before text ≡ started_elements reading lead ds before text
zeros_dropped reading lead ds before text =
    ap (λ (l : List ℕ). map of_primary (number_weights lead (value_of (take longest_number l)) ++ run_weights lead (drop longest_number l)) ++ elements_behind_run reading before text)
    (without_zeros-append ds (run_digits reading.tables text))

-- ---- a digit is read

module _ (reading : Reading) (d : ℕ) (before text before_now text_now : List ℕ) (t : IsDigitRead reading.tables d before text before_now text_now) where
  one_char : run_of reading.tables text ≡ t.char ∷ run_of reading.tables text_now
  one_char = ap (run_of reading.tables) t.taken ∙ run_goes_on reading.tables t.char text_now t.continues

  one_digit : run_digits reading.tables text ≡ d ∷ run_digits reading.tables text_now
  one_digit =
      ap (map (digit_of_char reading.tables)) one_char ∙ ap (λ x. x ∷ run_digits reading.tables text_now) (sym t.digit)

  same_behind : elements_behind_run reading before_now text_now ≡ elements_behind_run reading before text
  same_behind =
      let run : List ℕ = run_of reading.tables text_now in
      let seen : last_two before_now run ≡ last_two before (run_of reading.tables text) =
      ap (λ l. last_two l run) t.recent ∙ last_two-append before (t.char ∷ []) run ∙ ap (last_two before) (sym one_char) in
      let left : drop (length run) text_now ≡ drop (length (run_of reading.tables text)) text = rw (one_char, t.taken) refl in
      ap₂ (elements_after reading) seen left

  -- it goes on a run
  pub run_digit_read : (lead : ℕ) → run_elements reading lead (d ∷ []) before_now text_now ≡ run_elements reading lead [] before text
  run_digit_read lead =
      ap₂ (λ (ds : List ℕ) (es : List Element). number_elements lead ds ++ es) (sym one_digit) same_behind

  -- it goes on a number
  pub number_digit_read : (lead : ℕ) (ds : List ℕ) → started_elements reading lead (ds ++ d ∷ []) before_now text_now ≡ started_elements reading lead ds before text
  number_digit_read lead ds =
      let rest : List ℕ = run_digits reading.tables text_now in
      ap₂ (λ (l : List ℕ) (es : List Element). map of_primary (started_weights lead l) ++ es)
      (append_assoc ds (d ∷ []) rest ∙ ap (λ l. ds ++ l) (sym one_digit)) same_behind

  pub fewer_chars : length text_now < length text
  fewer_chars = let all : length text ≡ length (t.char ∷ text_now) = ap length t.taken in omega (arith, all)

-- no digit comes next
pub run_over : (reading : Reading) (lead : ℕ) (r : RecentChars) (text : List ℕ) → run_of reading.tables text ≡ []
    → run_elements reading lead [] (recent_chars r) text ≡ elements_after reading (recent_chars r) text
run_over reading lead r text none =
    let by : List ℕ → List Element = λ run. number_elements lead (map (digit_of_char reading.tables) run) ++ elements_after reading (last_two (recent_chars r) run) (drop (length run) text) in
    ap by none ∙ ap (λ l. elements_after reading l text) (none_more r)

-- ---- taking a digit

-- the next character is none that goes on a number
pub no_digit_left : (tables : Tables) (before text before_now text_now : List ℕ) (c d : ℕ) → slice_get text 0 ≡ Some c → (if continues_number tables c then Some d else None) ≡ None
    → text_now ≡ text → before_now ≡ before → IsRunEnd tables before text before_now text_now
no_digit_left tables before text before_now text_now c d first off unread recent = record {
  run = ap (run_of tables) (first_char text c first) ∙ run_ends tables c (drop 1 text) (not_continuing (continues_number tables c) d off);
  unread = unread;
  recent = recent;
}
