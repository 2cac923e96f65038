-- The lines of the parts of a text, one character after another.
use Rattle.std.proofs.Common.{◌≡◌, ℕ, ◌+◌, Bool, true, false, List, [], ◌∷◌, ◌++◌, Option, length, drop, take, refl, sym, ap, ◌∙◌, arith, append_assoc, append-nil, length-append, if◌then◌else◌}
use Rattle.std.proofs.lemmas.List.{take-append-le, take_all}
use Rattle.unicode_normalization.specs.Forms.{nfd}
use Rattle.icu_element_reading.specs.TextElements.{Reading, elements_of}
use Rattle.icu_table_entries.specs.Elements.{Element}
use Rattle.icu_search_places.specs.SearchPlaces.{is_place}
use Rattle.icu_search_places.specs.declared.place_reader.place_reader.PlaceReader.{PlaceReader}
use Rattle.icu_search_places.specs.place_reader.PlaceReaders.{HasPassed, PassesChar, chars_left, elements_read, places_reading}
use Rattle.text_reasons.specs.Explanations.{elements_up_to, explanation_of, lines_from, part_line, part_of}

-- so many characters were passed, and the lines of what was passed, and then those of what is left, are all
pub record LinesPassed {I : Type 0} (steps : I → Option ℕ → I → Type 0) (reading : Reading) (text : List ℕ) (r : PlaceReader I) (start given k : ℕ) (output : List ℕ) : Type 0 where
  pub front : List ℕ
  pub text_is : front ++ chars_left r ≡ text
  pub passed : HasPassed steps r front
  pub count : length front ≡ k
  pub lines : output ++ lines_from reading text start given k (chars_left r) ≡ explanation_of reading text

pub lines_begin : {I : Type 0} (steps : I → Option ℕ → I → Type 0) (reading : Reading) (text : List ℕ) (r : PlaceReader I) → chars_left r ≡ text
    → HasPassed steps r [] → LinesPassed steps reading text r 0 0 0 []
lines_begin steps reading text r left h = record {
  front = [];
  text_is = left;
  passed = h;
  count = refl;
  lines = ap (lines_from reading text 0 0 0) left;
}

module _ {I : Type 0} (steps : I → Option ℕ → I → Type 0) (reading : Reading) (text : List ℕ) (old new : PlaceReader I) (start given k : ℕ) (output : List ℕ) (here : Bool) where
  -- the characters so far, and one more
  whole : (m : LinesPassed steps reading text old start given k output) → (p : PassesChar steps old m.front here new)
      → (m.front ++ p.char ∷ []) ++ chars_left new ≡ text
  whole m p = append_assoc m.front (p.char ∷ []) (chars_left new) ∙ ap (λ (l : List ℕ). m.front ++ l) (sym p.left_is) ∙ m.text_is

  size : (m : LinesPassed steps reading text old start given k output) → (p : PassesChar steps old m.front here new)
      → length (m.front ++ p.char ∷ []) ≡ k + 1
  size m p = omega (arith, length-append m.front (p.char ∷ []), m.count)

  -- what was passed is the beginning
  beginning : (m : LinesPassed steps reading text old start given k output) → (p : PassesChar steps old m.front here new)
      → take (k + 1) text ≡ m.front ++ p.char ∷ []
  beginning m p =
      ap (take (k + 1)) (sym (whole m p))
      ∙ (take-append-le (k + 1) (m.front ++ p.char ∷ []) (chars_left new) (omega (arith, size m p))
      ∙ take_all (k + 1) (m.front ++ p.char ∷ []) (omega (arith, size m p)))

  at_place : (m : LinesPassed steps reading text old start given k output) → (p : PassesChar steps old m.front here new)
      → places_reading old ≡ reading → here ≡ is_place reading text (k + 1)
  at_place m p same =
      p.here_is
      ∙ (ap (λ (r : Reading). is_place r (m.front ++ chars_left old) (length m.front + 1)) same
      ∙ (ap (λ (t : List ℕ). is_place reading t (length m.front + 1)) m.text_is ∙ ap (λ n. is_place reading text (n + 1)) m.count))

  read_there : (m : LinesPassed steps reading text old start given k output) → (p : PassesChar steps old m.front here new)
      → places_reading old ≡ reading → here ≡ true → elements_read new ≡ elements_up_to reading text (k + 1)
  read_there m p same h =
      p.elements h
      ∙ (ap (λ (r : Reading). elements_of r (nfd (m.front ++ p.char ∷ []))) same ∙ ap (λ (t : List ℕ). elements_of reading (nfd t)) (sym (beginning m p)))

  -- inside of a part
  pub lines_wait : (m : LinesPassed steps reading text old start given k output) → PassesChar steps old m.front here new → places_reading old ≡ reading
      → here ≡ false → LinesPassed steps reading text new start given (k + 1) output
  lines_wait m p same h = record {
    front = m.front ++ p.char ∷ [];
    text_is = whole m p;
    passed = p.passed;
    count = size m p;
    lines =
        ap (λ (b : Bool). output ++ (if b
        then part_line (part_of text start (k + 1)) (drop given (elements_up_to reading text (k + 1)))
        ++ lines_from reading text (k + 1) (length (elements_up_to reading text (k + 1))) (k + 1) (chars_left new)
        else lines_from reading text start given (k + 1) (chars_left new))) (sym h ∙ at_place m p same)
        ∙ (ap (λ (l : List ℕ). output ++ lines_from reading text start given k l) (sym p.left_is) ∙ m.lines);
  }

  -- where a part ends
  pub lines_go_on : (m : LinesPassed steps reading text old start given k output) → PassesChar steps old m.front here new → places_reading old ≡ reading
      → here ≡ true
      → LinesPassed steps reading text new (k + 1) (length (elements_read new)) (k + 1)
      (output ++ part_line (part_of text start (k + 1)) (drop given (elements_read new)))
  lines_go_on m p same h = record {
    front = m.front ++ p.char ∷ [];
    text_is = whole m p;
    passed = p.passed;
    count = size m p;
    lines =
        ap (λ (es : List Element). (output ++ part_line (part_of text start (k + 1)) (drop given es))
        ++ lines_from reading text (k + 1) (length es) (k + 1) (chars_left new)) (read_there m p same h)
        ∙ (append_assoc output (part_line (part_of text start (k + 1)) (drop given (elements_up_to reading text (k + 1))))
        (lines_from reading text (k + 1) (length (elements_up_to reading text (k + 1))) (k + 1) (chars_left new))
        ∙ (ap (λ (b : Bool). output ++ (if b
        then part_line (part_of text start (k + 1)) (drop given (elements_up_to reading text (k + 1)))
        ++ lines_from reading text (k + 1) (length (elements_up_to reading text (k + 1))) (k + 1) (chars_left new)
        else lines_from reading text start given (k + 1) (chars_left new))) (sym h ∙ at_place m p same)
        ∙ (ap (λ (l : List ℕ). output ++ lines_from reading text start given k l) (sym p.left_is) ∙ m.lines)));
  }

-- where no character is left, all lines are there
pub lines_end : {I : Type 0} (steps : I → Option ℕ → I → Type 0) (reading : Reading) (text : List ℕ) (r : PlaceReader I) (start given k : ℕ) (output : List ℕ)
    → LinesPassed steps reading text r start given k output → chars_left r ≡ [] → output ≡ explanation_of reading text
lines_end steps reading text r start given k output m none =
    sym (append-nil output) ∙ (ap (λ (l : List ℕ). output ++ lines_from reading text start given k l) (sym none) ∙ m.lines)
