-- The part of a text that bears an element, one character after another.
use Rattle.std.proofs.Common.{◌≡◌, ℕ, ◌+◌, Bool, true, false, List, [], ◌∷◌, ◌++◌, Option, length, take, nat_le, refl, sym, ap, ◌∙◌, arith, append_assoc, length-append, if◌then◌else◌}
use Rattle.std.proofs.lemmas.List.{take-append-le, take_all}
use Rattle.unicode_normalization.specs.Forms.{nfd}
use Rattle.icu_element_reading.specs.TextElements.{Reading, elements_of}
use Rattle.icu_table_entries.specs.Elements.{Element}
use Rattle.icu_search_places.specs.SearchPlaces.{is_place}
use Rattle.icu_search_places.specs.declared.place_reader.place_reader.PlaceReader.{PlaceReader}
use Rattle.icu_search_places.specs.place_reader.PlaceReaders.{HasPassed, PassesChar, chars_left, elements_read, places_reading}
use Rattle.text_reasons.specs.Explanations.{elements_up_to, part_of}
use Rattle.text_reasons.specs.BearingParts.{part_from, part_with}

-- so many characters were passed, and the part is the one that is found from there on
pub record PartsPassed {I : Type 0} (steps : I → Option ℕ → I → Type 0) (reading : Reading) (text : List ℕ) (n : ℕ) (r : PlaceReader I) (start k : ℕ) : Type 0 where
  pub front : List ℕ
  pub text_is : front ++ chars_left r ≡ text
  pub passed : HasPassed steps r front
  pub count : length front ≡ k
  pub part : part_from reading text n start k (chars_left r) ≡ part_with reading text n

pub parts_begin : {I : Type 0} (steps : I → Option ℕ → I → Type 0) (reading : Reading) (text : List ℕ) (n : ℕ) (r : PlaceReader I) → chars_left r ≡ text
    → HasPassed steps r [] → PartsPassed steps reading text n r 0 0
parts_begin steps reading text n r left h = record {
  front = [];
  text_is = left;
  passed = h;
  count = refl;
  part = ap (part_from reading text n 0 0) left;
}

module _ {I : Type 0} (steps : I → Option ℕ → I → Type 0) (reading : Reading) (text : List ℕ) (n : ℕ) (old new : PlaceReader I) (start k : ℕ) (here : Bool) where
  -- the characters so far, and one more
  whole : (m : PartsPassed steps reading text n old start k) → (p : PassesChar steps old m.front here new)
      → (m.front ++ p.char ∷ []) ++ chars_left new ≡ text
  whole m p = append_assoc m.front (p.char ∷ []) (chars_left new) ∙ ap (λ (l : List ℕ). m.front ++ l) (sym p.left_is) ∙ m.text_is

  size : (m : PartsPassed steps reading text n old start k) → (p : PassesChar steps old m.front here new)
      → length (m.front ++ p.char ∷ []) ≡ k + 1
  size m p = omega (arith, length-append m.front (p.char ∷ []), m.count)

  -- what was passed is the beginning
  beginning : (m : PartsPassed steps reading text n old start k) → (p : PassesChar steps old m.front here new)
      → take (k + 1) text ≡ m.front ++ p.char ∷ []
  beginning m p =
      ap (take (k + 1)) (sym (whole m p))
      ∙ (take-append-le (k + 1) (m.front ++ p.char ∷ []) (chars_left new) (omega (arith, size m p))
      ∙ take_all (k + 1) (m.front ++ p.char ∷ []) (omega (arith, size m p)))

  at_place : (m : PartsPassed steps reading text n old start k) → (p : PassesChar steps old m.front here new)
      → places_reading old ≡ reading → here ≡ is_place reading text (k + 1)
  at_place m p same =
      p.here_is
      ∙ (ap (λ (r : Reading). is_place r (m.front ++ chars_left old) (length m.front + 1)) same
      ∙ (ap (λ (t : List ℕ). is_place reading t (length m.front + 1)) m.text_is ∙ ap (λ n. is_place reading text (n + 1)) m.count))

  read_there : (m : PartsPassed steps reading text n old start k) → (p : PassesChar steps old m.front here new)
      → places_reading old ≡ reading → here ≡ true → elements_read new ≡ elements_up_to reading text (k + 1)
  read_there m p same h =
      p.elements h
      ∙ (ap (λ (r : Reading). elements_of r (nfd (m.front ++ p.char ∷ []))) same ∙ ap (λ (t : List ℕ). elements_of reading (nfd t)) (sym (beginning m p)))

  -- what is found from the next character on, by whether a place is behind it, and enough elements up to there
  abbrev found : Bool → Bool → List ℕ
  found place enough =
      if place then (if enough then part_of text start (k + 1) else part_from reading text n (k + 1) (k + 1) (chars_left new))
      else part_from reading text n start (k + 1) (chars_left new)

  found_is : (m : PartsPassed steps reading text n old start k) → (p : PassesChar steps old m.front here new)
      → found (is_place reading text (k + 1)) (nat_le n (length (elements_up_to reading text (k + 1)))) ≡ part_with reading text n
  found_is m p = ap (part_from reading text n start k) (sym p.left_is) ∙ m.part

  -- inside of a part
  pub parts_wait : (m : PartsPassed steps reading text n old start k) → PassesChar steps old m.front here new → places_reading old ≡ reading
      → here ≡ false → PartsPassed steps reading text n new start (k + 1)
  parts_wait m p same h = record {
    front = m.front ++ p.char ∷ [];
    text_is = whole m p;
    passed = p.passed;
    count = size m p;
    part =
        ap (λ (b : Bool). found b (nat_le n (length (elements_up_to reading text (k + 1))))) (sym h ∙ at_place m p same)
        ∙ found_is m p;
  }

  -- where a part ends, by how many elements the text has up to there
  enough_is : (m : PartsPassed steps reading text n old start k) → PassesChar steps old m.front here new → places_reading old ≡ reading
      → here ≡ true → found true (nat_le n (length (elements_read new))) ≡ part_with reading text n
  enough_is m p same h =
      ap (λ (es : List Element). found true (nat_le n (length es))) (read_there m p same h)
      ∙ (ap (λ (b : Bool). found b (nat_le n (length (elements_up_to reading text (k + 1))))) (sym h ∙ at_place m p same)
      ∙ found_is m p)

  pub parts_go_on : (m : PartsPassed steps reading text n old start k) → PassesChar steps old m.front here new → places_reading old ≡ reading
      → here ≡ true → nat_le n (length (elements_read new)) ≡ false → PartsPassed steps reading text n new (k + 1) (k + 1)
  parts_go_on m p same h few = record {
    front = m.front ++ p.char ∷ [];
    text_is = whole m p;
    passed = p.passed;
    count = size m p;
    part = ap (found true) (sym few) ∙ enough_is m p same h;
  }

  pub part_found : (m : PartsPassed steps reading text n old start k) → PassesChar steps old m.front here new → places_reading old ≡ reading
      → here ≡ true → nat_le n (length (elements_read new)) ≡ true → part_of text start (k + 1) ≡ part_with reading text n
  part_found m p same h many = ap (found true) (sym many) ∙ enough_is m p same h

-- where no character is left, there is none
pub parts_end : {I : Type 0} (steps : I → Option ℕ → I → Type 0) (reading : Reading) (text : List ℕ) (n : ℕ) (r : PlaceReader I) (start k : ℕ)
    → PartsPassed steps reading text n r start k → chars_left r ≡ [] → [] ≡ part_with reading text n
parts_end steps reading text n r start k m none = ap (part_from reading text n start k) (sym none) ∙ m.part
