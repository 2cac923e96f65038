-- Marks of places, one offset after another.
use Rattle.std.proofs.Common.{◌≡◌, ℕ, ◌+◌, ◌<◌, ◌≤◌, Bool, true, List, [], ◌∷◌, ◌++◌, Option, Some, length, refl, sym, ap, ◌∙◌, arith, inl, inr, subst, append_assoc, append-nil, length-append}
use Rattle.std.specs.Prelude.{slice_get}
use Rattle.std.proofs.Math.Seq.{get_or-append_seam}
use Rattle.std.proofs.lemmas.Bool.{cases_lt}
use Rattle.std.proofs.lemmas.List.{get_or_append_left}
use Rattle.std.proofs.lemmas.Option.{slice_get-get_or}
use Rattle.icu_element_reading.specs.TextElements.{Reading}
use Rattle.icu_search_places.specs.SearchPlaces.{is_place}
use Rattle.icu_search_places.specs.declared.place_reader.place_reader.PlaceReader.{PlaceReader}
use Rattle.icu_search_places.specs.place_reader.PlaceMarks.{MarksPlaces}
use Rattle.icu_search_places.specs.place_reader.PlaceReaders.{HasPassed, PassesChar, chars_left, places_reading}

before_last : (marks : List Bool) (here : Bool) (k : ℕ) → k < length marks → slice_get (marks ++ here ∷ []) k ≡ slice_get marks k
before_last marks here k inside =
    slice_get-get_or (marks ++ here ∷ []) k true (omega (arith, inside, length-append marks (here ∷ [])))
    ∙ ap (λ b. Some b) (get_or_append_left marks (here ∷ []) true k inside) ∙ sym (slice_get-get_or marks k true inside)

at_last : (marks : List Bool) (here : Bool) → slice_get (marks ++ here ∷ []) (length marks) ≡ Some here
at_last marks here =
    slice_get-get_or (marks ++ here ∷ []) (length marks) true (omega (arith, length-append marks (here ∷ [])))
    ∙ ap (λ b. Some b) (get_or-append_seam marks here [] true)

-- the offsets of what was passed have their marks
pub record MarksPassed {I : Type 0} (steps : I → Option ℕ → I → Type 0) (reading : Reading) (text : List ℕ) (r : PlaceReader I) (marks : List Bool) : Type 0 where
  pub front : List ℕ
  pub text_is : front ++ chars_left r ≡ text
  pub passed : HasPassed steps r front
  pub count : length marks ≡ length front + 1
  pub at : (k : ℕ) → k ≤ length front → slice_get marks k ≡ Some (is_place reading text k)

pub marks_begin : {I : Type 0} (steps : I → Option ℕ → I → Type 0) (reading : Reading) (r : PlaceReader I) (marks : List Bool) → HasPassed steps r [] → marks ≡ true ∷ [] → MarksPassed steps reading (chars_left r) r marks
marks_begin steps reading r marks h first = record {
  front = [];
  text_is = refl;
  passed = h;
  count = ap length first;
  at = λ k small.
      let none : 0 ≡ k = omega (arith, small) in
      subst (λ n. slice_get marks n ≡ Some (is_place reading (chars_left r) n)) none (ap (λ (l : List Bool). slice_get l 0) first);
}

module _ {I : Type 0} (steps : I → Option ℕ → I → Type 0) (reading : Reading) (text : List ℕ) (old new : PlaceReader I) (marks longer : List Bool) (here : Bool) where
  pub marks_go_on : (m : MarksPassed steps reading text old marks) → PassesChar steps old m.front here new → places_reading old ≡ reading → longer ≡ marks ++ here ∷ [] → MarksPassed steps reading text new longer
  marks_go_on m p same pushed =
      let whole : (m.front ++ p.char ∷ []) ++ chars_left new ≡ text = append_assoc m.front (p.char ∷ []) (chars_left new) ∙ ap (λ (l : List ℕ). m.front ++ l) (sym p.left_is) ∙ m.text_is in
      let size : length (m.front ++ p.char ∷ []) ≡ length m.front + 1 = omega (arith, length-append m.front (p.char ∷ [])) in
      let here_is : here ≡ is_place reading text (length m.front + 1) =
      p.here_is ∙ ap (λ (r : Reading). is_place r (m.front ++ chars_left old) (length m.front + 1)) same
      ∙ ap (λ (t : List ℕ). is_place reading t (length m.front + 1)) m.text_is in
      record {
        front = m.front ++ p.char ∷ [];
        text_is = whole;
        passed = p.passed;
        count = omega (arith, ap length pushed, length-append marks (here ∷ []), m.count, size);
        at = λ k small.
            ap (λ (l : List Bool). slice_get l k) pushed
            ∙ elim (cases_lt k (length marks)) [
              | inl inside ↦ before_last marks here k inside ∙ m.at k (omega (arith, inside, m.count))
              | inr last ↦
                  let end : length marks ≡ k = omega (arith, last, small, size, m.count) in
                  let offset : length m.front + 1 ≡ k = omega (arith, end, m.count) in
                  subst (λ n. slice_get (marks ++ here ∷ []) n ≡ Some here) end (at_last marks here)
                  ∙ ap (λ b. Some b) here_is ∙ ap (λ n. Some (is_place reading text n)) offset
            ];
      }

  pub marks_end : (m : MarksPassed steps reading text old marks) → chars_left old ≡ [] → MarksPlaces reading text marks
  marks_end m none =
      let whole : m.front ≡ text = sym (append-nil m.front) ∙ ap (λ (l : List ℕ). m.front ++ l) (sym none) ∙ m.text_is in
      record {
        count = m.count ∙ ap (λ (l : List ℕ). length l + 1) whole;
        at = λ k small. m.at k (omega (arith, small, ap length whole));
      }
