-- What is read of a decomposed text, step by step: which of its ends the reading still comes to.
use Rattle.std.proofs.Common.{◌≡◌, ℕ, suc, ◌<◌, ◌≤◌, true, false, ◌||◌, List, [], ◌∷◌, ◌++◌, length, refl, sym, ap, ◌∙◌, arith, subst, append_assoc, append-nil, length-append}
use Rattle.std.specs.List.{list_any}
use Rattle.std.specs.Str.{bytes_eq}
use Rattle.std.proofs.lemmas.Bool.{false_from_ne_true}
use Rattle.std.proofs.lemmas.Slice.Eq.{bytes_eq-Decides}
use Rattle.unicode_normalization.specs.Order.{is_starter}
use Rattle.icu_table_entries.specs.Elements.{Element}
use Rattle.icu_element_reading.specs.TextElements.{Reading, Step, step, consumed, last_two, elements_of, elements_after}
use Rattle.icu_element_reading.specs.ReadAhead.{and_more}
use Rattle.icu_element_reading.proofs.StepLemmas.{Rests-step, elements_after_cons, elements_after_nil}
use Rattle.icu_search_places.specs.SearchPlaces.{rests_along, reaches}
use Rattle.icu_search_places.proofs.StepEndLemmas.{step-front}
use Rattle.icu_search_places.proofs.RestLemmas.{comes_to, comes_to-shorter, comes_to-now, rests_along-enough}
use Rattle.icu_search_places.specs.place_reader.inner.StepsGathered.{LeavesBehind, StillComesTo}

-- ---- before the first step

pub StillComesTo-start : (reading : Reading) (text : List ℕ) → StillComesTo reading text [] [] text
StillComesTo-start reading text = record {
  reach = λ left short. refl;
  behind = λ front x back is starter short. record { mid = front; rest_is = is; elements = refl };
  all = refl;
}

-- ---- a step

module _ (reading : Reading) (text : List ℕ) (gathered : List Element) (before : List ℕ) (c : ℕ) (later : List ℕ) where
  abbrev after : List ℕ
  after = last_two before (consumed c (step reading before c later))

  abbrev left_after : List ℕ
  left_after = (step reading before c later).rest

  abbrev all_gathered : List Element
  all_gathered = gathered ++ (step reading before c later).elements

  -- what is shorter than what was left is come to after the step, if at all
  reach_later : StillComesTo reading text gathered before (c ∷ later) → (left : List ℕ) → length left ≤ length later → reaches reading text left ≡ comes_to left_after reading after left_after left
  unfolding rests_along
  reach_later r left short =
      let unlike : bytes_eq left (c ∷ later) ≡ false = false_from_ne_true (bytes_eq left (c ∷ later)) (λ h. omega (arith, ap length ((bytes_eq-Decides left (c ∷ later)).0 h), short)) in
      r.reach left (omega (arith, short))
      ∙ ap (λ b. b || comes_to later reading after left_after left) unlike
      ∙ ap (list_any (bytes_eq left)) (rests_along-enough reading later left_after after left_after (Rests-step reading before c later).fits (omega arith))

  -- so what is longer than what the step leaves isn't come to
  pub skipped : StillComesTo reading text gathered before (c ∷ later) → (left : List ℕ) → length left_after < length left → length left ≤ length later → reaches reading text left ≡ false
  skipped r left long short =
      reach_later r left short
      ∙ false_from_ne_true (comes_to left_after reading after left_after left) (λ h. omega (arith, comes_to-shorter left_after reading after left_after left h, long))

  behind_step : (mid front : List ℕ) (x : ℕ) (back : List ℕ) → is_starter x ≡ true → c ∷ later ≡ mid ++ x ∷ back → elements_of reading front ≡ gathered ++ elements_after reading before mid
      → suc (length back) ≤ length left_after → LeavesBehind reading all_gathered after left_after front x back
  behind_step [] front x back starter is read fits = absurd (omega (arith, ap length is, fits, (Rests-step reading before c later).fits))
  behind_step (m ∷ mid) front x back starter is read fits =
      let head : m ≡ c = cc in
      let tail : later ≡ mid ++ x ∷ back = cc in
      let s = step reading before c mid in
      let keeps : suc (length back) ≤ length (step reading before c (mid ++ x ∷ back)).rest = subst (λ (l : List ℕ). suc (length back) ≤ length (step reading before c l).rest) tail fits in
      let same : step reading before c later ≡ and_more s (x ∷ back) = ap (step reading before c) tail ∙ step-front reading before c mid x back starter (record { kept = keeps }) in
      record {
        mid = s.rest;
        rest_is = ap (λ (t : Step). t.rest) same;
        elements =
            read
            ∙ ap (λ d. gathered ++ elements_after reading before (d ∷ mid)) head
            ∙ ap (λ (es : List Element). gathered ++ es) (elements_after_cons reading before c mid)
            ∙ sym (append_assoc gathered s.elements (elements_after reading (last_two before (consumed c s)) s.rest))
            ∙ sym (ap (λ (t : Step). (gathered ++ t.elements) ++ elements_after reading (last_two before (consumed c t)) s.rest) same);
      }

  pub StillComesTo-step : StillComesTo reading text gathered before (c ∷ later) → StillComesTo reading text all_gathered after left_after
  StillComesTo-step r =
      let fits = (Rests-step reading before c later).fits in
      record {
        reach = λ left short. reach_later r left (omega (arith, short, fits));
        behind = λ front x back is starter short.
            let old = r.behind front x back is starter (omega (arith, short, fits)) in
            behind_step old.mid front x back starter old.rest_is old.elements short;
        all =
            r.all ∙ ap (λ (es : List Element). gathered ++ es) (elements_after_cons reading before c later)
            ∙ sym (append_assoc gathered (step reading before c later).elements (elements_after reading after left_after));
      }

-- ---- at a starter, or at the end

-- where just so many characters are left as a starter and all that follows it, it was come to, and all before it was
-- read
pub record IsComeTo (reading : Reading) (text : List ℕ) (gathered : List Element) (front end : List ℕ) : Type 0 where
  pub reached : reaches reading text end ≡ true
  pub elements : gathered ≡ elements_of reading front

no_longer : (mid : List ℕ) (x : ℕ) (back : List ℕ) → length (mid ++ x ∷ back) ≡ length (x ∷ back) → mid ≡ []
no_longer [] x back same = refl
no_longer (m ∷ mid) x back same = absurd (omega (arith, same, length-append mid (x ∷ back)))

pub come_to : (reading : Reading) (text : List ℕ) (gathered : List Element) (before rest front : List ℕ) (x : ℕ) (back : List ℕ) → StillComesTo reading text gathered before rest
    → text ≡ front ++ x ∷ back → is_starter x ≡ true → length rest ≡ length (x ∷ back) → IsComeTo reading text gathered front (x ∷ back)
come_to reading text gathered before rest front x back r is starter same =
    let b = r.behind front x back is starter (omega (arith, same)) in
    let none : b.mid ≡ [] = no_longer b.mid x back (sym (ap length b.rest_is) ∙ same) in
    let rest_is : rest ≡ x ∷ back = b.rest_is ∙ ap (λ (l : List ℕ). l ++ x ∷ back) none in
    record {
      reached =
          r.reach (x ∷ back) (omega (arith, same))
          ∙ ap (λ (l : List ℕ). comes_to l reading before l (x ∷ back)) rest_is
          ∙ comes_to-now (x ∷ back) reading before (x ∷ back);
      elements =
          sym (b.elements ∙ ap (λ (l : List ℕ). gathered ++ elements_after reading before l) none
          ∙ ap (λ (es : List Element). gathered ++ es) (elements_after_nil reading before) ∙ append-nil gathered);
    }

nothing : (l : List ℕ) → length l ≡ 0 → l ≡ []
nothing [] none = refl
nothing (c ∷ cs) none = absurd (omega (arith, none))

-- where nothing is left all was read
pub read_all : (reading : Reading) (text : List ℕ) (gathered : List Element) (before rest : List ℕ) → StillComesTo reading text gathered before rest → length rest ≡ 0 → gathered ≡ elements_of reading text
read_all reading text gathered before rest r none =
    sym (r.all ∙ ap (λ (l : List ℕ). gathered ++ elements_after reading before l) (nothing rest none)
    ∙ ap (λ (es : List Element). gathered ++ es) (elements_after_nil reading before) ∙ append-nil gathered)
