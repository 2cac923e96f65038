-- Up to a starter that the reading of a decomposed text reaches, the part that stands before it is read by itself as it
-- is read in the whole.
use Rattle.std.proofs.Common.{◌≡◌, ℕ, ◌<◌, ◌≤◌, Bool, true, false, ◌||◌, List, [], ◌∷◌, ◌++◌, length, refl, sym, ap, ◌∙◌, arith, inl, inr, subst, ◌⊎◌, append_assoc, length-append}
use Rattle.std.specs.List.{list_any}
use Rattle.std.specs.Str.{bytes_eq}
use Rattle.std.proofs.lemmas.Bool.{or_cases, or_left, true≢false, false_from_ne_true}
use Rattle.std.proofs.lemmas.Bool.Decides.{same_from_decides}
use Rattle.std.proofs.lemmas.List.{append_cancel_right}
use Rattle.std.proofs.lemmas.Slice.Eq.{bytes_eq-Decides}
use Rattle.icu_element_reading.proofs.boundaries.LeftContextLemmas.{context_along-enough}
use Rattle.unicode_normalization.specs.Order.{is_starter}
use Rattle.icu_table_entries.specs.Elements.{Element}
use Rattle.icu_element_reading.specs.TextElements.{Reading, Step, step, consumed, last_two, elements_after}
use Rattle.icu_element_reading.specs.ReadAhead.{and_more}
use Rattle.icu_element_reading.proofs.StepLemmas.{Rests-step, elements_after_cons, elements_after_nil}
use Rattle.icu_element_reading.specs.boundaries.LeftContexts.{context_along, context_left}
use Rattle.icu_search_places.specs.SearchPlaces.{rests_along}
use Rattle.icu_search_places.proofs.StepEndLemmas.{step-front}

-- ---- what is left after some step

-- after some of the steps that a list has members, just these characters are left
abbrev pub comes_to : List ℕ → Reading → List ℕ → List ℕ → List ℕ → Bool
comes_to along reading before text left = list_any (bytes_eq left) (rests_along along reading before text)

now_or_later : (left text : List ℕ) (more : List (List ℕ)) → list_any (bytes_eq left) (text ∷ more) ≡ true → (left ≡ text) ⊎ (list_any (bytes_eq left) more ≡ true)
now_or_later left text more h =
    elim (or_cases (bytes_eq left text) _ h) [
      | inl same ↦ inl ((bytes_eq-Decides left text).0 same)
      | inr later ↦ inr later
    ]

only : (left text : List ℕ) → list_any (bytes_eq left) (text ∷ []) ≡ true → left ≡ text
only left text h =
    elim (now_or_later left text [] h) [
      | inl same ↦ same
      | inr none ↦ absurd (true≢false (sym none))
    ]

-- it is no longer than the text
pub comes_to-shorter : (along : List ℕ) (reading : Reading) (before text left : List ℕ) → comes_to along reading before text left ≡ true → length left ≤ length text
unfolding rests_along
comes_to-shorter along reading before [] left h = let same = ap length (only left [] h) in omega (arith, same)
comes_to-shorter [] reading before (c ∷ text) left h = let same = ap length (only left (c ∷ text) h) in omega (arith, same)
comes_to-shorter (_ ∷ along) reading before (c ∷ text) left h =
    let s = step reading before c text in
    elim (now_or_later left (c ∷ text) (rests_along along reading (last_two before (consumed c s)) s.rest) h) [
      | inl same ↦ omega (arith, ap length same)
      | inr later ↦ omega (arith, comes_to-shorter along reading (last_two before (consumed c s)) s.rest left later, (Rests-step reading before c text).fits)
    ]

-- any list that is long enough will do to go by
pub rests_along-enough : (reading : Reading) (along others before text : List ℕ) → length text ≤ length along → length text ≤ length others → rests_along along reading before text ≡ rests_along others reading before text
unfolding rests_along
rests_along-enough reading along others before [] fits fit = refl
rests_along-enough reading [] others before (c ∷ text) fits fit = absurd (omega arith)
rests_along-enough reading (_ ∷ along) [] before (c ∷ text) fits fit = absurd (omega arith)
rests_along-enough reading (_ ∷ along) (_ ∷ others) before (c ∷ text) fits fit =
    let s = step reading before c text in
    let shorter = (Rests-step reading before c text).fits in
    ap (λ (l : List (List ℕ)). (c ∷ text) ∷ l) (rests_along-enough reading along others (last_two before (consumed c s)) s.rest (omega (arith, shorter)) (omega (arith, shorter)))

context_left-nil : (reading : Reading) (before : List ℕ) → context_left reading before [] ≡ before
unfolding context_left context_along
context_left-nil reading before = refl

context_left-cons : (reading : Reading) (before : List ℕ) (c : ℕ) (text : List ℕ) → context_left reading before (c ∷ text) ≡ context_left reading (last_two before (consumed c (step reading before c text))) (step reading before c text).rest
unfolding context_left context_along
context_left-cons reading before c text =
    let s = step reading before c text in
    let shorter = (Rests-step reading before c text).fits in
    context_along-enough reading text s.rest (last_two before (consumed c s)) s.rest shorter (omega arith)

-- ---- the part before a starter that the reading reaches

-- the reading isn't at its end before its first step
not_yet : (c : ℕ) (front left : List ℕ) → left ≡ c ∷ (front ++ left) → ⊥
not_yet c front left same = omega (arith, ap length same, length-append front left)

-- what the step before it does, and that the reading of what it leaves reaches the starter
record GoesOn (along : List ℕ) (reading : Reading) (before : List ℕ) (c : ℕ) (front : List ℕ) (x : ℕ) (back : List ℕ) : Type 0 where
  same : step reading before c (front ++ x ∷ back) ≡ and_more (step reading before c front) (x ∷ back)
  later : comes_to along reading (last_two before (consumed c (step reading before c front))) ((step reading before c front).rest ++ x ∷ back) (x ∷ back) ≡ true

goes_on : (along : List ℕ) (reading : Reading) (before : List ℕ) (c : ℕ) (front : List ℕ) (x : ℕ) (back : List ℕ) (y : ℕ) → is_starter x ≡ true
    → comes_to (y ∷ along) reading before (c ∷ (front ++ x ∷ back)) (x ∷ back) ≡ true → GoesOn along reading before c front x back
unfolding rests_along
goes_on along reading before c front x back y starter h =
    let s = step reading before c (front ++ x ∷ back) in
    elim (now_or_later (x ∷ back) (c ∷ (front ++ x ∷ back)) (rests_along along reading (last_two before (consumed c s)) s.rest) h) [
      | inl same ↦ absurd (not_yet c front (x ∷ back) same)
      | inr later ↦
          let keeps = comes_to-shorter along reading (last_two before (consumed c s)) s.rest (x ∷ back) later in
          let same = step-front reading before c front x back starter (record { kept = omega (arith, keeps) }) in
          record { same = same; later = subst (λ (s : Step). comes_to along reading (last_two before (consumed c s)) s.rest (x ∷ back) ≡ true) same later }
    ]

at_end : (reading : Reading) (before : List ℕ) (c : ℕ) (front : List ℕ) (x : ℕ) (back : List ℕ) → comes_to [] reading before (c ∷ (front ++ x ∷ back)) (x ∷ back) ≡ true → ⊥
unfolding rests_along
at_end reading before c front x back h = not_yet c front (x ∷ back) (only (x ∷ back) (c ∷ (front ++ x ∷ back)) h)

-- its elements are those of the part, and then those of what follows it
part_along : (along : List ℕ) (reading : Reading) (before front : List ℕ) (x : ℕ) (back : List ℕ) → is_starter x ≡ true → comes_to along reading before (front ++ x ∷ back) (x ∷ back) ≡ true
    → elements_after reading before (front ++ x ∷ back) ≡ elements_after reading before front ++ elements_after reading (context_left reading before front) (x ∷ back)
part_along along reading before [] x back starter h =
    sym (ap (λ (es : List Element). es ++ elements_after reading (context_left reading before []) (x ∷ back)) (elements_after_nil reading before)
    ∙ ap (λ (p : List ℕ). elements_after reading p (x ∷ back)) (context_left-nil reading before))
part_along [] reading before (c ∷ front) x back starter h = absurd (at_end reading before c front x back h)
part_along (y ∷ along) reading before (c ∷ front) x back starter h =
    let g = goes_on along reading before c front x back y starter h in
    let s = step reading before c front in
    let after = last_two before (consumed c s) in
    elements_after_cons reading before c (front ++ x ∷ back)
    ∙ ap (λ (s : Step). s.elements ++ elements_after reading (last_two before (consumed c s)) s.rest) g.same
    ∙ ap (λ (es : List Element). s.elements ++ es) (part_along along reading after s.rest x back starter g.later)
    ∙ sym (append_assoc s.elements (elements_after reading after s.rest) (elements_after reading (context_left reading after s.rest) (x ∷ back)))
    ∙ ap (λ (es : List Element). es ++ elements_after reading (context_left reading after s.rest) (x ∷ back)) (sym (elements_after_cons reading before c front))
    ∙ ap (λ (p : List ℕ). elements_after reading before (c ∷ front) ++ elements_after reading p (x ∷ back)) (sym (context_left-cons reading before c front))

pub part_elements : (reading : Reading) (before front : List ℕ) (x : ℕ) (back : List ℕ) → is_starter x ≡ true → comes_to (front ++ x ∷ back) reading before (front ++ x ∷ back) (x ∷ back) ≡ true
    → elements_after reading before (front ++ x ∷ back) ≡ elements_after reading before front ++ elements_after reading (context_left reading before front) (x ∷ back)
part_elements reading before front x back starter h = part_along (front ++ x ∷ back) reading before front x back starter h

-- ---- and so the reading comes to the same places in the part

same_fronts : (l z y : List ℕ) → bytes_eq (l ++ y) (z ++ y) ≡ bytes_eq l z
same_fronts l z y =
    same_from_decides (bytes_eq (l ++ y) (z ++ y)) (bytes_eq l z)
    (λ h. append_cancel_right l z y ((bytes_eq-Decides (l ++ y) (z ++ y)).0 h), λ e. (bytes_eq-Decides (l ++ y) (z ++ y)).1 (ap (λ (a : List ℕ). a ++ y) e))
    (bytes_eq-Decides l z)

-- nothing that is longer than what is left is come to
too_long : (along : List ℕ) (reading : Reading) (before text left : List ℕ) → length text < length left → comes_to along reading before text left ≡ false
too_long along reading before text left long =
    false_from_ne_true (comes_to along reading before text left) (λ h. omega (arith, comes_to-shorter along reading before text left h, long))

now : (text : List ℕ) (more : List (List ℕ)) → list_any (bytes_eq text) (text ∷ more) ≡ true
now text more = or_left (bytes_eq text text) (list_any (bytes_eq text) more) ((bytes_eq-Decides text text).1 refl)

pub comes_to-now : (along : List ℕ) (reading : Reading) (before text : List ℕ) → comes_to along reading before text text ≡ true
unfolding rests_along
comes_to-now along reading before [] = now [] []
comes_to-now [] reading before (c ∷ text) = now (c ∷ text) []
comes_to-now (_ ∷ along) reading before (c ∷ text) =
    let s = step reading before c text in now (c ∷ text) (rests_along along reading (last_two before (consumed c s)) s.rest)

-- at the end of the part
at_part_end : (along others : List ℕ) (reading : Reading) (before left : List ℕ) (x : ℕ) (back : List ℕ) → comes_to along reading before (x ∷ back) (left ++ x ∷ back) ≡ comes_to others reading before [] left
unfolding rests_along
at_part_end along others reading before [] x back =
    let here : comes_to others reading before [] [] ≡ true = now [] [] in
    comes_to-now along reading before (x ∷ back) ∙ sym here
at_part_end along others reading before (c ∷ left) x back = too_long along reading before (x ∷ back) (c ∷ (left ++ x ∷ back)) (omega (arith, length-append left (x ∷ back)))

part_places_along : (along : List ℕ) (reading : Reading) (before front left : List ℕ) (x : ℕ) (back : List ℕ) → is_starter x ≡ true → comes_to along reading before (front ++ x ∷ back) (x ∷ back) ≡ true
    → comes_to along reading before (front ++ x ∷ back) (left ++ x ∷ back) ≡ comes_to along reading before front left
unfolding rests_along
part_places_along along reading before [] left x back starter h = at_part_end along along reading before left x back
part_places_along [] reading before (c ∷ front) left x back starter h = absurd (at_end reading before c front x back h)
part_places_along (y ∷ along) reading before (c ∷ front) left x back starter h =
    let g = goes_on along reading before c front x back y starter h in
    let s = step reading before c front in
    let whole = front ++ x ∷ back in
    let later : Step → Bool = λ s. comes_to along reading (last_two before (consumed c s)) s.rest (left ++ x ∷ back) in
    ap (λ b. b || later (step reading before c whole)) (same_fronts left (c ∷ front) (x ∷ back))
    ∙ ap (λ (s : Step). bytes_eq left (c ∷ front) || later s) g.same
    ∙ ap (λ b. bytes_eq left (c ∷ front) || b) (part_places_along along reading (last_two before (consumed c s)) s.rest left x back starter g.later)

pub part_places : (reading : Reading) (before front left : List ℕ) (x : ℕ) (back : List ℕ) → is_starter x ≡ true → comes_to (front ++ x ∷ back) reading before (front ++ x ∷ back) (x ∷ back) ≡ true
    → comes_to (front ++ x ∷ back) reading before (front ++ x ∷ back) (left ++ x ∷ back) ≡ comes_to front reading before front left
part_places reading before front left x back starter h =
    part_places_along (front ++ x ∷ back) reading before front left x back starter h
    ∙ ap (list_any (bytes_eq left)) (rests_along-enough reading (front ++ x ∷ back) front before front (omega (arith, length-append front (x ∷ back))) (omega arith))
