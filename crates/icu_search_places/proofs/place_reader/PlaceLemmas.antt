-- A place is where just what follows is left of the decomposed text.
use Rattle.std.proofs.Common.{◌≡◌, ℕ, ◌+◌, ◌-◌, ◌<◌, ◌≤◌, Bool, true, false, ◌&&◌, ◌||◌, ◌==◌, List, [], ◌∷◌, ◌++◌, Option, length, drop, flat_map, refl, sym, ap, ◌∙◌, arith, inl, inr, subst, append_assoc, append-nil, length-append}
use Rattle.std.proofs.Math.Seq.{drop-append_seam}
use Rattle.std.proofs.lemmas.Bool.{cases_Bool, and_parts, and_right, or_right, or_left, false_from_ne_true, eqb-true, eqb-false, eq-eqb}
use Rattle.ucd_normal.specs.declared.forms.Form.TheVariants.{Nfd}
use Rattle.unicode_normalization.specs.Decompose.{decompose}
use Rattle.unicode_normalization.specs.Forms.{decomposed, normalize, nfd}
use Rattle.unicode_normalization.proofs.OrderLemmas.{length-canonical_order}
use Rattle.icu_table_entries.specs.Elements.{Element}
use Rattle.icu_element_reading.specs.TextElements.{Reading, elements_of}
use Rattle.icu_element_reading.specs.StepReaders.{reading_in}
use Rattle.icu_search_places.specs.SearchPlaces.{first_leads, reaches, is_place, is_place_before}
use Rattle.icu_search_places.proofs.SearchPartLemmas.{PlaceAt, leading_at}
use Rattle.icu_search_places.specs.declared.place_reader.gathered_steps.GatheredSteps.{GatheredSteps}
use Rattle.icu_search_places.specs.place_reader.inner.StepsGathered.{HasReadTo}
use Rattle.icu_search_places.specs.declared.place_reader.place_reader.PlaceReader.{PlaceReader}
use Rattle.icu_search_places.specs.place_reader.PlaceReaders.{decomposed_length, stands_at_place, places_reading, chars_left, HasPassed, PassesChar}
use Rattle.icu_search_places.proofs.place_reader.ReadOnLemmas.{come_to, read_all}

-- the decomposition is as long as those of its characters
pub length-nfd : (text : List ℕ) → length (nfd text) ≡ decomposed_length text
unfolding normalize decomposed
length-nfd text = length-canonical_order (flat_map (decompose Nfd) text)

-- ---- which offsets are places

pub is_place-end : (reading : Reading) (text : List ℕ) → is_place reading text (length text) ≡ true
is_place-end reading text =
    let there : (length text == length text) ≡ true = eq-eqb (length text) (length text) refl in
    or_left (length text == 0 || length text == length text) _ (or_right (length text == 0) _ there)

-- behind the first character and before the last one
pub is_place-between : (reading : Reading) (front : List ℕ) (c : ℕ) (cs : List ℕ) → 0 < length front → is_place reading (front ++ c ∷ cs) (length front) ≡ is_place_before reading (front ++ c ∷ cs) (c ∷ cs)
is_place-between reading front c cs some =
    let text = front ++ c ∷ cs in
    let later : (length front == 0) ≡ false = false_from_ne_true (length front == 0) (λ h. omega (arith, eqb-true (length front) 0 h, some)) in
    let inside : (length front == length text) ≡ false = false_from_ne_true (length front == length text) (λ h. omega (arith, eqb-true (length front) (length text) h, length-append front (c ∷ cs))) in
    ap (λ b. b || length front == length text || is_place_before reading text (drop (length front) text)) later
    ∙ ap (λ b. b || is_place_before reading text (drop (length front) text)) inside
    ∙ ap (is_place_before reading text) (drop-append_seam front (c ∷ cs))

-- ---- where a reader stands

-- what it tells there, and what it has read
pub record Stands (reading : Reading) (front left : List ℕ) (here : Bool) (gathered : List Element) : Type 0 where
  pub here_is : here ≡ is_place reading (front ++ left) (length front)
  pub elements : here ≡ true → gathered ≡ elements_of reading (nfd front)

module _ {I : Type 0} (steps : I → Option ℕ → I → Type 0) (g : GatheredSteps I) (front : List ℕ) where
  at_text_end : HasReadTo steps g (nfd (front ++ [])) 0 → Stands (reading_in g.steps) front [] true g.elements.items
  at_text_end h =
      let reading = reading_in g.steps in
      let whole : front ++ [] ≡ front = append-nil front in
      record {
        here_is = sym (ap (λ (t : List ℕ). is_place reading t (length front)) whole ∙ is_place-end reading front);
        elements = λ _.
            read_all reading (nfd (front ++ [])) g.elements.items h.read.before h.read.rest h.read.reads (omega (arith, h.read.length_is, h.ahead_is))
            ∙ ap (λ (t : List ℕ). elements_of reading (nfd t)) whole;
      }

  module _ (c : ℕ) (cs : List ℕ) (some : 0 < length front) (h : HasReadTo steps g (nfd (front ++ c ∷ cs)) (decomposed_length (c ∷ cs))) where
    -- the character begins a letter, and nothing was read ahead
    at_letter : PlaceAt (reading_in g.steps) front (c ∷ cs) → g.ahead ≡ 0 → (reaches (reading_in g.steps) (nfd (front ++ c ∷ cs)) (nfd (c ∷ cs)) ≡ true) × (g.elements.items ≡ elements_of (reading_in g.steps) (nfd front))
    at_letter p none =
        let reading = reading_in g.steps in
        let size : length h.read.rest ≡ length (p.first ∷ p.more) = omega (arith, h.read.length_is, h.ahead_is, none, length-nfd (c ∷ cs), ap length p.back_is) in
        let there = come_to reading (nfd (front ++ c ∷ cs)) g.elements.items h.read.before h.read.rest (nfd front) p.first p.more h.read.reads p.whole_is p.starter size in
        (ap (reaches reading (nfd (front ++ c ∷ cs))) p.back_is ∙ there.reached, there.elements)

    -- some was read ahead
    not_reached : (g.ahead ≡ 0 → ⊥) → reaches (reading_in g.steps) (nfd (front ++ c ∷ cs)) (nfd (c ∷ cs)) ≡ false
    not_reached some_ahead = h.skips (nfd (c ∷ cs)) (omega (arith, h.ahead_is, some_ahead, length-nfd (c ∷ cs))) (omega (arith, length-nfd (c ∷ cs)))

    within_text : Stands (reading_in g.steps) front (c ∷ cs) (g.ahead == 0 && first_leads (decompose Nfd c)) g.elements.items
    within_text =
        let reading = reading_in g.steps in
        let text = front ++ c ∷ cs in
        let begins = first_leads (decompose Nfd c) in
        let reached = reaches reading (nfd text) (nfd (c ∷ cs)) in
        let decided : (g.ahead == 0 && begins) ≡ (begins && reached) =
        elim (cases_Bool begins) [
          | inr other ↦ and_right (g.ahead == 0) begins other ∙ sym (ap (λ b. b && reached) other)
          | inl letter ↦
              elim (cases_Bool (g.ahead == 0)) [
                | inl none ↦
                    ap (λ b. b && begins) none ∙ letter ∙ sym ((at_letter (leading_at reading front c cs letter) (eqb-true g.ahead 0 none)).0) ∙ sym (ap (λ b. b && reached) letter)
                | inr some_ahead ↦
                    ap (λ b. b && begins) some_ahead ∙ sym (not_reached (eqb-false g.ahead 0 some_ahead)) ∙ sym (ap (λ b. b && reached) letter)
              ]
        ] in
        record {
          here_is = decided ∙ sym (is_place-between reading front c cs some);
          elements = λ here.
              let parts = and_parts (g.ahead == 0) begins here in
              (at_letter (leading_at reading front c cs parts.1) (eqb-true g.ahead 0 parts.0)).1;
        }

  pub stands : (left : List ℕ) → 0 < length front → HasReadTo steps g (nfd (front ++ left)) (decomposed_length left) → Stands (reading_in g.steps) front left (stands_at_place left g.ahead) g.elements.items
  stands [] some h = at_text_end h
  stands (c ∷ cs) some h = within_text c cs some h

-- ---- a character that is passed

module _ {I : Type 0} (steps : I → Option ℕ → I → Type 0) (old new : PlaceReader I) (front : List ℕ) (c len : ℕ) (here : Bool) where
  pub passes : HasPassed steps old front → chars_left old ≡ c ∷ chars_left new → len ≡ length (decompose Nfd c) → places_reading new ≡ places_reading old
      → ((text : List ℕ) (n : ℕ) → HasReadTo steps old.gathered text n → len ≤ n → HasReadTo steps new.gathered text (n - len))
      → here ≡ stands_at_place (chars_left new) new.gathered.ahead → PassesChar steps old front here new
  passes h split counted same consumed told =
      let behind = front ++ c ∷ [] in
      let size : decomposed_length (chars_left old) ≡ length (decompose Nfd c) + decomposed_length (chars_left new) = ap decomposed_length split ∙ length-append (decompose Nfd c) (flat_map (decompose Nfd) (chars_left new)) in
      let rest_size : decomposed_length (chars_left old) - len ≡ decomposed_length (chars_left new) = omega (arith, size, counted) in
      let whole : front ++ chars_left old ≡ behind ++ chars_left new = ap (λ (l : List ℕ). front ++ l) split ∙ sym (append_assoc front (c ∷ []) (chars_left new)) in
      let count : length behind ≡ length front + 1 = omega (arith, length-append front (c ∷ [])) in
      let read = consumed (nfd (front ++ chars_left old)) (decomposed_length (chars_left old)) h.read (omega (arith, size, counted)) in
      let fewer = subst (λ n. HasReadTo steps new.gathered (nfd (front ++ chars_left old)) n) rest_size read in
      let passed = subst (λ (t : List ℕ). HasReadTo steps new.gathered (nfd t) (decomposed_length (chars_left new))) whole fewer in
      let s = stands steps new.gathered behind (chars_left new) (omega (arith, count)) passed in
      record {
        char = c;
        left_is = split;
        passed = record { read = passed };
        here_is =
            told ∙ s.here_is
            ∙ ap (λ (r : Reading). is_place r (behind ++ chars_left new) (length behind)) same
            ∙ ap (λ (t : List ℕ). is_place (places_reading old) t (length behind)) (sym whole)
            ∙ ap (is_place (places_reading old) (front ++ chars_left old)) count;
        elements = λ place. s.elements (sym told ∙ place) ∙ ap (λ (r : Reading). elements_of r (nfd behind)) same;
      }
