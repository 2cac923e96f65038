-- Marks that have a secondary weight by the table of diacritics have just that by their mappings.
use Rattle.std.proofs.Common.{◌≡◌, ℕ, ◌+◌, ◌-◌, ◌<◌, Bool, true, false, ◌||◌, ◌&&◌, List, [], ◌∷◌, length, map, filter, Option, Some, None, if◌then◌else◌, refl, ap, sym, subst, ◌∙◌, arith, slice_index, bytes_eq}
use Rattle.std.specs.Prelude.{nat_le, nat_lt}
use Rattle.std.specs.Bool.{MatchBool}
use Rattle.std.proofs.lemmas.Bool.Decides.{nat_tests}
use Rattle.icu_table_entries.specs.Elements.{Element, of_secondary}
use Rattle.icu_table_data.specs.DataConditions.{diacritics_base}
use Rattle.icu_element_matches.proofs.CharacterOrderLemmas.{same_lists}
use Rattle.icu_table_provider.specs.Tables.{Tables, diacritic_of}
use Rattle.icu_rule_root.specs.RootEntries.{diacritic_mapping, root_mappings_of}
use Rattle.icu_rule_meaning.specs.Rules.{have_character}
use Rattle.icu_rule_meaning.specs.SymbolicElements.{of_root}
use Rattle.icu_rule_meaning.specs.TailoredRoots.{RootMapping}
use Rattle.icu_rule_meaning.specs.TailoredMappings.{SymbolicMapping, beginnings, has_no_context, mapping_of_root, mappings_behind}
use Rattle.icu_rule_meaning.specs.declared.symbolic.SymbolicElement.{SymbolicElement}
use Rattle.icu_rule_weights.specs.tailoring_numbers.NumberedElements.{RootElementsStay, numbered_element}
use Rattle.icu_rule_weights.specs.declared.tailoring_numbers.tailoring_numbers.TailoringNumbers.{TailoringNumbers}
use Rattle.icu_rule_steps.specs.symbolic_mappings.KeptMappings.{mappings_in}
use Rattle.icu_rule_steps.specs.symbolic_mappings.TouchedCharacters.{root_of, suppressed_in, touched_in}
use Rattle.icu_rule_steps.specs.declared.symbolic_mappings.kept_mappings.Mappings.{Mappings}
use Rattle.icu_rule_steps.proofs.symbolic_mappings.TouchedLemmas.{untouched_own}
use Rattle.icu_rule_tables.specs.tailored_entries.TailoredDiacritics.{HaveSecondaryAlone, TailorsDiacritics}
use Rattle.icu_rule_laws.specs.mapped_texts.MappedTexts.{IsMappedAlone, weighted}
use Rattle.icu_rule_laws.proofs.mapped_texts.RootTextLemmas.{diacritic_mappings, plain_behind, plain_mapping}
use Rattle.icu_rule_laws.specs.tailored_texts.SaidMappings.{HasMappingAlone}

-- ---- the table of diacritics

-- a mark of the table stands at a place of it
record StandsAt (tables : Tables) (c secondary : ℕ) : Type 0 where
  place : ℕ
  character : diacritics_base + place ≡ c
  inside : place < length tables.diacritics
  weight : secondary ≡ slice_index tables.diacritics place

abbrev some_value : ℕ → Option ℕ → ℕ
some_value d None = d
some_value d (Some n) = n

place_of : (tables : Tables) (c secondary : ℕ) → diacritic_of tables c ≡ Some secondary → StandsAt tables c secondary
unfolding diacritic_of
place_of tables c secondary h = by_test (nat_le diacritics_base c && nat_lt (c - diacritics_base) (length tables.diacritics)) refl h
  where
    by_test : (b : Bool) → (nat_le diacritics_base c && nat_lt (c - diacritics_base) (length tables.diacritics)) ≡ b
        → (if b then Some (slice_index tables.diacritics (c - diacritics_base)) else None) ≡ Some secondary → StandsAt tables c secondary
    by_test true is h = record {
      place = c - diacritics_base;
      character = grind (arith, nat_tests);
      inside = grind (arith, nat_tests);
      weight = sym (ap (some_value 0) h);
    }
    by_test false is h = cc

diacritic_at : (tables : Tables) (k : ℕ) → k < length tables.diacritics
    → diacritic_of tables (diacritics_base + k) ≡ Some (slice_index tables.diacritics k)
unfolding diacritic_of
diacritic_at tables k inside =
    let back : diacritics_base + k - diacritics_base ≡ k = omega arith in
    let above : nat_le diacritics_base (diacritics_base + k) ≡ true = grind (arith, nat_tests) in
    let below : nat_lt k (length tables.diacritics) ≡ true = grind (arith, nat_tests) in
    rw (back, above, below) refl

-- ---- a mark with mappings of its own

without_context : (m : SymbolicMapping) → HasMappingAlone (m ∷ []) → m ≡ plain_mapping m.elements
without_context m h =
    let sides : (m.prefix ≡ []) × (m.suffix ≡ []) = parts (bytes_eq m.prefix []) refl (bytes_eq m.suffix []) refl h in
    ap (λ p. let x : SymbolicMapping = record { prefix = p; suffix = m.suffix; elements = m.elements } in x) sides.0
    ∙ ap (λ s. let x : SymbolicMapping = record { prefix = []; suffix = s; elements = m.elements } in x) sides.1
  where
    parts : (a : Bool) → bytes_eq m.prefix [] ≡ a → (b : Bool) → bytes_eq m.suffix [] ≡ b → ((a && b) || false) ≡ true
        → (m.prefix ≡ []) × (m.suffix ≡ [])
    parts true p true s h = (same_lists m.prefix [] p, same_lists m.suffix [] s)
    parts true p false s h = cc
    parts false p b s h = cc

own_alone : (t : TailoringNumbers) (mappings : List SymbolicMapping) (secondary : ℕ) → HasMappingAlone mappings
    → HaveSecondaryAlone t mappings secondary → IsMappedAlone (numbered_element t) secondary mappings
own_alone t mappings secondary alone has =
    let plain : has.mapping ≡ plain_mapping has.mapping.elements = without_context has.mapping (subst HasMappingAlone has.one alone) in
    let are : mappings ≡ plain_mapping has.mapping.elements ∷ [] = has.one ∙ ap (λ (m : SymbolicMapping). m ∷ []) plain in
    record {
      prefix = [];
      elements = has.mapping.elements;
      alone = λ before.
          ap (λ (ms : List SymbolicMapping). mappings_behind ms (beginnings before)) are
          ∙ plain_behind has.mapping.elements before;
      weights = ap (λ (es : List SymbolicElement). weighted (map (numbered_element t) es)) has.elements
          ∙ ap (λ (x : Element). weighted (x ∷ [])) has.weight;
    }

-- ---- a mark with those of the root

root_alone : (t : TailoringNumbers) (stays : RootElementsStay) (mappings : List SymbolicMapping) (secondary : ℕ)
    → mappings ≡ mapping_of_root (diacritic_mapping secondary) ∷ [] → IsMappedAlone (numbered_element t) secondary mappings
root_alone t stays mappings secondary are = record {
  prefix = [];
  elements = of_root (of_secondary secondary) ∷ [];
  alone = λ before.
      ap (λ (ms : List SymbolicMapping). mappings_behind ms (beginnings before)) are
      ∙ plain_behind (of_root (of_secondary secondary) ∷ []) before;
  weights = ap (λ (x : Element). weighted (x ∷ [])) (stays t (of_secondary secondary) (omega arith));
}

none_suppressed : (b : Bool) (secondary : ℕ)
    → (if b then filter has_no_context (mapping_of_root (diacritic_mapping secondary) ∷ []) else mapping_of_root (diacritic_mapping secondary) ∷ [])
    ≡ mapping_of_root (diacritic_mapping secondary) ∷ []
none_suppressed true secondary = refl
none_suppressed false secondary = refl

module _ {R : Type 0} (mappings_of : R → ℕ → List RootMapping) (t : TailoringNumbers) (m : Mappings R) (over tables : Tables)
    (of_root : mappings_of (root_of m) ≡ root_mappings_of over)
    (made : TailorsDiacritics mappings_of t m over.diacritics tables.diacritics) (stays : RootElementsStay) where
  untouched_are : (c secondary : ℕ) → touched_in m c ≡ false → diacritic_of over c ≡ Some secondary
      → mappings_in mappings_of m c ≡ mapping_of_root (diacritic_mapping secondary) ∷ []
  untouched_are c secondary none is =
      untouched_own mappings_of m c none
      ∙ ap (λ (ms : List RootMapping). if have_character (suppressed_in m) c then filter has_no_context (map mapping_of_root ms) else map mapping_of_root ms)
      (ap (λ (f : ℕ → List RootMapping). f c) of_root ∙ diacritic_mappings over c secondary is)
      ∙ none_suppressed (have_character (suppressed_in m) c) secondary

  by_touch : (place : ℕ) → place < length tables.diacritics → (b : Bool) → touched_in m (diacritics_base + place) ≡ b
      → HasMappingAlone (mappings_in mappings_of m (diacritics_base + place))
      → MatchBool b (HaveSecondaryAlone t (mappings_in mappings_of m (diacritics_base + place)) (slice_index tables.diacritics place))
      (slice_index tables.diacritics place ≡ slice_index over.diacritics place)
      → IsMappedAlone (numbered_element t) (slice_index tables.diacritics place) (mappings_in mappings_of m (diacritics_base + place))
  by_touch place inside true is alone has =
      own_alone t (mappings_in mappings_of m (diacritics_base + place)) (slice_index tables.diacritics place) alone has
  by_touch place inside false is alone same =
      root_alone t stays (mappings_in mappings_of m (diacritics_base + place)) (slice_index tables.diacritics place)
      (untouched_are (diacritics_base + place) (slice_index tables.diacritics place) is
      (diacritic_at over place (omega (arith, inside, made.count)) ∙ ap Some (sym same)))

  at_place : (place : ℕ) → place < length tables.diacritics → HasMappingAlone (mappings_in mappings_of m (diacritics_base + place))
      → IsMappedAlone (numbered_element t) (slice_index tables.diacritics place) (mappings_in mappings_of m (diacritics_base + place))
  at_place place inside alone = by_touch place inside (touched_in m (diacritics_base + place)) refl alone (made.weights place inside)

  -- a mark of the table has its secondary weight, whatever stands around it
  pub marks_alone : (c secondary : ℕ) → HasMappingAlone (mappings_in mappings_of m c) → diacritic_of tables c ≡ Some secondary
      → IsMappedAlone (numbered_element t) secondary (mappings_in mappings_of m c)
  marks_alone c secondary alone is =
      let p = place_of tables c secondary is in
      subst (λ s. IsMappedAlone (numbered_element t) s (mappings_in mappings_of m c)) (sym p.weight)
      (subst (λ x. IsMappedAlone (numbered_element t) (slice_index tables.diacritics p.place) (mappings_in mappings_of m x)) p.character
      (at_place p.place p.inside (subst (λ x. HasMappingAlone (mappings_in mappings_of m x)) (sym p.character) alone)))
