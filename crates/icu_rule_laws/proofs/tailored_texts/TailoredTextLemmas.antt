-- Texts are read by the tables of a tailoring as by its mappings.
use Rattle.std.proofs.Common.{◌≡◌, ℕ, ◌+◌, ◌-◌, ◌<◌, Bool, true, false, ◌&&◌, ◌==◌, List, [], ◌∷◌, map, Option, Some, None, if◌then◌else◌, refl, ap, sym, subst, ◌∙◌, arith, inl, inr, slice_index}
use Rattle.std.specs.Prelude.{nat_lt}
use Rattle.std.specs.Bool.{MatchBool}
use Rattle.std.proofs.lemmas.Bool.{cases_Bool, ltb-true, eq-eqb}
use Rattle.std.proofs.lemmas.Bool.Decides.{nat_tests}
use Rattle.icu_table_entries.specs.Entries.{fallback_entry}
use Rattle.icu_table_data.specs.CodePointTables.{code_point_count}
use Rattle.icu_table_data.specs.Data.{Data, HomedEntry, homed}
use Rattle.icu_table_provider.specs.Jamo.{jamo_count}
use Rattle.icu_table_provider.specs.Tables.{Tables, diacritic_of, entry_of, is_jamo, jamo_base, tailored_entry}
use Rattle.icu_rule_root.specs.RootEntries.{entry_mappings, diacritic_mapping, root_entry, root_mappings_of}
use Rattle.icu_rule_meaning.specs.Rules.{is_scalar}
use Rattle.icu_rule_meaning.specs.TailoredRoots.{RootMapping}
use Rattle.icu_rule_meaning.specs.TailoredMappings.{SymbolicMapping, mapping_of_root}
use Rattle.icu_rule_weights.specs.tailoring_numbers.NumberedElements.{RootElementsStay, numbered_element}
use Rattle.icu_rule_weights.specs.declared.tailoring_numbers.tailoring_numbers.TailoringNumbers.{TailoringNumbers}
use Rattle.icu_rule_steps.specs.symbolic_mappings.KeptMappings.{mappings_in}
use Rattle.icu_rule_steps.specs.symbolic_mappings.TouchedCharacters.{has_own_mappings}
use Rattle.icu_rule_steps.specs.declared.symbolic_mappings.kept_mappings.Mappings.{Mappings}
use Rattle.icu_table_provider.specs.well_formed.WellFormedTables.{HasAscendingContexts}
use Rattle.icu_rule_tables.specs.tailored_entries.GivenMappings.{GivesMappings}
use Rattle.icu_rule_tables.specs.tailored_entries.TailoredJamo.{IsJamoEntry}
use Rattle.icu_rule_laws.specs.mapped_texts.MappedTexts.{SaysMappings, SayMappingsOf}
use Rattle.icu_rule_laws.proofs.mapped_texts.DistinctLemmas.{ascending_are_distinct}
use Rattle.icu_rule_laws.proofs.mapped_texts.MappedTextLemmas.{some_read_by_mappings}
use Rattle.icu_rule_laws.proofs.mapped_texts.RootTextLemmas.{diacritic_mappings, no_diacritic_mappings, says_own_mappings}
use Rattle.icu_rule_laws.specs.tailored_texts.TailoredTexts.{AreLegible, IsScalarCode, is_scalar_code, TailorTables, TextsAreReadByTailorings}
use Rattle.icu_rule_laws.proofs.tailored_texts.GrownRoots.{mappings_stay}
use Rattle.icu_rule_laws.proofs.tailored_texts.MarkedWeights.{marks_alone}
use Rattle.icu_rule_laws.proofs.tailored_texts.RootHalves.{halves_give_back}
use Rattle.icu_rule_laws.proofs.tailored_texts.SaidMappingLemmas.{given_said, no_fallback}
use Rattle.icu_rule_laws.proofs.tailored_texts.UntouchedMappings.{untouched_are_roots}

first_of : (a b : Bool) → (a && b) ≡ true → a ≡ true
first_of true b h = refl
first_of false b h = h

second_of : (a b : Bool) → (a && b) ≡ true → b ≡ true
second_of true b h = h
second_of false b h = cc

pub scalar_of : (c : ℕ) → IsScalarCode c → is_scalar c ≡ true
scalar_of c h = first_of (is_scalar c) (nat_lt c code_point_count) h

pub inside_of : (c : ℕ) → IsScalarCode c → c < code_point_count
inside_of c h = ltb-true c code_point_count (second_of (is_scalar c) (nat_lt c code_point_count) h)

jamo_place : (c : ℕ) → is_jamo c ≡ true → (c - jamo_base < jamo_count) × (jamo_base + (c - jamo_base) ≡ c)
jamo_place c j = (grind (arith, nat_tests), grind (arith, nat_tests))

not_same : (v w : ℕ) → (v ≡ w → ⊥) → (v == w) ≡ false
not_same v w n = elim (cases_Bool (v == w)) [
  | inl e ↦ absurd (n (grind (arith, nat_tests)))
  | inr e ↦ e
]

-- ---- the entries of tables

jamo_root : (tables : Tables) (c : ℕ) → is_jamo c ≡ true → root_entry tables c ≡ slice_index tables.jamo (c - jamo_base)
unfolding root_entry
jamo_root tables c j = ap (λ b. if b then slice_index tables.jamo (c - jamo_base) else tables.root.value c) j

other_root : (tables : Tables) (c : ℕ) → is_jamo c ≡ false → root_entry tables c ≡ tables.root.value c
unfolding root_entry
other_root tables c j = ap (λ b. if b then slice_index tables.jamo (c - jamo_base) else tables.root.value c) j

-- the entry of a character that is no jamo
abbrev unlisted_entry : Tables → ℕ → Option Data → HomedEntry
unlisted_entry tables c o = elim o as (λ _. HomedEntry) [
  | None ↦ homed tables.root (tables.root.value c)
  | Some tailoring ↦ tailored_entry tables.root tailoring c
]

jamo_entry_is : (tables : Tables) (c : ℕ) → is_jamo c ≡ true → entry_of tables c ≡ homed tables.root (slice_index tables.jamo (c - jamo_base))
unfolding entry_of
jamo_entry_is tables c j =
    ap (λ b. if b then homed tables.root (slice_index tables.jamo (c - jamo_base)) else unlisted_entry tables c tables.tailoring) j

other_entry_is : (tables : Tables) (own : Data) (c : ℕ) → tables.tailoring ≡ Some own → is_jamo c ≡ false
    → entry_of tables c ≡ tailored_entry tables.root own c
unfolding entry_of
other_entry_is tables own c is j =
    ap (λ b. if b then homed tables.root (slice_index tables.jamo (c - jamo_base)) else unlisted_entry tables c tables.tailoring) j
    ∙ ap (unlisted_entry tables c) is

module _ {R : Type 0} (mappings_of : R → ℕ → List RootMapping) (t : TailoringNumbers) (m : Mappings R) (over : Tables) (own : Data) (tables : Tables)
    (stays : RootElementsStay) (made : TailorTables mappings_of t m over own tables) (ok : AreLegible mappings_of m over own tables) where
  abbrev Says : Data → ℕ → ℕ → Type 0
  Says d c e = SaysMappings (numbered_element t) d c e (mappings_in mappings_of m c)

  -- ---- a character without mappings of its own

  root_are : (c : ℕ) → IsScalarCode c → has_own_mappings mappings_of m c ≡ false
      → mappings_in mappings_of m c ≡ map mapping_of_root (root_mappings_of over c)
  root_are c char none =
      untouched_are_roots mappings_of m c none (scalar_of c char)
      ∙ ap (λ (f : ℕ → List RootMapping). map mapping_of_root (f c)) made.of_root

  root_says : (c : ℕ) → IsScalarCode c → diacritic_of tables c ≡ None → has_own_mappings mappings_of m c ≡ false
      → Says tables.root c (root_entry over c)
  root_says c char no_diacritic none = by_diacritic (diacritic_of over c) refl
    where
      said : (ms : List RootMapping) → root_mappings_of over c ≡ ms
          → SaysMappings (numbered_element t) tables.root c (root_entry over c) (map mapping_of_root ms) → Says tables.root c (root_entry over c)
      said ms are h =
          subst (λ (xs : List SymbolicMapping). SaysMappings (numbered_element t) tables.root c (root_entry over c) xs)
          (sym (root_are c char none ∙ ap (map mapping_of_root) are)) h

      by_entry : (ms : List RootMapping) → entry_mappings tables.root c (root_entry over c) ≡ ms
          → SaysMappings (numbered_element t) tables.root c (root_entry over c) (map mapping_of_root ms)
      by_entry ms are =
          subst (λ (xs : List RootMapping). SaysMappings (numbered_element t) tables.root c (root_entry over c) (map mapping_of_root xs)) are
          (says_own_mappings (numbered_element t) tables.root (ascending_are_distinct tables.root ok.ascending_root)
          (halves_give_back stays t tables.root ok.halves) c (root_entry over c))

      stay : entry_mappings tables.root c (root_entry over c) ≡ entry_mappings over.root c (root_entry over c)
      stay = mappings_stay over.root tables.root c made.jamo.extends.lists (root_entry over c) (ok.rooted c char)

      by_diacritic : (o : Option ℕ) → diacritic_of over c ≡ o → Says tables.root c (root_entry over c)
      by_diacritic (Some s) is =
          said (diacritic_mapping s ∷ []) (diacritic_mappings over c s is)
          (by_entry (diacritic_mapping s ∷ []) (stay ∙ ok.plain c s char no_diacritic is))
      by_diacritic None is =
          said (entry_mappings over.root c (root_entry over c)) (no_diacritic_mappings over c is)
          (by_entry (entry_mappings over.root c (root_entry over c)) stay)

  -- ---- a character with such mappings

  given_says : (d : Data) (c e : ℕ) → HasAscendingContexts d → IsScalarCode c
      → GivesMappings t d c (mappings_in mappings_of m c) e → Says d c e
  given_says d c e ascending char g = given_said t d c (mappings_in mappings_of m c) e (ok.alone c char) g (ascending_are_distinct d ascending)

  -- ---- the entry of each

  abbrev SaysHomed : ℕ → HomedEntry → Type 0
  SaysHomed c h = Says h.home c h.entry

  jamo_says : (c : ℕ) → IsScalarCode c → diacritic_of tables c ≡ None → is_jamo c ≡ true
      → Says tables.root c (slice_index tables.jamo (c - jamo_base))
  jamo_says c char no_diacritic j = by_own (has_own_mappings mappings_of m c) refl entry
    where
      place : (c - jamo_base < jamo_count) × (jamo_base + (c - jamo_base) ≡ c)
      place = jamo_place c j

      entry : IsJamoEntry mappings_of t m tables.root c (slice_index over.jamo (c - jamo_base)) (slice_index tables.jamo (c - jamo_base))
      entry =
          subst (λ (x : ℕ). IsJamoEntry mappings_of t m tables.root x (slice_index over.jamo (c - jamo_base)) (slice_index tables.jamo (c - jamo_base)))
          place.1 (made.jamo.entries (c - jamo_base) place.0)

      of_root : root_entry over c ≡ slice_index over.jamo (c - jamo_base)
      of_root = jamo_root over c j

      by_own : (b : Bool) → has_own_mappings mappings_of m c ≡ b
          → MatchBool b (GivesMappings t tables.root c (mappings_in mappings_of m c) (slice_index tables.jamo (c - jamo_base)))
          (slice_index tables.jamo (c - jamo_base) ≡ slice_index over.jamo (c - jamo_base))
          → Says tables.root c (slice_index tables.jamo (c - jamo_base))
      by_own true is g = given_says tables.root c (slice_index tables.jamo (c - jamo_base)) ok.ascending_root char g
      by_own false is rooted = subst (Says tables.root c) (of_root ∙ sym rooted) (root_says c char no_diacritic is)

  other_says : (c : ℕ) → IsScalarCode c → diacritic_of tables c ≡ None → is_jamo c ≡ false → SaysHomed c (tailored_entry tables.root own c)
  other_says c char no_diacritic j = by_own (has_own_mappings mappings_of m c) refl (made.characters c (inside_of c char))
    where
      by_own : (b : Bool) → has_own_mappings mappings_of m c ≡ b
          → MatchBool b (GivesMappings t own c (mappings_in mappings_of m c) (own.value c)) (own.value c ≡ fallback_entry)
          → SaysHomed c (tailored_entry tables.root own c)
      by_own true is g =
          subst (SaysHomed c)
          (sym (ap (λ b. if b then homed tables.root (tables.root.value c) else homed own (own.value c))
          (not_same (own.value c) fallback_entry (no_fallback t own c (mappings_in mappings_of m c) (own.value c) (ok.alone c char) g))))
          (given_says own c (own.value c) ok.ascending char g)
      by_own false is rooted =
          subst (SaysHomed c)
          (sym (ap (λ b. if b then homed tables.root (tables.root.value c) else homed own (own.value c)) (eq-eqb (own.value c) fallback_entry rooted)))
          (subst (Says tables.root c) (other_root over c j ∙ sym (ap (λ (f : ℕ → ℕ). f c) made.jamo.extends.value)) (root_says c char no_diacritic is))

  pub tables_say : SayMappingsOf is_scalar_code (numbered_element t) tables (mappings_in mappings_of m)
  tables_say = record {
    entries = λ c char no_diacritic. by_jamo c char no_diacritic (is_jamo c) refl;
    diacritics = λ c secondary char is.
        marks_alone mappings_of t m over tables made.of_root made.diacritics stays c secondary (ok.alone c char) is;
  } where
    by_jamo : (c : ℕ) → IsScalarCode c → diacritic_of tables c ≡ None → (b : Bool) → is_jamo c ≡ b → SaysHomed c (entry_of tables c)
    by_jamo c char no_diacritic true j = subst (SaysHomed c) (sym (jamo_entry_is tables c j)) (jamo_says c char no_diacritic j)
    by_jamo c char no_diacritic false j =
        subst (SaysHomed c) (sym (other_entry_is tables own c made.tailoring j)) (other_says c char no_diacritic j)

pub read_by_tailorings : {R : Type 0} (mappings_of : R → ℕ → List RootMapping) → RootElementsStay → TextsAreReadByTailorings mappings_of
read_by_tailorings mappings_of stays t m over own tables made ok text all =
    some_read_by_mappings is_scalar_code (numbered_element t) tables (mappings_in mappings_of m)
    (tables_say mappings_of t m over own tables stays made ok) text all
