-- A root with more lists has the mappings that it had.
use Rattle.std.proofs.Common.{◌≡◌, ℕ, ◌+◌, ◌≤◌, ◌<◌, ◌-◌, Bool, true, List, [], ◌∷◌, ◌++◌, IsTrue, length, length-append, map, filter, take, drop, refl, sym, ap, ap₂, ◌∙◌, arith}
use Rattle.std.specs.Prelude.{nat_le, nat_lt, slice_index}
use Rattle.std.specs.List.{flat_map}
use Rattle.std.proofs.Math.ListN.{get_or-append}
use Rattle.std.proofs.lemmas.Bool.{and_parts}
use Rattle.std.proofs.lemmas.Bool.Decides.{nat_tests}
use Rattle.std.proofs.lemmas.List.{take-append-le, drop-append-le, length-drop}
use Rattle.icu_table_entries.specs.Elements.{Element, of_primary}
use Rattle.icu_table_entries.specs.declared.entry.EntryKind.{EntryKind}
use Rattle.icu_table_entries.specs.declared.entry.EntryKind.TheVariants.{Expansion32, Expansion, Prefix, Contraction, Digit, Offset, Implicit}
use Rattle.icu_table_entries.specs.EntryConditions.{has_offset_weight, is_listed}
use Rattle.icu_table_entries.specs.Entries.{entry_index, kind_of, list_length, self_contained}
use Rattle.icu_table_entries.specs.Weights.{implicit_weight, offset_element}
use Rattle.icu_table_data.specs.Data.{Context, Data, Mapping, context_in, context_of, found_data, homed, no_context, plain_of}
use Rattle.icu_table_data.specs.DataConditions.{is_inside, is_readable}
use Rattle.icu_table_data.specs.Final.{final_elements, listed}
use Rattle.icu_table_data.proofs.EntryLemmas.{test_inside}
use Rattle.icu_element_matches.specs.WellFormedEntries.{HasContext, IsWellFormedFrom, IsWellFormedMatch}
use Rattle.icu_table_mappings.specs.GrownLists.{HasMoreLists}
use Rattle.icu_table_mappings.proofs.GrownListLemmas.{listed_inside}
use Rattle.icu_rule_meaning.specs.TailoredRoots.{RootMapping}
use Rattle.icu_rule_root.specs.RootEntries.{entry_elements, entry_mapping, entry_mappings, mappings_of_prefixes, prefixed_mappings, suffix_mappings}
use Rattle.icu_rule_root.specs.inner.LedEntries.{AreWellFormedContractions, AreWellFormedMatches, IsWellFormedContraction}
use Rattle.icu_rule_root.proofs.RootEntryLemmas.{contraction_inside, contraction_of_entry, default_contraction, default_match, mapping_contractions, mapping_matches, match_of_contraction, match_readable, plain_inside, plain_readable, prefix_inside}

-- ---- lists

fits : (a b : ℕ) → IsTrue (nat_le a b) → a ≤ b
fits a b h = grind (arith, nat_tests)

-- a list that lies inside stays
list_stays : {A : Type 0} (e : ℕ) (xs more ys : List A) → ys ≡ xs ++ more → IsTrue (is_listed e (length xs)) → listed e ys ≡ listed e xs
list_stays e xs more ys same h =
    let i : ℕ = entry_index e in
    let n : ℕ = list_length e in
    let inside : i + n ≤ length xs = fits (i + n) (length xs) (and_parts (nat_lt 0 n) (nat_le (i + n) (length xs)) h).1 in
    let size : length ys ≡ length xs + length more = ap length same ∙ length-append xs more in
    let left : length (drop i xs) ≡ length xs - i = length-drop i xs in
    listed_inside e ys (omega (arith, inside, size))
    ∙ ap (λ zs. take n (drop i zs)) same
    ∙ ap (take n) (drop-append-le i xs more (omega (arith, inside)))
    ∙ take-append-le n (drop i xs) more (omega (arith, inside, left))
    ∙ sym (listed_inside e xs inside)

module _ (over new : Data) (c : ℕ) (grows : HasMoreLists over new) where
  data_stay : (e : ℕ) → entry_index e < length over.elements → found_data new e ≡ found_data over e
  data_stay e inside =
      let i : ℕ = entry_index e in
      let left : length (drop i over.elements) ≡ length over.elements - i = length-drop i over.elements in
      ap (λ (xs : List Element). take 1 (drop i xs)) grows.elements
      ∙ ap (take 1) (drop-append-le i over.elements grows.more_elements (omega (arith, inside)))
      ∙ take-append-le 1 (drop i over.elements) grows.more_elements (omega (arith, inside, left))

  context_stays : (e : ℕ) → HasContext over e → context_of (homed new e) ≡ context_of (homed over e)
  context_stays e inside =
      ap (λ (xs : List Context). context_in xs (entry_index e)) grows.contexts
      ∙ get_or-append over.contexts grows.more_contexts no_context (entry_index e) inside

  plain_stays : (e : ℕ) → entry_index e < length over.entries → plain_of new e ≡ plain_of over e
  plain_stays e inside =
      ap (λ (xs : List ℕ). slice_index xs (entry_index e)) grows.entries
      ∙ get_or-append over.entries grows.more_entries 0 (entry_index e) inside

  -- ---- elements

  inside_of : (e : ℕ) → IsTrue (is_readable over c e) → IsTrue (is_inside over e)
  unfolding is_readable
  inside_of e h = (and_parts _ _ (and_parts _ _ h).0).0

  final_stay : (e : ℕ) → IsTrue (is_inside over e) → final_elements (homed new e) c ≡ final_elements (homed over e) c
  unfolding final_elements is_inside
  final_stay e inside = at (kind_of e) inside
    where
      at : (k : EntryKind)
          → IsTrue (elim k as (λ _. Bool) [
            | Expansion32 ↦ is_listed e (length over.entries)
            | Expansion ↦ is_listed e (length over.elements)
            | Prefix ↦ nat_lt (entry_index e) (length over.contexts)
            | Contraction ↦ nat_lt (entry_index e) (length over.contexts)
            | Digit ↦ nat_lt (entry_index e) (length over.entries)
            | Offset ↦ nat_lt (entry_index e) (length over.elements)
            | _ ↦ true
          ])
          → (elim k as (λ _. List Element) [
            | Expansion32 ↦ flat_map self_contained (listed e new.entries)
            | Expansion ↦ listed e new.elements
            | Offset ↦ map (λ d. offset_element d c) (filter (λ d. has_offset_weight d c) (found_data new e))
            | Implicit ↦ of_primary (implicit_weight c) ∷ []
            | _ ↦ self_contained e
          ])
          ≡ (elim k as (λ _. List Element) [
            | Expansion32 ↦ flat_map self_contained (listed e over.entries)
            | Expansion ↦ listed e over.elements
            | Offset ↦ map (λ d. offset_element d c) (filter (λ d. has_offset_weight d c) (found_data over e))
            | Implicit ↦ of_primary (implicit_weight c) ∷ []
            | _ ↦ self_contained e
          ])
      at Expansion32 h = ap (flat_map self_contained) (list_stays e over.entries grows.more_entries new.entries grows.entries h)
      at Expansion h = list_stays e over.elements grows.more_elements new.elements grows.elements h
      at Offset h =
          ap (λ (ds : List Element). map (λ d. offset_element d c) (filter (λ d. has_offset_weight d c) ds))
          (data_stay e (test_inside (entry_index e) (length over.elements) h))
      at _ h = refl

  elements_stay : (e : ℕ) → IsWellFormedMatch over c e → entry_elements new c e ≡ entry_elements over c e
  unfolding entry_elements
  elements_stay e meet = at (kind_of e) refl
    where
      at : (k : EntryKind) → kind_of e ≡ k
          → (elim k as (λ _. List Element) [
            | Digit ↦ final_elements (homed new (plain_of new e)) c
            | _ ↦ final_elements (homed new e) c
          ])
          ≡ (elim k as (λ _. List Element) [
            | Digit ↦ final_elements (homed over (plain_of over e)) c
            | _ ↦ final_elements (homed over e) c
          ])
      at Digit is =
          ap (λ p. final_elements (homed new p) c) (plain_stays e (plain_inside over c e is meet))
          ∙ final_stay (plain_of over e) (inside_of (plain_of over e) (plain_readable over c e is meet))
      at _ is = final_stay e (inside_of e (match_readable over c e meet))

  -- ---- mappings

  abbrev mapped : List ℕ → List ℕ → List Element → RootMapping
  mapped prefix suffix elements = record { prefix = prefix; suffix = suffix; elements = elements }

  mapping_stays : (prefix suffix : List ℕ) (e : ℕ) → IsWellFormedMatch over c e
      → entry_mapping new c prefix suffix e ≡ entry_mapping over c prefix suffix e
  mapping_stays prefix suffix e meet = ap (mapped prefix suffix) (elements_stay e meet)

  suffixes_stay : (prefix : List ℕ) (ms : List Mapping) → AreWellFormedMatches over c ms
      → suffix_mappings new c prefix ms ≡ suffix_mappings over c prefix ms
  suffixes_stay prefix [] meet = refl
  suffixes_stay prefix (m ∷ ms) (meet, more) =
      ap₂ (λ (x : RootMapping) (xs : List RootMapping). x ∷ xs) (mapping_stays prefix m.chars m.entry meet) (suffixes_stay prefix ms more)

  abbrev of_suffixes : List ℕ → Data → Context → List RootMapping
  of_suffixes prefix home context = entry_mapping home c prefix [] context.default ∷ suffix_mappings home c prefix context.mappings

  prefixed_stay : (prefix : List ℕ) (e : ℕ) → IsWellFormedContraction over c e
      → prefixed_mappings new c prefix e ≡ prefixed_mappings over c prefix e
  unfolding prefixed_mappings
  prefixed_stay prefix e meet = at (kind_of e) refl
    where
      at : (k : EntryKind) → kind_of e ≡ k
          → (elim k as (λ _. List RootMapping) [
            | Contraction ↦ of_suffixes prefix new (context_of (homed new e))
            | _ ↦ entry_mapping new c prefix [] e ∷ []
          ])
          ≡ (elim k as (λ _. List RootMapping) [
            | Contraction ↦ of_suffixes prefix over (context_of (homed over e))
            | _ ↦ entry_mapping over c prefix [] e ∷ []
          ])
      at Contraction is =
          ap (of_suffixes prefix new) (context_stays e (contraction_inside over c e is meet))
          ∙ ap₂ (λ (x : RootMapping) (xs : List RootMapping). x ∷ xs)
          (mapping_stays prefix [] (context_of (homed over e)).default (default_match over c e is meet))
          (suffixes_stay prefix (context_of (homed over e)).mappings (mapping_matches over c e is meet))
      at _ is = ap (λ (x : RootMapping). x ∷ []) (mapping_stays prefix [] e (match_of_contraction over c e meet))

  groups_stay : (ms : List Mapping) → AreWellFormedContractions over c ms
      → mappings_of_prefixes new c ms ≡ mappings_of_prefixes over c ms
  groups_stay [] meet = refl
  groups_stay (m ∷ ms) (meet, more) =
      ap₂ (λ (xs ys : List RootMapping). xs ++ ys) (prefixed_stay m.chars m.entry meet) (groups_stay ms more)

  abbrev of_prefixes : Data → Context → List RootMapping
  of_prefixes home context = prefixed_mappings home c [] context.default ++ mappings_of_prefixes home c context.mappings

  -- the mappings of an entry whose lists are there
  pub mappings_stay : (e : ℕ) → IsWellFormedFrom over c e → entry_mappings new c e ≡ entry_mappings over c e
  unfolding entry_mappings
  mappings_stay e meet = at (kind_of e) refl
    where
      at : (k : EntryKind) → kind_of e ≡ k
          → (elim k as (λ _. List RootMapping) [
            | Prefix ↦ of_prefixes new (context_of (homed new e))
            | _ ↦ prefixed_mappings new c [] e
          ])
          ≡ (elim k as (λ _. List RootMapping) [
            | Prefix ↦ of_prefixes over (context_of (homed over e))
            | _ ↦ prefixed_mappings over c [] e
          ])
      at Prefix is =
          ap (of_prefixes new) (context_stays e (prefix_inside over c e is meet))
          ∙ ap₂ (λ (xs ys : List RootMapping). xs ++ ys)
          (prefixed_stay [] (context_of (homed over e)).default (default_contraction over c e is meet))
          (groups_stay (context_of (homed over e)).mappings (mapping_contractions over c e is meet))
      at _ is = prefixed_stay [] e (contraction_of_entry over c e meet)
