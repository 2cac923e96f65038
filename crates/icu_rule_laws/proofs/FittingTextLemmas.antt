-- By the tables of rules the weights of a text's elements fit their levels.
use Rattle.std.proofs.Common.{◌≡◌, ℕ, ◌≤◌, ◌/◌, ◌%◌, ◌^◌, Bool, true, false, ◌&&◌, nat_le, List, [], ◌∷◌, ◌++◌, length, map, Option, Some, None, refl, ap, ap₂, sym, subst, ◌∙◌, arith}
use Rattle.std.specs.Prelude.{MatchBool}
use Rattle.std.specs.List.{AllByRecursion}
use Rattle.std.proofs.lemmas.Bool.{and_parts, eq-eqb}
use Rattle.std.proofs.lemmas.Bool.Decides.{nat_tests}
use Rattle.std.proofs.lemmas.List.Elements.{All-cons, All-nil}
use Rattle.std.proofs.lemmas.Nat.{and_assoc}
use Rattle.unicode_normalization.specs.Forms.{nfd}
use Rattle.icu_table_entries.specs.Elements.{Element, of_secondary, tertiary_mask}
use Rattle.icu_table_entries.specs.Entries.{fallback_entry, kind_of}
use Rattle.icu_table_entries.specs.declared.entry.EntryKind.{EntryKind}
use Rattle.icu_table_entries.specs.declared.entry.EntryKind.TheVariants.{Prefix, Contraction}
use Rattle.icu_table_data.specs.Data.{Data, Mapping, context_of, homed}
use Rattle.icu_table_provider.specs.Tables.{Tables, diacritic_of}
use Rattle.icu_rule_parser.specs.declared.rules.PlacedStatement.{PlacedStatement}
use Rattle.icu_rule_root.specs.RootEntries.{entry_elements, entry_mapping, entry_mappings, diacritic_mapping, mappings_of_prefixes, prefixed_mappings, root_entry, root_mappings_of, suffix_mappings}
use Rattle.icu_rule_root.specs.StoredRoots.{stored_root, tables_beside}
use Rattle.icu_rule_root.specs.declared.checked_root.CheckedRoot.{CheckedRoot}
use Rattle.icu_rule_meaning.specs.Steps.{TailoringState}
use Rattle.icu_rule_meaning.specs.SymbolicElements.{of_root}
use Rattle.icu_rule_meaning.specs.TailoredMappings.{SymbolicMapping, SymbolicMappings, mapping_of_root}
use Rattle.icu_rule_meaning.specs.TailoredRoots.{RootMapping}
use Rattle.icu_rule_meaning.specs.declared.symbolic.SymbolicElement.{SymbolicElement}
use Rattle.icu_rule_meaning.specs.Rules.{rules_of}
use Rattle.icu_rule_meaning.proofs.EachElementLemmas.{HaveEach, symbolic_each}
use Rattle.icu_rule_meaning.proofs.WholeElements.{AreWhole}
use Rattle.icu_rule_meaning.proofs.WholeStates.{tailoring_whole, text_whole}
use Rattle.icu_rule_weights.specs.declared.tailoring_numbers.tailoring_numbers.TailoringNumbers.{TailoringNumbers}
use Rattle.icu_rule_weights.specs.tailoring_numbers.NumberedElements.{FitsAll, fits_element, fits_lower, number_at}
use Rattle.icu_rule_steps.specs.held_relations.HeldRelations.{elements_by_all}
use Rattle.icu_rule_steps.specs.symbolic_mappings.KeptMappings.{mappings_in}
use Rattle.icu_rule_steps.specs.symbolic_mappings.TouchedCharacters.{has_own_mappings}
use Rattle.icu_rule_tables.specs.StatesByRules.{mappings_beside, state_over}
use Rattle.icu_rule_tables.specs.Tailorings.{HasTablesOf, SaysRules}
use Rattle.icu_rule_tables.specs.declared.tailoring.Tailoring.{Tailoring}
use Rattle.icu_rule_tables.specs.tailored_entries.GivenMappings.{GivesMappings, all_fit, mappings_fit}
use Rattle.icu_rule_tables.proofs.TailoredHalves.{HaveHalves, beside_halves}
use Rattle.icu_rule_laws.specs.RuleTexts.{tables_of_root}
use Rattle.icu_rule_laws.specs.tailored_texts.TailoredTexts.{IsScalarCode}
use Rattle.icu_rule_laws.proofs.tailored_texts.RootHalves.{HasHalf, half_entry}
use Rattle.icu_rule_laws.proofs.tailored_texts.TailoredTextLemmas.{inside_of, scalar_of}
use Rattle.icu_rule_laws.proofs.tailored_texts.UntouchedMappings.{untouched_are_roots}

-- tertiary weight, quaternary weight and case of an element have their own bits
abbrev pub Fits : TailoringNumbers → SymbolicElement → Type 0
Fits t e = fits_lower t e ≡ true

-- ---- elements of the root

few : (n : ℕ) → n ≤ 3 → nat_le n 3 ≡ true
few n l = grind (arith, nat_tests)

root_fits : (t : TailoringNumbers) (x : Element) → HasHalf x → Fits t (of_root x)
root_fits t x small =
    ap₂ (λ (a b : Bool). a && b)
    (ap₂ (λ (a b : Bool). a && b) (eq-eqb _ _ (and_assoc tertiary_mask x.lower tertiary_mask)) (few (x.lower / 2 ^ 6 % 2 ^ 2) (omega arith)))
    (few (x.lower / 2 ^ 14) (omega (arith, small)))

module _ (t : TailoringNumbers) where
  abbrev Fit : List SymbolicElement → Type 0
  Fit = AllByRecursion (Fits t)

  abbrev HaveFit : List RootMapping → Type 0
  HaveFit ms = HaveEach (Fits t) (map mapping_of_root ms)

  roots_fit : (xs : List Element) → AllByRecursion HasHalf xs → Fit (map of_root xs)
  roots_fit [] h = tt
  roots_fit (x ∷ xs) (h, hs) = (root_fits t x h, roots_fit xs hs)

  fit_append : (ms ns : List RootMapping) → HaveFit ms → HaveFit ns → HaveFit (ms ++ ns)
  fit_append [] ns p q = q
  fit_append (m ∷ ms) ns (p, ps) q = (p, fit_append ms ns ps q)

  module _ (home : Data) (halves : HaveHalves home) (c : ℕ) where
    entry_fits : (e : ℕ) → Fit (map of_root (entry_elements home c e))
    entry_fits e = roots_fit (entry_elements home c e) (half_entry home halves c e)

    suffixes_fit : (prefix : List ℕ) (ms : List Mapping) → HaveFit (suffix_mappings home c prefix ms)
    suffixes_fit prefix [] = tt
    suffixes_fit prefix (m ∷ ms) = (entry_fits m.entry, suffixes_fit prefix ms)

    prefixed_fit : (prefix : List ℕ) (e : ℕ) → HaveFit (prefixed_mappings home c prefix e)
    unfolding prefixed_mappings
    prefixed_fit prefix e = at (kind_of e)
      where
        at : (k : EntryKind) → HaveFit (elim k as (λ _. List RootMapping) [
          | Contraction ↦ entry_mapping home c prefix [] (context_of (homed home e)).default ∷ suffix_mappings home c prefix (context_of (homed home e)).mappings
          | _ ↦ entry_mapping home c prefix [] e ∷ []
        ])
        at Contraction = (entry_fits (context_of (homed home e)).default, suffixes_fit prefix (context_of (homed home e)).mappings)
        at _ = (entry_fits e, tt)

    prefixes_fit : (ms : List Mapping) → HaveFit (mappings_of_prefixes home c ms)
    prefixes_fit [] = tt
    prefixes_fit (m ∷ ms) =
        fit_append (prefixed_mappings home c m.chars m.entry) (mappings_of_prefixes home c ms) (prefixed_fit m.chars m.entry) (prefixes_fit ms)

    entries_fit : (e : ℕ) → HaveFit (entry_mappings home c e)
    unfolding entry_mappings
    entries_fit e = at (kind_of e)
      where
        at : (k : EntryKind) → HaveFit (elim k as (λ _. List RootMapping) [
          | Prefix ↦ prefixed_mappings home c [] (context_of (homed home e)).default ++ mappings_of_prefixes home c (context_of (homed home e)).mappings
          | _ ↦ prefixed_mappings home c [] e
        ])
        at Prefix =
            fit_append (prefixed_mappings home c [] (context_of (homed home e)).default) (mappings_of_prefixes home c (context_of (homed home e)).mappings)
            (prefixed_fit [] (context_of (homed home e)).default) (prefixes_fit (context_of (homed home e)).mappings)
        at _ = prefixed_fit [] e

  tables_fit : (tables : Tables) → HaveHalves tables.root → (c : ℕ) → HaveFit (root_mappings_of tables c)
  unfolding root_mappings_of
  tables_fit tables halves c = by (diacritic_of tables c)
    where
      by : (o : Option ℕ) → HaveFit (elim o as (λ _. List RootMapping) [
        | Some s ↦ diacritic_mapping s ∷ []
        | None ↦ entry_mappings tables.root c (root_entry tables c)
      ])
      by (Some s) = ((root_fits t (of_secondary s) (omega arith), tt), tt)
      by None = entries_fit tables.root halves c (root_entry tables c)

  -- ---- elements of rules

  elements_fit : (es : List SymbolicElement) → all_fit t es ≡ true → Fit es
  elements_fit [] h = tt
  elements_fit (e ∷ es) h =
      let (first, rest) = and_parts (fits_element t e) (all_fit t es) h in
      let (lower, second) = and_parts (fits_lower t e) (nat_le (number_at t 2 e) 0xFFFF) first in
      (lower, elements_fit es rest)

  own_fit : (ms : List SymbolicMapping) → mappings_fit t ms ≡ true → HaveEach (Fits t) ms
  own_fit [] h = tt
  own_fit (m ∷ ms) h =
      let (first, rest) = and_parts (all_fit t m.elements) (mappings_fit t ms) h in
      (elements_fit m.elements first, own_fit ms rest)

module _ (root : CheckedRoot) (state : TailoringState) (numbers : TailoringNumbers) (t : Tailoring) (h : HasTablesOf root numbers state t) where
  kept_fit : (c : ℕ) → IsScalarCode c → HaveEach (Fits numbers) (mappings_in mappings_beside h.given.kept c)
  kept_fit c char = by (has_own_mappings mappings_beside h.given.kept c) refl (h.given.gives c (inside_of c char))
    where
      by : (b : Bool) → has_own_mappings mappings_beside h.given.kept c ≡ b
          → MatchBool b (GivesMappings numbers h.own c (mappings_in mappings_beside h.given.kept c) (h.own.value c)) (h.own.value c ≡ fallback_entry)
          → HaveEach (Fits numbers) (mappings_in mappings_beside h.given.kept c)
      by true is gives = own_fit numbers (mappings_in mappings_beside h.given.kept c) gives.fit
      by false is falls =
          subst (λ (ms : List SymbolicMapping). HaveEach (Fits numbers) ms)
          (sym (untouched_are_roots mappings_beside h.given.kept c is (scalar_of c char)
          ∙ ap (λ (f : ℕ → List RootMapping). map mapping_of_root (f c)) h.given.of_root))
          (tables_fit numbers (tables_of_root root) (beside_halves (tables_beside root) None) c)

  state_fits : (c : ℕ) → IsScalarCode c → HaveEach (Fits numbers) (state.mappings c)
  state_fits c char = subst (λ (ms : SymbolicMappings). HaveEach (Fits numbers) (ms c)) h.given.same (kept_fit c char)

pub text_fits : (root : CheckedRoot) (placed : List PlacedStatement) (t : Tailoring) (says : SaysRules root placed t) (text : List ℕ)
    → AllByRecursion IsScalarCode (nfd text) → AllByRecursion (Fits says.numbers) (elements_by_all (stored_root root) placed text)
text_fits root placed t says text scalars =
    symbolic_each (Fits says.numbers) IsScalarCode (state_over root placed).mappings (nfd text)
    (state_fits root (state_over root placed) says.numbers t says.tables) scalars

-- so do weights of four levels
all_fit_four : (t : TailoringNumbers) (es : List SymbolicElement) → AreWhole es → AllByRecursion (Fits t) es → FitsAll t es
all_fit_four t [] ws fs = All-nil (λ (e : SymbolicElement). (length e.weights ≡ 4) × (fits_lower t e ≡ true))
all_fit_four t (e ∷ es) (w, ws) (f, fs) =
    All-cons (λ (e : SymbolicElement). (length e.weights ≡ 4) × (fits_lower t e ≡ true)) e es (ap length w.weights, f) (all_fit_four t es ws fs)

pub text_whole_by : (root : CheckedRoot) (placed : List PlacedStatement) (text : List ℕ) → AreWhole (elements_by_all (stored_root root) placed text)
text_whole_by root placed text =
    text_whole (state_over root placed).mappings (nfd text) (tailoring_whole (stored_root root) (rules_of placed)).mappings

pub text_fits_all : (root : CheckedRoot) (placed : List PlacedStatement) (t : Tailoring) (says : SaysRules root placed t) (text : List ℕ)
    → AllByRecursion IsScalarCode (nfd text) → FitsAll says.numbers (elements_by_all (stored_root root) placed text)
text_fits_all root placed t says text scalars =
    all_fit_four says.numbers (elements_by_all (stored_root root) placed text) (text_whole_by root placed text)
    (text_fits root placed t says text scalars)
