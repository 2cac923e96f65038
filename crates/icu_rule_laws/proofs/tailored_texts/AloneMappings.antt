-- Each character has a mapping alone, whatever rules there are.
use Rattle.std.proofs.Common.{◌≡◌, ℕ, Bool, true, false, ◌||◌, ◌&&◌, ◌==◌, not, bytes_eq, List, [], ◌∷◌, ◌++◌, map, filter, reverse, Option, Some, None, if◌then◌else◌, refl, ap, sym, subst, ◌∙◌}
use Rattle.std.proofs.lemmas.Bool.{and_parts}
use Rattle.std.proofs.Math.Bool.{or-true}
use Rattle.icu_rule_meaning.proofs.KeptRootLemmas.{before_keeps, strength_keeps}
use Rattle.std.specs.List.{list_any}
use Rattle.unicode_normalization.specs.Forms.{nfd}
use Rattle.icu_table_entries.specs.Entries.{kind_of}
use Rattle.icu_table_entries.specs.declared.entry.EntryKind.{EntryKind}
use Rattle.icu_table_entries.specs.declared.entry.EntryKind.TheVariants.{Prefix, Contraction}
use Rattle.icu_table_data.specs.Data.{Data, homed, context_of}
use Rattle.icu_element_matches.proofs.CharacterOrderLemmas.{same_lists}
use Rattle.icu_table_provider.specs.Tables.{diacritic_of}
use Rattle.icu_rule_root.specs.RootEntries.{entry_mapping, entry_mappings, mappings_of_prefixes, prefixed_mappings, root_entry, root_mappings_of, suffix_mappings}
use Rattle.icu_rule_meaning.specs.Rules.{Rule, reset, relation, suppression, setting, have_character}
use Rattle.icu_rule_meaning.specs.Steps.{TailoringState, case_step, first_state, mapping_step, relation_step, rule_step, state_after, strength_step, suppression_step}
use Rattle.icu_rule_meaning.specs.TailoredRoots.{RootMapping, Root}
use Rattle.icu_rule_meaning.specs.TailoredMappings.{SymbolicMapping, SymbolicMappings, has_no_context, is_mapping_of, mapping_of_root, with_mapping}
use Rattle.icu_rule_meaning.specs.declared.symbolic.SymbolicElement.{SymbolicElement}
use Rattle.icu_rule_laws.proofs.mapped_texts.RootTextLemmas.{diacritic_mappings, no_diacritic_mappings}
use Rattle.icu_rule_laws.specs.tailored_texts.SaidMappings.{HasMappingAlone, RootsHaveMappingsAlone, RulesKeepMappingsAlone}

if_alone : (b : Bool) (xs ys : List SymbolicMapping) → HasMappingAlone xs → HasMappingAlone ys → HasMappingAlone (if b then xs else ys)
if_alone true xs ys p q = p
if_alone false xs ys p q = q

further : (m : SymbolicMapping) (ms : List SymbolicMapping) → HasMappingAlone ms → HasMappingAlone (m ∷ ms)
further m ms h = ap (λ b. has_no_context m || b) h ∙ or-true (has_no_context m)

-- ---- a mapping in the place of others

nothing_before : (xs : List ℕ) → bytes_eq [] xs ≡ bytes_eq xs []
nothing_before [] = refl
nothing_before (x ∷ xs) = refl

-- one of the character alone isn't that of a context
another : (m : SymbolicMapping) (prefix suffix : List ℕ) → has_no_context m ≡ true → (bytes_eq prefix [] && bytes_eq suffix []) ≡ false
    → is_mapping_of prefix suffix m ≡ false
another m prefix suffix alone not_alone =
    let sides = and_parts (bytes_eq m.prefix []) (bytes_eq m.suffix []) alone in
    ap (λ xs. bytes_eq xs prefix && bytes_eq m.suffix suffix) (same_lists m.prefix [] sides.0)
    ∙ ap (λ xs. bytes_eq [] prefix && bytes_eq xs suffix) (same_lists m.suffix [] sides.1)
    ∙ ap (λ b. b && bytes_eq [] suffix) (nothing_before prefix)
    ∙ ap (λ b. bytes_eq prefix [] && b) (nothing_before suffix)
    ∙ not_alone

others_alone : (prefix suffix : List ℕ) → (bytes_eq prefix [] && bytes_eq suffix []) ≡ false → (ms : List SymbolicMapping)
    → HasMappingAlone ms → HasMappingAlone (filter (λ m. not (is_mapping_of prefix suffix m)) ms)
others_alone prefix suffix not_alone [] h = h
others_alone prefix suffix not_alone (m ∷ ms) h = here (has_no_context m) refl (λ k. others_alone prefix suffix not_alone ms k) h
  where
    rest : List SymbolicMapping
    rest = filter (λ n. not (is_mapping_of prefix suffix n)) ms

    here : (b : Bool) → has_no_context m ≡ b → (HasMappingAlone ms → HasMappingAlone rest) → (b || list_any has_no_context ms) ≡ true
        → HasMappingAlone (if not (is_mapping_of prefix suffix m) then m ∷ rest else rest)
    here true is more h =
        subst (λ b. HasMappingAlone (if not b then m ∷ rest else rest)) (sym (another m prefix suffix is not_alone))
        (ap (λ b. b || list_any has_no_context rest) is)
    here false is more h = if_alone (not (is_mapping_of prefix suffix m)) (m ∷ rest) rest (further m rest (more h)) (more h)

with_alone : (new : SymbolicMapping) (ms : List SymbolicMapping) → HasMappingAlone ms → HasMappingAlone (with_mapping new ms)
with_alone new ms h = by_new (has_no_context new) refl
  where
    by_new : (b : Bool) → has_no_context new ≡ b → HasMappingAlone (with_mapping new ms)
    by_new true is = ap (λ b. b || list_any has_no_context (filter (λ m. not (is_mapping_of new.prefix new.suffix m)) ms)) is
    by_new false is =
        further new (filter (λ m. not (is_mapping_of new.prefix new.suffix m)) ms) (others_alone new.prefix new.suffix is ms h)

-- those without a context have it
kept_alone : (ms : List SymbolicMapping) → HasMappingAlone ms → HasMappingAlone (filter has_no_context ms)
kept_alone [] h = h
kept_alone (m ∷ ms) h = here (has_no_context m) refl (λ k. kept_alone ms k) h
  where
    here : (b : Bool) → has_no_context m ≡ b → (HasMappingAlone ms → HasMappingAlone (filter has_no_context ms))
        → (b || list_any has_no_context ms) ≡ true
        → HasMappingAlone (if b then m ∷ filter has_no_context ms else filter has_no_context ms)
    here true is more h = ap (λ b. b || list_any has_no_context (filter has_no_context ms)) is
    here false is more h = more h

-- ---- rules

abbrev AllAlone : SymbolicMappings → Type 0
AllAlone mappings = (c : ℕ) → HasMappingAlone (mappings c)

mapping_alone : (prefix string : List ℕ) (es : List SymbolicElement) (state : TailoringState) → AllAlone state.mappings
    → AllAlone (mapping_step prefix string es state).mappings
mapping_alone prefix [] es state h c = h c
mapping_alone prefix (d ∷ suffix) es state h c = if_alone (c == d) _ (state.mappings c) (with_alone (record { prefix = reverse prefix; suffix = suffix; elements = es }) (state.mappings d) (h d)) (h c)

rule_alone : (root : Root) (state : TailoringState) (rule : Rule) → AllAlone state.mappings → AllAlone (rule_step root state rule).mappings
unfolding relation_step suppression_step
rule_alone root state (reset before place) h = subst AllAlone (sym (before_keeps root before place state)) h
rule_alone root state (relation strength prefix string extension) h =
    mapping_alone (nfd prefix) (nfd string) _ (case_step root (nfd string) (strength_step strength state))
    (subst AllAlone (sym (strength_keeps strength state)) h)
rule_alone root state (suppression ranges) h =
    λ c. if_alone (have_character ranges c) _ (state.mappings c) (kept_alone (state.mappings c) (h c)) (h c)
rule_alone root state (setting s) h = h

state_alone : (root : Root) (state : TailoringState) (rules : List Rule) → AllAlone state.mappings → AllAlone (state_after root state rules).mappings
state_alone root state [] h = h
state_alone root state (rule ∷ rules) h = state_alone root (rule_step root state rule) rules (rule_alone root state rule h)

pub rules_keep_alone : RulesKeepMappingsAlone
rules_keep_alone root rules h = state_alone root (first_state root) rules h

-- ---- the root of tables

alone_append : (xs ys : List RootMapping) → HasMappingAlone (map mapping_of_root xs) → HasMappingAlone (map mapping_of_root (xs ++ ys))
alone_append [] ys h = cc
alone_append (x ∷ xs) ys h = here (has_no_context (mapping_of_root x)) (λ k. alone_append xs ys k) h
  where
    here : (b : Bool) → (HasMappingAlone (map mapping_of_root xs) → HasMappingAlone (map mapping_of_root (xs ++ ys)))
        → (b || list_any has_no_context (map mapping_of_root xs)) ≡ true
        → (b || list_any has_no_context (map mapping_of_root (xs ++ ys))) ≡ true
    here true more h = refl
    here false more h = more h

prefixed_alone : (home : Data) (c e : ℕ) → HasMappingAlone (map mapping_of_root (prefixed_mappings home c [] e))
unfolding prefixed_mappings
prefixed_alone home c e = at (kind_of e)
  where
    at : (k : EntryKind) → HasMappingAlone (map mapping_of_root (elim k as (λ _. List RootMapping) [
      | Contraction ↦
          entry_mapping home c [] [] (context_of (homed home e)).default
          ∷ suffix_mappings home c [] (context_of (homed home e)).mappings
      | _ ↦ entry_mapping home c [] [] e ∷ []
    ]))
    at Contraction = refl
    at _ = refl

entry_alone : (home : Data) (c e : ℕ) → HasMappingAlone (map mapping_of_root (entry_mappings home c e))
unfolding entry_mappings
entry_alone home c e = at (kind_of e)
  where
    at : (k : EntryKind) → HasMappingAlone (map mapping_of_root (elim k as (λ _. List RootMapping) [
      | Prefix ↦
          prefixed_mappings home c [] (context_of (homed home e)).default
          ++ mappings_of_prefixes home c (context_of (homed home e)).mappings
      | _ ↦ prefixed_mappings home c [] e
    ]))
    at Prefix =
        alone_append (prefixed_mappings home c [] (context_of (homed home e)).default)
        (mappings_of_prefixes home c (context_of (homed home e)).mappings) (prefixed_alone home c (context_of (homed home e)).default)
    at _ = prefixed_alone home c e

pub roots_have_alone : RootsHaveMappingsAlone
roots_have_alone tables c = by_diacritic (diacritic_of tables c) refl
  where
    by_diacritic : (o : Option ℕ) → diacritic_of tables c ≡ o → HasMappingAlone (map mapping_of_root (root_mappings_of tables c))
    by_diacritic (Some s) is =
        subst (λ (ms : List RootMapping). HasMappingAlone (map mapping_of_root ms)) (sym (diacritic_mappings tables c s is)) refl
    by_diacritic None is =
        subst (λ (ms : List RootMapping). HasMappingAlone (map mapping_of_root ms)) (sym (no_diacritic_mappings tables c is))
        (entry_alone tables.root c (root_entry tables c))
