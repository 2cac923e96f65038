-- An entry that gives mappings says just these.
use Rattle.std.proofs.Common.{◌≡◌, ℕ, Bool, true, false, inl, inr, bytes_eq, List, [], ◌∷◌, take, Option, Some, None, if◌then◌else◌, refl, ap, sym, subst, ◌∙◌}
use Rattle.std.specs.Prelude.{◌&&◌, ◌||◌, is_some}
use Rattle.std.specs.List.{list_any}
use Rattle.icu_table_entries.specs.declared.entry.EntryKind.{EntryKind}
use Rattle.icu_table_entries.specs.declared.entry.EntryKind.TheVariants.{Prefix, Contraction}
use Rattle.icu_table_entries.specs.Entries.{fallback_entry, kind_of}
use Rattle.icu_table_data.specs.Data.{Data, Context, homed, context_of, mapping_entry}
use Rattle.icu_element_matches.specs.Matches.{after_prefix}
use Rattle.icu_table_mappings.specs.Given.{LeadsJust, entry_in}
use Rattle.icu_table_mappings.specs.Surroundings.{own_entry}
use Rattle.icu_rule_meaning.specs.TailoredMappings.{SymbolicMapping, beginnings, has_no_context, mapping_with, mappings_behind}
use Rattle.icu_rule_weights.specs.tailoring_numbers.NumberedElements.{numbered_element}
use Rattle.icu_rule_weights.specs.declared.tailoring_numbers.tailoring_numbers.TailoringNumbers.{TailoringNumbers}
use Rattle.icu_rule_tables.specs.tailored_entries.GivenMappings.{GivesMappings, StandsFor, StandsForMappings}
use Rattle.icu_rule_laws.specs.mapped_texts.MappedTexts.{HaveSameElements, SaysMappings, context_behind_prefix, entry_of_suffix}
use Rattle.icu_rule_laws.proofs.mapped_texts.DistinctLemmas.{HasDistinctMappings, ascending_are_distinct}
use Rattle.icu_rule_laws.proofs.mapped_texts.LongestPrefixLemmas.{bare_everywhere, behind_kept, has_bare, own_of}
use Rattle.icu_rule_laws.proofs.mapped_texts.MappedMatchLemmas.{longer_than_default}
use Rattle.icu_rule_laws.proofs.mapped_texts.RootMappingLemmas.{default_of_nothing}
use Rattle.icu_rule_laws.specs.tailored_texts.SaidMappings.{GivenMappingsAreSaid, HasMappingAlone}
use Rattle.icu_rule_laws.proofs.tailored_texts.StandingKinds.{IsStanding, entry_stands, entry_weighted}
use Rattle.icu_rule_laws.proofs.tailored_texts.SaidEntries.{ComesTo, comes_to_itself, comes_to_prefix}

-- ---- a mapping of the character alone

-- one that has neither prefix nor suffix is one without a suffix among those without a prefix
pub alone_is_bare : (ms : List SymbolicMapping) → list_any has_no_context ms ≡ has_bare (own_of ms [])
alone_is_bare [] = refl
alone_is_bare (m ∷ ms) = here (bytes_eq m.prefix []) (alone_is_bare ms)
  where
    here : (p : Bool) → list_any has_no_context ms ≡ has_bare (own_of ms [])
        → ((p && bytes_eq m.suffix []) || list_any has_no_context ms) ≡ has_bare (if p then m ∷ own_of ms [] else own_of ms [])
    here true e = ap (λ b. bytes_eq m.suffix [] || b) e
    here false e = e

bare_is_found : (ms : List SymbolicMapping) → has_bare ms ≡ true → is_some (mapping_with ms []) ≡ true
bare_is_found [] h = h
bare_is_found (m ∷ ms) h = here (bytes_eq m.suffix []) (λ k. bare_is_found ms k) h
  where
    here : (b : Bool) → (has_bare ms ≡ true → is_some (mapping_with ms []) ≡ true) → (b || has_bare ms) ≡ true
        → is_some (if b then Some m else mapping_with ms []) ≡ true
    here true more h = refl
    here false more h = more h

-- where one is of the character alone, one counts before nothing
pub found_alone : (ms : List SymbolicMapping) (before : List ℕ) → HasMappingAlone ms
    → is_some (mapping_with (mappings_behind ms (beginnings before)) []) ≡ true
found_alone ms before h =
    bare_is_found (mappings_behind ms (beginnings before)) (bare_everywhere ms before (sym (alone_is_bare ms) ∙ h))

-- ---- an entry behind a prefix

standing_context : (k : EntryKind) → IsStanding k → (x y : Context) → (elim k as (λ _. Context) [ Contraction ↦ x | _ ↦ y ]) ≡ y
standing_context Contraction h x y = absurd h
standing_context _ h x y = refl

standing_other : (k : EntryKind) → IsStanding k → (x y : ℕ) → (elim k as (λ _. ℕ) [ Prefix ↦ x | _ ↦ y ]) ≡ y
standing_other Prefix h x y = absurd h
standing_other _ h x y = refl

fallback_stands_not : IsStanding (kind_of fallback_entry) → ⊥
unfolding kind_of
fallback_stands_not h = h

fallback_no_prefix : kind_of fallback_entry ≡ Prefix → ⊥
unfolding kind_of
fallback_no_prefix h = cc

fallback_no_contraction : kind_of fallback_entry ≡ Contraction → ⊥
unfolding kind_of
fallback_no_contraction h = cc

abbrev lone_context : ℕ → Context
lone_context e = record { default = e; mappings = [] }

lone_suffix : (e : ℕ) (suffix : List ℕ) → entry_of_suffix (lone_context e) suffix ≡ own_entry e suffix
unfolding mapping_entry
lone_suffix e [] = refl
lone_suffix e (s ∷ suffix) = refl

in_context : (context : Context) → mapping_entry context.mappings [] ≡ None → (suffix : List ℕ)
    → entry_of_suffix context suffix ≡ entry_in context suffix
in_context context none [] = default_of_nothing context.mappings context.default none
in_context context none (s ∷ suffix) = longer_than_default context.mappings context.default (s ∷ suffix) refl

module _ (t : TailoringNumbers) (d : Data) (c : ℕ) where
  -- an entry that stands for a mapping before nothing
  stands_alone : (e : ℕ) (m : Option SymbolicMapping) (o : Option ℕ) → StandsFor t d c [] m o → is_some m ≡ true → o ≡ Some e
      → IsStanding (kind_of e)
  stands_alone e None o h some is = let no : false ≡ true = some in cc
  stands_alone e (Some m) None h some is = absurd h
  stands_alone e (Some m) (Some f) h some is =
      let same : f ≡ e = cc in
      subst (λ x. IsStanding (kind_of x)) same (entry_stands t d c m f h)

  same_elements : (suffix : List ℕ) (m : Option SymbolicMapping) (o : Option ℕ) → (suffix ≡ [] → is_some m ≡ true)
      → StandsFor t d c suffix m o → HaveSameElements (numbered_element t) d c o m
  same_elements suffix None None alone h = tt
  same_elements suffix None (Some e) alone h = let no : false ≡ true = alone h in cc
  same_elements suffix (Some m) None alone h = absurd h
  same_elements suffix (Some m) (Some e) alone h = entry_weighted t d c m e h

  module _ (counting : List SymbolicMapping) (b : ℕ) (some : is_some (mapping_with counting []) ≡ true) (s : StandsForMappings t d c counting b) where
    -- its kind, where it names no context
    pub own_stands : ((chars : List ℕ) → own_entry b chars ≡ s.found chars) → IsStanding (kind_of b)
    own_stands own = stands_alone b (mapping_with counting []) (s.found []) (s.stands []) some (sym (own []))

    comes_to_found : HasDistinctMappings d → LeadsJust Contraction d b s.found → (suffix : List ℕ)
        → entry_of_suffix (context_behind_prefix d b) suffix ≡ s.found suffix
    unfolding context_behind_prefix
    comes_to_found distinct (inl r) suffix =
        ap (λ (k : EntryKind). entry_of_suffix (elim k as (λ _. Context) [ Contraction ↦ context_of (homed d b) | _ ↦ lone_context b ]) suffix) r.kind_is
        ∙ in_context (context_of (homed d b)) (distinct.some _) suffix
        ∙ r.entries suffix
    comes_to_found distinct (inr own) suffix =
        ap (λ (x : Context). entry_of_suffix x suffix) (standing_context (kind_of b) (own_stands own) (context_of (homed d b)) (lone_context b))
        ∙ lone_suffix b suffix ∙ own suffix

    at_nothing : (suffix : List ℕ) → suffix ≡ [] → is_some (mapping_with counting suffix) ≡ true
    at_nothing suffix none = ap (λ x. is_some (mapping_with counting x)) none ∙ some

    pub said_behind : HasDistinctMappings d → (suffix : List ℕ)
        → HaveSameElements (numbered_element t) d c (entry_of_suffix (context_behind_prefix d b) suffix) (mapping_with counting suffix)
    said_behind distinct suffix =
        subst (λ o. HaveSameElements (numbered_element t) d c o (mapping_with counting suffix)) (sym (comes_to_found distinct s.leads suffix))
        (same_elements suffix (mapping_with counting suffix) (s.found suffix) (at_nothing suffix) (s.stands suffix))

  -- ---- an entry of a character

  module _ (mappings : List SymbolicMapping) (e : ℕ) (alone : HasMappingAlone mappings) (g : GivesMappings t d c mappings e) where
    kind_other : ((chars : List ℕ) → own_entry e chars ≡ g.behind chars) → (x y : ℕ)
        → (elim (kind_of e) as (λ _. ℕ) [ Prefix ↦ x | _ ↦ y ]) ≡ y
    kind_other own x y =
        let s = g.suffixes [] e (sym (own [])) in
        by_leads s s.leads
      where
        by_leads : (s : StandsForMappings t d c (mappings_behind mappings (beginnings [])) e) → LeadsJust Contraction d e s.found
            → (elim (kind_of e) as (λ _. ℕ) [ Prefix ↦ x | _ ↦ y ]) ≡ y
        by_leads s (inl r) = ap (λ (l : EntryKind). elim l as (λ _. ℕ) [ Prefix ↦ x | _ ↦ y ]) r.kind_is
        by_leads s (inr other) =
            standing_other (kind_of e) (own_stands (mappings_behind mappings (beginnings [])) e (found_alone mappings [] alone) s other) x y

    comes_to : HasDistinctMappings d → (before : List ℕ) → LeadsJust Prefix d e g.behind
        → ComesTo mappings g.behind before (after_prefix (homed d e) before)
    comes_to distinct before (inl r) = comes_to_prefix mappings g.behind g.prefixes d e before distinct r
    comes_to distinct before (inr own) = comes_to_itself mappings g.behind g.prefixes d e before (kind_other own) own

    pub given_said : HasDistinctMappings d → SaysMappings (numbered_element t) d c e mappings
    given_said distinct before suffix =
        let b = after_prefix (homed d e) before in
        let at = comes_to distinct before g.prefix in
        let nearest = take at.count before in
        let counting = mappings_behind mappings (beginnings nearest) in
        subst (λ (ms : List SymbolicMapping). HaveSameElements (numbered_element t) d c (entry_of_suffix (context_behind_prefix d b) suffix) (mapping_with ms suffix))
        (sym (behind_kept mappings before at.count at.fits at.further))
        (said_behind counting b (found_alone mappings nearest alone) (g.suffixes nearest b at.is) distinct suffix)

    refers : (l : EntryKind) → e ≡ fallback_entry → kind_of e ≡ l → kind_of fallback_entry ≡ l
    refers l is h = ap kind_of (sym is) ∙ h

    by_suffixes : e ≡ fallback_entry → (s : StandsForMappings t d c (mappings_behind mappings (beginnings [])) e) → LeadsJust Contraction d e s.found → ⊥
    by_suffixes is s (inl r) = fallback_no_contraction (refers Contraction is r.kind_is)
    by_suffixes is s (inr own) =
        fallback_stands_not (subst (λ x. IsStanding (kind_of x)) is
        (own_stands (mappings_behind mappings (beginnings [])) e (found_alone mappings [] alone) s own))

    by_prefix : e ≡ fallback_entry → LeadsJust Prefix d e g.behind → ⊥
    by_prefix is (inl r) = fallback_no_prefix (refers Prefix is r.kind_is)
    by_prefix is (inr own) = let s = g.suffixes [] e (sym (own [])) in by_suffixes is s s.leads

    -- it is no fallback to the root
    pub no_fallback : e ≡ fallback_entry → ⊥
    no_fallback is = by_prefix is g.prefix

pub given_are_said : GivenMappingsAreSaid
given_are_said t d c mappings e ascending alone g = given_said t d c mappings e alone g (ascending_are_distinct d ascending)
