-- Mappings that ascend have characters, each others.
use Rattle.std.proofs.Common.{◌≡◌, ℕ, zero, suc, true, bytes_eq, List, [], ◌∷◌, None, refl, sym, subst, ◌∙◌, inl, inr}
use Rattle.std.specs.Prelude.{slice_index_or}
use Rattle.std.specs.List.{AllByRecursion}
use Rattle.std.proofs.lemmas.Bool.{and_parts, cases_Bool, false≢true}
use Rattle.std.proofs.lemmas.List.Elements.{recursion_from_All}
use Rattle.icu_table_data.specs.Contexts.{is_before, ascend_from}
use Rattle.icu_table_data.specs.Data.{Data, Mapping, Context, context_in, no_context, mapping_entry}
use Rattle.icu_table_provider.specs.well_formed.WellFormedTables.{HasAscendingContexts}
use Rattle.icu_element_matches.proofs.CharacterOrderLemmas.{before_trans, not_before_itself, same_lists}

-- no two mappings have the same characters
abbrev pub AreDistinct : List Mapping → Type 0
AreDistinct [] = Unit {0}
AreDistinct (m ∷ mappings) = (mapping_entry mappings m.chars ≡ None) × AreDistinct mappings

-- the mappings of each context have characters, each others
pub record HasDistinctMappings (home : Data) : Type 0 where
  pub distinct : (index : ℕ) → AreDistinct (context_in home.contexts index).mappings
  pub some : (index : ℕ) → mapping_entry (context_in home.contexts index).mappings [] ≡ None

none_from : (chars last : List ℕ) (mappings : List Mapping) → ascend_from last mappings ≡ true
    → ((other : List ℕ) → is_before last other ≡ true → is_before chars other ≡ true) → mapping_entry mappings chars ≡ None
unfolding ascend_from mapping_entry
none_from chars last [] h before = refl
none_from chars last (m ∷ mappings) h before =
    let parts = and_parts (is_before last m.chars) (ascend_from m.chars mappings) h in
    let first = before m.chars parts.0 in
    elim (cases_Bool (bytes_eq m.chars chars)) [
      | inl b ↦
          let itself : is_before chars chars ≡ true =
          subst (λ cs. is_before chars cs ≡ true) (same_lists m.chars chars b) first in
          absurd (false≢true (sym (not_before_itself chars) ∙ itself))
      | inr b ↦ rw b (none_from chars m.chars mappings parts.1 (λ other k. before_trans chars m.chars other first k))
    ]

distinct_from : (last : List ℕ) (mappings : List Mapping) → ascend_from last mappings ≡ true → AreDistinct mappings
unfolding ascend_from
distinct_from last [] h = tt
distinct_from last (m ∷ mappings) h =
    let parts = and_parts (is_before last m.chars) (ascend_from m.chars mappings) h in
    (none_from m.chars m.chars mappings parts.1 (λ other k. k), distinct_from m.chars mappings parts.1)

at_index : {X : Type 0} (P : X → Type 0) (xs : List X) (i : ℕ) (d : X) → AllByRecursion P xs → P d → P (slice_index_or xs i d)
at_index P [] i d all h = h
at_index P (x ∷ xs) zero d (a, all) h = a
at_index P (x ∷ xs) (suc i) d (a, all) h = at_index P xs i d all h

pub ascending_are_distinct : (home : Data) → HasAscendingContexts home → HasDistinctMappings home
unfolding ascend_from
ascending_are_distinct home h =
    let P : Context → Type 0 = λ x. ascend_from [] x.mappings ≡ true in
    let at : (index : ℕ) → P (context_in home.contexts index) = λ index.
    at_index P home.contexts index no_context (recursion_from_All P home.contexts h) refl in
    record {
      distinct = λ index. distinct_from [] (context_in home.contexts index).mappings (at index);
      some = λ index. none_from [] [] (context_in home.contexts index).mappings (at index) (λ other k. k);
    }
