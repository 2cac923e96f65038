-- Tests on the mappings of a context, over mappings as they are stored.
use Rattle.std.proofs.Common.{◌≡◌, ℕ, Bool, ◌&&◌, List, [], ◌∷◌, map, refl, ap, IsTrue}
use Rattle.std.specs.Prelude.{All}
use Rattle.std.specs.List.{list_all}
use Rattle.std.proofs.lemmas.List.Elements.{All-map}
use Rattle.icu_table_data.specs.declared.context.Context.{Context as StoredContext}
use Rattle.icu_table_data.specs.declared.context.ContextMapping.{ContextMapping}
use Rattle.icu_table_data.specs.Data.{Mapping}
use Rattle.icu_table_data.specs.Contexts.{mapping_of, mappings_of, stored_context, stored_contexts, has_ascending_mappings, HasAscendingMappings}

pub all_entries : (p : ℕ → Bool) (chars : List ℕ) (mappings : List ContextMapping) → list_all p (map (λ (mapping : Mapping). mapping.entry) (mappings_of chars mappings)) ≡ list_all (λ (mapping : ContextMapping). p mapping.entry) mappings
all_entries p chars [] = refl
all_entries p chars (mapping ∷ mappings) = ap (λ b. p mapping.entry && b) (all_entries p chars mappings)

pub all_mappings : (p : Mapping → Bool) (chars : List ℕ) (mappings : List ContextMapping) → list_all p (mappings_of chars mappings) ≡ list_all (λ mapping. p (mapping_of chars mapping)) mappings
all_mappings p chars [] = refl
all_mappings p chars (mapping ∷ mappings) = ap (λ b. p (mapping_of chars mapping) && b) (all_mappings p chars mappings)

-- each context of a table has ascending mappings
pub ascending_mappings : (contexts : List StoredContext) (mappings : List ContextMapping) (chars : List ℕ) → HasAscendingMappings contexts mappings chars → All (λ x. IsTrue (has_ascending_mappings x)) (stored_contexts contexts mappings chars)
ascending_mappings contexts mappings chars ascending = All-map (λ x. IsTrue (has_ascending_mappings x)) (stored_context mappings chars) contexts ascending
