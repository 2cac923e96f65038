-- A root that says what the small root says meets the conditions of a root, however it is stored.
use Rattle.std.proofs.Common.{◌≡◌, ℕ, ◌<◌, true, false, Bool, List, [], ◌∷◌, map, refl, sym, subst, arith, IsTrue, if◌then◌else◌}
use Rattle.std.specs.Prelude.{All}
use Rattle.std.specs.List.{Contains}
use Rattle.std.proofs.lemmas.List.Elements.{All-nil, All-cons, All-head, All-tail}
use Rattle.icu_table_entries.specs.declared.error.DataTable.TheVariants as tables
use Rattle.icu_table_data.specs.declared.context.Context.{Context as StoredContext}
use Rattle.icu_table_data.specs.declared.context.ContextMapping.{ContextMapping}
use Rattle.icu_table_data.specs.declared.reachable_condition.ReachableCondition.{ReachableCondition}
use Rattle.icu_table_data.specs.CodePointTables.{IsCodePointTable, code_point_count}
use Rattle.icu_table_data.specs.Contexts.{HasRangesInside, has_ascending_mappings, stored_context, stored_contexts}
use Rattle.icu_table_data.specs.Data.{Context, Data}
use Rattle.icu_table_data.specs.Reachable.{reachable_at}
use Rattle.icu_table_data.specs.ReachableConditions.{meets, EachMeets, IsWellFormedData}
use Rattle.icu_table_provider.specs.declared.builder.data_vectors.DataVectors.{DataVectors}
use Rattle.icu_table_provider.specs.builder.Building.{SaysOfCharacters}
use Rattle.icu_table_provider.specs.builder.OwnedData.{vectors_data, MayBeData}
use Rattle.icu_table_data.proofs.ListLemmas.{all_members, weaker}
use Rattle.icu_table_check.specs.small_tables.SmallTables.{context_of_a, small_entry, small_root}
use Rattle.icu_table_check.proofs.small_tables.SmallEntries.{root_by, entry_is_well_formed}
use Rattle.icu_table_check.proofs.small_tables.SmallTableLemmas.{of_replicate, mappings_ascend, root_is}

-- ---- the conditions on entries

no_more : {X : Type 0} (b : Bool) (xs : List X) (x : X) → Contains (if b then [] else xs) x → Contains xs x
no_more true xs x h = let few = h.1 in absurd (omega arith)
no_more false xs x h = h

each_meets : (value : ℕ → ℕ) → ((c : ℕ) → c < code_point_count → value c ≡ small_entry c) → (condition : ReachableCondition) → EachMeets condition true (root_by value)
each_meets value says condition c scalar =
    let reachable = reachable_at true (root_by value) c in
    weaker (Contains reachable) (λ e. IsTrue (meets condition (root_by value) c e))
    (λ e member. entry_is_well_formed value says condition tables.Root (root_by value) c e (refl, scalar, no_more _ _ e member))
    reachable (all_members reachable)

well_formed_data : (value : ℕ → ℕ) → ((c : ℕ) → c < code_point_count → value c ≡ small_entry c) → IsWellFormedData true (root_by value)
well_formed_data value says = record { each = each_meets value says }

well_formed_root : (d : Data) → SaysOfCharacters small_root d → IsWellFormedData true d
well_formed_root d says =
    subst (λ x. IsWellFormedData true x) (root_is d.value d.elements d.entries d.contexts says.elements says.entries says.contexts)
    (well_formed_data d.value says.value)

-- ---- the conditions on lists

-- what holds of what a function makes of each member
of_mapped : {X Y : Type 0} (P : Y → Type 0) (f : X → Y) (xs : List X) → All P (map f xs) → All (λ x. P (f x)) xs
of_mapped P f [] all = All-nil (λ x. P (f x))
of_mapped P f (x ∷ xs) all =
    All-cons (λ y. P (f y)) x xs (All-head P (f x) (map f xs) all) (of_mapped P f xs (All-tail P (f x) (map f xs) all))

ascending : (contexts : List StoredContext) (mappings : List ContextMapping) (chars : List ℕ)
    → stored_contexts contexts mappings chars ≡ context_of_a ∷ [] → All (λ x. IsTrue (has_ascending_mappings (stored_context mappings chars x))) contexts
ascending contexts mappings chars is =
    let P : Context → Type 0 = λ x. IsTrue (has_ascending_mappings x) in
    of_mapped P (stored_context mappings chars) contexts (subst (All P) (sym is) (of_replicate P 1 context_of_a mappings_ascend))

-- lists that are a table, and that say what the small root says, are accepted
pub may_be_data : (v : DataVectors) → SaysOfCharacters small_root (vectors_data v) → IsCodePointTable v.blocks.items v.values.items
    → HasRangesInside v.contexts.items v.mappings.items v.chars.items → MayBeData v
unfolding vectors_data
may_be_data v says table ranges = record {
  table = table;
  contexts = record { inside = ranges; ascending = ascending v.contexts.items v.mappings.items v.chars.items says.contexts };
  reachable = well_formed_root (vectors_data v) says;
}
