-- How a builder's entries change.
use Rattle.std.proofs.Common.{◌≡◌, ℕ, ◌<◌, ◌≤◌, ◌&&◌, nat_le, List, [], get_or, map, inl, inr}
use Rattle.std.proofs.lemmas.Bool.{and_parts, and_cases, cond_both, leb-true, leb-false}
use Rattle.icu_table_entries.specs.Elements.{element_of}
use Rattle.icu_table_data.specs.declared.context.Context.{Context as StoredContext}
use Rattle.icu_table_data.specs.declared.context.ContextMapping.{ContextMapping}
use Rattle.icu_table_data.specs.Contexts.{stored_contexts}
use Rattle.icu_table_data.specs.Data.{Data}
use Rattle.icu_table_provider.specs.builder.Building.{empty_data, with_entries}

-- nothing but one entry was put in
pub new_data : (others : ℕ) (entries : List ℕ) (ces ce32s : List ℕ) (contexts : List StoredContext) (mappings : List ContextMapping) (chars : List ℕ)
    → ((k : ℕ) → get_or entries k others ≡ others) → ces ≡ [] → ce32s ≡ [] → contexts ≡ []
    → ◌≡◌ {A = Data} (record { value = λ k. get_or entries k others; elements = map element_of ces; entries = ce32s; contexts = stored_contexts contexts mappings chars }) (empty_data others)
new_data others entries ces ce32s contexts mappings chars all no_ces no_ce32s no_contexts = λ i. record {
  value = λ k. all k i;
  elements = map element_of (no_ces i);
  entries = no_ce32s i;
  contexts = stored_contexts (no_contexts i) mappings chars;
}

value_at : (old now : List ℕ) (others first last entry : ℕ)
    → ((k d : ℕ) → first ≤ k → k ≤ last → get_or now k d ≡ entry) → ((k d : ℕ) → k < first → get_or now k d ≡ get_or old k d)
    → ((k d : ℕ) → last < k → get_or now k d ≡ get_or old k d)
    → (k : ℕ) → get_or now k others ≡ with_entries first last entry (λ c. get_or old c others) k
value_at old now others first last entry inside below above k =
    cond_both (nat_le first k && nat_le k last) entry (get_or old k others) (λ x. get_or now k others ≡ x)
    (λ yes. let both = and_parts (nat_le first k) (nat_le k last) yes in inside k others (leb-true first k both.0) (leb-true k last both.1))
    (λ no. elim (and_cases (nat_le first k) (nat_le k last) no) [ inl low ↦ below k others (leb-false first k low) | inr high ↦ above k others (leb-false k last high) ])

-- the entries from first to last are set
pub set_data : (d : Data) (old now : List ℕ) (others first last entry : ℕ)
    → ((k d : ℕ) → first ≤ k → k ≤ last → get_or now k d ≡ entry) → ((k d : ℕ) → k < first → get_or now k d ≡ get_or old k d)
    → ((k d : ℕ) → last < k → get_or now k d ≡ get_or old k d)
    → ◌≡◌ {A = Data} (record { value = λ k. get_or now k others; elements = d.elements; entries = d.entries; contexts = d.contexts })
    (record { value = with_entries first last entry (λ c. get_or old c others); elements = d.elements; entries = d.entries; contexts = d.contexts })
set_data d old now others first last entry inside below above = λ i. record {
  value = λ k. value_at old now others first last entry inside below above k i;
  elements = d.elements;
  entries = d.entries;
  contexts = d.contexts;
}
