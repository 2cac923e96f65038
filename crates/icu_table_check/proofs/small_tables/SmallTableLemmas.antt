-- The small tables meet all conditions.
use Rattle.std.proofs.Common.{◌≡◌, ◌<◌, ◌||◌, ℕ, true, List, [], ◌∷◌, replicate, slice_index, refl, sym, subst, arith, IsTrue}
use Rattle.std.proofs.lemmas.Bool.Decides.{nat_tests}
use Rattle.std.proofs.lemmas.List.{get_or-replicate, length-replicate}
use Rattle.std.specs.Prelude.{All}
use Rattle.icu_table_entries.specs.EntryConditions.{has_digit, has_known_byte}
use Rattle.icu_table_entries.specs.ElementConditions.{has_shape, ends_at_zero, has_secondary_lead, has_tertiary_lead}
use Rattle.icu_table_entries.specs.Elements.{Element}
use Rattle.icu_table_entries.specs.Entries.{kind_of}
use Rattle.icu_table_entries.specs.EncodedEntries.{implicit_entry}
use Rattle.icu_table_data.specs.CodePointTables.{code_point_count}
use Rattle.icu_table_data.specs.Contexts.{ascend_from, has_ascending_mappings}
use Rattle.icu_table_data.specs.Data.{Context, Data}
use Rattle.icu_table_provider.specs.CollatorTables.{CollatorTables}
use Rattle.icu_table_provider.specs.Diacritics.{is_diacritic_weight, is_replaced_index}
use Rattle.icu_table_provider.specs.SpecialPrimaries.{ends_below, is_numeric_lead}
use Rattle.icu_table_provider.specs.declared.well_formed.condition.Condition.{Condition}
use Rattle.icu_table_provider.specs.declared.well_formed.condition.Condition.TheVariants as conditions
use Rattle.icu_table_provider.specs.well_formed.WellFormedTables.{Meets, AreTables, IsWellFormedTables}
use Rattle.icu_table_check.specs.small_tables.SmallTables.{context_of_a, grave, small_entry, with_root, small_tables, AreSmallTables, IsLowLead}
use Rattle.icu_table_check.proofs.small_tables.SmallElements.{lead_meets, element_is_well_formed, pair_is_well_formed}
use Rattle.icu_table_check.proofs.small_tables.SmallEntries.{root_by, entry_is_well_formed, mappings_are_plain, reachable_element}

-- ---- what each table shows by itself

pub of_replicate : {X : Type 0} (P : X → Type 0) (n : ℕ) (x : X) → P x → All P (replicate n x)
of_replicate P n x h =
    λ k d few. subst P (sym (get_or-replicate n k x d (subst (λ m. k < m) (length-replicate n x) few))) h

pub mappings_ascend : IsTrue (has_ascending_mappings context_of_a)
unfolding ascend_from
mappings_ascend = refl

implicit_digit : IsTrue (has_digit implicit_entry)
unfolding has_digit kind_of
implicit_digit = refl

implicit_known : IsTrue (has_known_byte implicit_entry)
unfolding has_known_byte kind_of
implicit_known = refl

grave_weighs : IsTrue (is_replaced_index 0 || is_diacritic_weight true grave)
unfolding is_diacritic_weight has_shape ends_at_zero has_secondary_lead has_tertiary_lead
grave_weighs = refl

grave_alone : (i : ℕ) → i < 1 → IsTrue (is_replaced_index i || is_diacritic_weight true (slice_index (grave ∷ []) i))
grave_alone i few =
    let first : 0 ≡ i = omega arith in
    subst (λ n. IsTrue (is_replaced_index n || is_diacritic_weight true (slice_index (grave ∷ []) n))) first grave_weighs

module _ (n : ℕ) (low : IsLowLead n) where
  numeric_lead : IsTrue (is_numeric_lead n)
  numeric_lead = let least = low.low in let most = low.high in grind (arith, nat_tests, least, most)

  one_below : IsTrue (ends_below n 1)
  one_below = let least = low.low in grind (arith, nat_tests, least)

  pub tables_are : (value : ℕ → ℕ) → AreTables (with_root n (root_by value))
  tables_are value = record {
    root = of_replicate (λ (x : Context). IsTrue (has_ascending_mappings x)) 1 context_of_a mappings_ascend;
    tailoring = λ x is. cc;
    jamo = record {
      count = refl;
      digits = of_replicate (λ e. IsTrue (has_digit e)) 256 implicit_entry implicit_digit;
      known = of_replicate (λ e. IsTrue (has_known_byte e)) 256 implicit_entry implicit_known;
    };
    diacritics = record { count = omega arith; weights = grave_alone };
    special = record {
      count = omega arith;
      group_ends = record { numeric = numeric_lead; ends = of_replicate (λ p. IsTrue (ends_below n p)) 4 1 one_below };
    };
    reordering = λ x is. cc;
  }

  -- ---- all together

  module _ (value : ℕ → ℕ) (says : (c : ℕ) → c < code_point_count → value c ≡ small_entry c) where
    each_is_well_formed : (condition : Condition) → Meets condition (with_root n (root_by value))
    each_is_well_formed conditions.DiacriticCount = refl
    each_is_well_formed (conditions.Entry condition) = entry_is_well_formed value says condition
    each_is_well_formed conditions.PrefixMappings = mappings_are_plain 1 value says
    each_is_well_formed (conditions.Element condition) =
        λ table x is. element_is_well_formed n low (root_by value) condition x (reachable_element value says table x is)
    each_is_well_formed (conditions.Pair condition) =
        λ first second x in_first y in_second. pair_is_well_formed n (root_by value) condition x y (reachable_element value says first x in_first) (reachable_element value says second y in_second)
    each_is_well_formed (conditions.Lead condition) = lead_meets n low (root_by value) condition

    pub well_formed_by : IsWellFormedTables (with_root n (root_by value))
    well_formed_by = record { tables = tables_are value; each = each_is_well_formed }

  pub small_tables_are_well_formed : IsWellFormedTables (small_tables n)
  small_tables_are_well_formed = well_formed_by small_entry (λ c few. refl)

-- a root without lists and with this context is one by the entries of its characters
pub root_is : (value : ℕ → ℕ) (elements : List Element) (entries : List ℕ) (contexts : List Context) → elements ≡ [] → entries ≡ [] → contexts ≡ context_of_a ∷ []
    → root_by value ≡ record { value = value; elements = elements; entries = entries; contexts = contexts }
root_is value elements entries contexts no_elements no_entries one = cc

pub same_tables_are_well_formed : (all : CollatorTables) → AreSmallTables all → IsWellFormedTables all
same_tables_are_well_formed all are =
    let says = are.root in let root : Data = all.tables.root in let n : ℕ = all.special.numeric in
    let is : root_by root.value ≡ root = root_is root.value root.elements root.entries root.contexts says.elements says.entries says.contexts in
    subst IsWellFormedTables (sym are.others) (subst (λ d. IsWellFormedTables (with_root n d)) is (well_formed_by n are.numeric root.value says.value))
