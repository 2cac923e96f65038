-- What each reachable element of tables meets that meet the conditions on all tables of a collator.
use Rattle.std.proofs.Common.{◌≡◌, ◌≢◌, ℕ, Bool, true, false, not, ◌&&◌, ◌||◌, ◌==◌, List, refl, sym, subst, arith, IsTrue}
use Rattle.std.specs.Prelude.{slice_index}
use Rattle.std.specs.List.{Contains, list_all}
use Rattle.std.proofs.lemmas.Bool.{and_parts}
use Rattle.std.proofs.lemmas.Bool.Decides.{nat_tests}
use Rattle.std.proofs.lemmas.List.Elements.{All-contains}
use Rattle.std.proofs.lemmas.List.Sums.{AllPass-from_list_all}
use Rattle.icu_element_matches.proofs.steady_matches.LongestLemmas.{implied}
use Rattle.icu_table_entries.specs.declared.error.DataTable.{DataTable}
use Rattle.icu_table_entries.specs.declared.error.DataTable.TheVariants.{Root, Jamo, SpecialPrimaries, Metadata, Tailoring, Reordering, Diacritics}
use Rattle.icu_table_data.specs.declared.reachable_condition.ReachableCondition.TheVariants.{Shapes, Leads, Primaries}
use Rattle.icu_table_entries.specs.Elements.{Element, of_secondary}
use Rattle.icu_table_entries.specs.ElementConditions.{has_shape, has_leads, has_primary_lead}
use Rattle.icu_table_provider.specs.Diacritics.{is_replaced_index, is_diacritic_weight}
use Rattle.icu_table_data.specs.Data.{homed}
use Rattle.icu_table_data.specs.Final.{final_elements}
use Rattle.icu_table_provider.specs.declared.well_formed.condition.Condition.TheVariants as conditions
use Rattle.icu_table_provider.specs.CollatorTables.{CollatorTables}
use Rattle.icu_table_provider.specs.well_formed.ReachableElements.{IsOfEntryBy, IsOfReachableDiacritic, IsElementBy}
use Rattle.icu_table_provider.specs.well_formed.WellFormedTables.{IsWellFormedTables}

-- ---- tests

pub other_part : (a b : Bool) → (a || b) ≡ true → a ≡ false → b ≡ true
other_part true b h e = cc
other_part false b h e = h

pub where_some : (n : ℕ) (b : Bool) → (n == 0 || b) ≡ true → n ≢ 0 → b ≡ true
where_some n b h some = other_part (n == 0) b h (grind (arith, nat_tests))

member_passes : (p : Element → Bool) (xs : List Element) (x : Element) → IsTrue (list_all p xs) → Contains xs x → p x ≡ true
member_passes p xs x passes is = All-contains (λ x. p x ≡ true) xs x (AllPass-from_list_all p xs passes) is

diacritic-passes : (s : ℕ) → is_diacritic_weight true s ≡ true → (has_shape (of_secondary s) ≡ true) × (has_leads true (of_secondary s) ≡ true)
unfolding is_diacritic_weight
diacritic-passes s h =
    let parts = and_parts (not (s == 0) && has_shape (of_secondary s)) (has_leads true (of_secondary s)) h in
    ((and_parts (not (s == 0)) (has_shape (of_secondary s)) parts.0).1, parts.1)

diacritic-primary : (s : ℕ) → has_primary_lead (of_secondary s) ≡ true
unfolding has_primary_lead
diacritic-primary s = refl

-- ---- reachable elements

-- what the elements of entries meet, and those of diacritics, all do
by_source : (P : Element → Type 0) (all : CollatorTables)
    → ((table : DataTable) (x : Element) → IsOfEntryBy table all.tables x → P x)
    → ((x : Element) → IsOfReachableDiacritic all.tables.diacritics x → P x)
    → (table : DataTable) (x : Element) → IsElementBy table all.tables x → P x
by_source P all entries diacritics Root x reachable = entries Root x reachable
by_source P all entries diacritics Jamo x reachable = entries Jamo x reachable
by_source P all entries diacritics SpecialPrimaries x reachable = entries SpecialPrimaries x reachable
by_source P all entries diacritics Metadata x reachable = entries Metadata x reachable
by_source P all entries diacritics Tailoring x reachable = entries Tailoring x reachable
by_source P all entries diacritics Reordering x reachable = entries Reordering x reachable
by_source P all entries diacritics Diacritics x reachable = diacritics x reachable

module _ (all : CollatorTables) (well_formed : IsWellFormedTables all) where
  diacritic : (x : Element) → IsOfReachableDiacritic all.tables.diacritics x → (has_shape x ≡ true) × (has_leads true x ≡ true)
  diacritic x is =
      let s = slice_index all.tables.diacritics is.place in
      let is_one : is_diacritic_weight true s ≡ true = other_part (is_replaced_index is.place) (is_diacritic_weight true s) (well_formed.tables.diacritics.weights is.place is.inside) is.kept in
      subst (λ x. (has_shape x ≡ true) × (has_leads true x ≡ true)) (sym is.is) (diacritic-passes s is_one)

  pub reachable-shape : (table : DataTable) (x : Element) → IsElementBy table all.tables x → has_shape x ≡ true
  reachable-shape =
      by_source (λ x. has_shape x ≡ true) all
      (λ table x is. member_passes has_shape (final_elements (homed is.home is.entry) is.char) x
      (well_formed.each (conditions.Entry Shapes) table is.home is.char is.entry is.reachable) is.member)
      (λ x is. (diacritic x is).0)

  pub reachable-leads : (table : DataTable) (x : Element) → IsElementBy table all.tables x → has_leads true x ≡ true
  reachable-leads =
      by_source (λ x. has_leads true x ≡ true) all
      (λ table x is. member_passes (has_leads true) (final_elements (homed is.home is.entry) is.char) x
      (well_formed.each (conditions.Entry Leads) table is.home is.char is.entry is.reachable) is.member)
      (λ x is. (diacritic x is).1)

  pub reachable-primary_lead : (table : DataTable) (x : Element) → IsElementBy table all.tables x → has_primary_lead x ≡ true
  reachable-primary_lead =
      by_source (λ x. has_primary_lead x ≡ true) all
      (λ table x is. member_passes has_primary_lead (final_elements (homed is.home is.entry) is.char) x
      (well_formed.each (conditions.Entry Primaries) table is.home is.char is.entry is.reachable) is.member)
      (λ x is. subst (λ x. has_primary_lead x ≡ true) (sym is.is) (diacritic-primary (slice_index all.tables.diacritics is.place)))
