-- Entries for implicit weights that are reachable, and primary weights that begin an implicit weight.
use Rattle.std.proofs.Common.{◌≡◌, ◌≢◌, ℕ, ◌-◌, ◌<◌, ◌≤◌, Bool, true, false, ◌||◌, ◌==◌, List, [], ◌∷◌, fold, Some, IsTrue, slice_index, if◌then◌else◌, refl, sym, ap, ◌∙◌, subst, arith, option_map, inl, inr}
use Rattle.std.specs.Char.{IsScalar}
use Rattle.std.specs.List.{Contains, list_any}
use Rattle.std.proofs.lemmas.Bool.Decides.{nat_tests}
use Rattle.std.proofs.lemmas.Bool.{cases_Bool}
use Rattle.std.proofs.lemmas.List.Elements.{Contains-append_right}
use Rattle.icu_order_levels.specs.ListOrder.{IsBeginning}
use Rattle.icu_table_entries.specs.declared.error.DataTable.{DataTable}
use Rattle.icu_table_entries.specs.declared.error.DataTable.TheVariants.{Root, Jamo, SpecialPrimaries, Metadata, Tailoring, Reordering, Diacritics}
use Rattle.icu_table_entries.specs.declared.entry.EntryKind.{EntryKind}
use Rattle.icu_table_entries.specs.declared.entry.EntryKind.TheVariants.{Simple, Fallback, LongPrimary, LongSecondary, Expansion32, Expansion, Prefix, Contraction, Digit, Offset, Implicit, Reserved}
use Rattle.icu_table_entries.specs.Elements.{of_primary}
use Rattle.icu_table_entries.specs.Entries.{kind_of}
use Rattle.icu_table_entries.specs.Weights.{implicit_weight}
use Rattle.icu_table_data.specs.declared.data.CollationData.{CollationData}
use Rattle.icu_table_data.specs.Reachable.{reachable_from}
use Rattle.icu_table_data.specs.StoredData.{data_of}
use Rattle.icu_table_provider.specs.Reorderings.{lead_byte}
use Rattle.icu_table_provider.specs.StoredTables.{jamo_of}
use Rattle.icu_table_provider.specs.Tables.{Tables, is_jamo}
use Rattle.icu_table_provider.specs.declared.well_formed.condition.Condition.TheVariants as conditions
use Rattle.icu_table_provider.specs.declared.well_formed.condition.PairCondition.TheVariants as of_pair
use Rattle.icu_table_check.specs.declared.check.implicit_overlaps.ImplicitClash.{ImplicitClash}
use Rattle.icu_table_provider.specs.declared.table_set.TableSet.{TableSet}
use Rattle.icu_table_check.specs.declared.check.weights.ComparedLevel.TheVariants.{Primary}
use Rattle.icu_table_check.specs.declared.check.weights.WeightList.TheVariants.{Primaries}
use Rattle.icu_table_provider.specs.CollatorTables.{CollatorTables}
use Rattle.icu_table_provider.specs.TableSets.{tables_in}
use Rattle.icu_table_provider.specs.well_formed.WellFormedTables.{MeetsBy, IsOverlapTable}
use Rattle.icu_table_provider.specs.well_formed.ReachableElements.{IsElementBy, IsOfEntryBy}
use Rattle.icu_table_check.specs.inner.ComparedLevels.{bytes_at}
use Rattle.icu_table_check.specs.inner.ComparedWeights.{IsWeightBy}
use Rattle.icu_table_check.specs.inner.ImplicitOverlaps.{is_for_implicit, IsImplicitBy, IsImplicitClash}
use Rattle.icu_table_check.proofs.ImplicitLemmas.{implicit_bytes}
use Rattle.icu_table_check.proofs.ComparedLevelLemmas.{element_by, implicit_elements, primary_weighs}
use Rattle.icu_table_check.proofs.LevelRefutes.{refute_elements}

-- ---- a search

or_false : (b : Bool) → b ≡ (b || false)
or_false true = refl
or_false false = refl

or_assoc : (a b c : Bool) → ((a || b) || c) ≡ (a || (b || c))
or_assoc true b c = refl
or_assoc false b c = refl

any_after : (b : Bool) (es : List ℕ) → fold (λ found e. found || is_for_implicit e) b es ≡ (b || list_any is_for_implicit es)
any_after b [] = or_false b
any_after b (e ∷ es) = any_after (b || is_for_implicit e) es ∙ or_assoc b (is_for_implicit e) (list_any is_for_implicit es)

-- what a search that began with nothing has found
pub found_any : (es : List ℕ) → fold (λ found e. found || is_for_implicit e) false es ≡ list_any is_for_implicit es
found_any es = any_after false es

implicit_kind : (k : EntryKind) → (elim k as (λ _. Bool) [ Implicit ↦ true | _ ↦ false ]) ≡ true → k ≡ Implicit
implicit_kind Simple h = cc
implicit_kind Fallback h = cc
implicit_kind LongPrimary h = cc
implicit_kind LongSecondary h = cc
implicit_kind Expansion32 h = cc
implicit_kind Expansion h = cc
implicit_kind Prefix h = cc
implicit_kind Contraction h = cc
implicit_kind Digit h = cc
implicit_kind Offset h = cc
implicit_kind Implicit h = refl
implicit_kind Reserved h = cc

is_implicit : (e : ℕ) → is_for_implicit e ≡ true → kind_of e ≡ Implicit
unfolding is_for_implicit
is_implicit e h = implicit_kind (kind_of e) h

-- an entry for an implicit weight among these
record HasImplicit (es : List ℕ) : Type 0 where
  pub e : ℕ
  pub reachable : Contains es e
  pub is : kind_of e ≡ Implicit

otherwise : (b c : Bool) → b ≡ false → (b || c) ≡ true → c ≡ true
otherwise false c f h = h
otherwise true c f h = cc

has_implicit : (es : List ℕ) → list_any is_for_implicit es ≡ true → HasImplicit es
has_implicit [] h = cc
has_implicit (e ∷ es) h =
    elim (cases_Bool (is_for_implicit e)) [
      | inl is ↦ record { e = e; reachable = (0, omega arith, refl); is = is_implicit e is }
      | inr not ↦
          let rest = has_implicit es (otherwise (is_for_implicit e) (list_any is_for_implicit es) not h) in
          record { e = rest.e; reachable = Contains-append_right (e ∷ []) es rest.e rest.reachable; is = rest.is }
    ]

-- ---- table by table

module _ (s : TableSet) (c e : ℕ) where
  pub loaded_root : IsScalar c → e ≡ (data_of s.root).value c → list_any is_for_implicit (reachable_from (data_of s.root) e) ≡ true → IsImplicitBy Root (tables_in s).tables c
  unfolding tables_in
  loaded_root scalar is h =
      let found = has_implicit (reachable_from (data_of s.root) e) h in
      record {
        home = data_of s.root;
        entry = found.e;
        reachable = (refl, scalar, subst (λ e. Contains (reachable_from (data_of s.root) e) found.e) is found.reachable);
        is = found.is;
      }

  in_range : 0x1100 ≤ c → c < 0x1200 → IsTrue (is_jamo c)
  in_range low high = grind (arith, nat_tests)

  pub loaded_jamo : 0x1100 ≤ c → c < 0x1200 → e ≡ slice_index (jamo_of s.jamo) (c - 0x1100) → list_any is_for_implicit (reachable_from (data_of s.root) e) ≡ true → IsImplicitBy Jamo (tables_in s).tables c
  unfolding tables_in
  loaded_jamo low high is h =
      let found = has_implicit (reachable_from (data_of s.root) e) h in
      record {
        home = data_of s.root;
        entry = found.e;
        reachable = (refl, in_range low high, subst (λ e. Contains (reachable_from (data_of s.root) e) found.e) is found.reachable);
        is = found.is;
      }

  not_fallback : (b : Bool) (es : List ℕ) (x : ℕ) → b ≡ false → Contains es x → Contains (if b then [] else es) x
  not_fallback false es x h has = has
  not_fallback true es x h has = cc

  pub loaded_tailoring : (t : CollationData) → s.tailoring ≡ Some t → IsScalar c → e ≡ (data_of t).value c → (e == 0xC0) ≡ false → list_any is_for_implicit (reachable_from (data_of t) e) ≡ true
      → IsImplicitBy Tailoring (tables_in s).tables c
  unfolding tables_in
  loaded_tailoring t found scalar is other h =
      let has = has_implicit (reachable_from (data_of t) e) h in
      record {
        home = data_of t;
        entry = has.e;
        reachable = (
          ap (λ o. option_map data_of o) found,
          scalar,
          subst (λ e. Contains (if e == 0xC0 then [] else reachable_from (data_of t) e) has.e) is (not_fallback (e == 0xC0) (reachable_from (data_of t) e) has.e other has.reachable),
        );
        is = has.is;
      }

-- ---- clashes

of_entry : (table : DataTable) (tables : Tables) (c : ℕ) → (is : IsImplicitBy table tables c) → IsOfEntryBy table tables (of_primary (implicit_weight c))
of_entry table tables c is = record {
  home = is.home;
  char = c;
  entry = is.entry;
  reachable = is.reachable;
  member = subst (λ xs. Contains xs (of_primary (implicit_weight c))) (sym (implicit_elements is.home c is.entry is.is)) (0, omega arith, refl);
}

-- the element of a reachable implicit weight
implicit_element : (table : DataTable) (tables : Tables) (c : ℕ) → (is : IsImplicitBy table tables c) → IsElementBy table tables (of_primary (implicit_weight c))
implicit_element Root tables c is = of_entry Root tables c is
implicit_element Jamo tables c is = of_entry Jamo tables c is
implicit_element Tailoring tables c is = of_entry Tailoring tables c is
implicit_element SpecialPrimaries tables c is = absurd is.reachable
implicit_element Metadata tables c is = absurd is.reachable
implicit_element Reordering tables c is = absurd is.reachable
implicit_element Diacritics tables c is = absurd is.reachable

some_lead : (p : ℕ) → lead_byte p ≡ 0xFE → p ≢ 0
some_lead p lead h = omega (arith, lead, h)

pub refute_implicit : (all : CollatorTables) (clash : ImplicitClash) → IsImplicitClash all clash → (own : DataTable) → IsWeightBy Primaries own all.tables clash.primary
    → (table : DataTable) → IsOverlapTable own clash.table clash.primary clash.implicit table → MeetsBy (conditions.Pair of_pair.Primaries) table all → ⊥
refute_implicit all clash is own a table named meets =
    let p = primary_weighs a.x clash.primary a.weighs in
    let w : ℕ = implicit_weight is.char in
    refute_elements all own clash.table a.x (of_primary w) (element_by all.tables own a.x a.read) (implicit_element clash.table all.tables is.char is.reachable)
    p.0 (some_lead w (implicit_bytes is.char).lead) (λ same. is.different (sym p.1 ∙ same ∙ sym is.is))
    (subst (λ v. IsBeginning (bytes_at Primary all v) (bytes_at Primary all w)) (sym p.1) (subst (λ v. IsBeginning (bytes_at Primary all clash.primary) (bytes_at Primary all v)) is.is is.begins))
    table (subst (λ v. IsOverlapTable own clash.table v w table) (sym p.1) (subst (λ v. IsOverlapTable own clash.table clash.primary v table) is.is named)) meets
