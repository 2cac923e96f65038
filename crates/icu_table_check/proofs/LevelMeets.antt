-- Collected weights that don't clash give the conditions on the elements of all tables: on tertiary weights of elements
-- without a secondary weight, on secondary and on tertiary weights.
use Rattle.std.proofs.Common.{◌≡◌, ◌≢◌, ℕ, ◌*◌, ◌/◌, ◌^◌, ◌<◌, ◌≤◌, Bool, true, false, not, ◌==◌, ◌&&◌, ◌||◌, nat_lt, List, Some, refl, sym, ap, ◌∙◌, subst, arith, inl, inr, IsTrue}
use Rattle.std.specs.List.{Contains}
use Rattle.std.proofs.lemmas.Bool.{cases_eq, and_parts}
use Rattle.std.proofs.lemmas.Bool.Decides.{nat_tests}
use Rattle.std.proofs.lemmas.Nat.{and_le_r}
use Rattle.std.specs.Prelude.{slice_index}
use Rattle.icu_order_levels.specs.WeightBytes.{weight_bytes}
use Rattle.icu_order_levels.specs.Premises.{IsPrefixFree}
use Rattle.icu_table_entries.specs.declared.error.DataTable.{DataTable}
use Rattle.icu_table_entries.specs.declared.error.DataTable.TheVariants.{Root, Jamo, SpecialPrimaries, Metadata, Tailoring, Reordering, Diacritics}
use Rattle.icu_table_data.specs.declared.reachable_condition.ReachableCondition.TheVariants as reachable
use Rattle.icu_table_provider.specs.Diacritics.{is_replaced_index, is_diacritic_weight}
use Rattle.icu_table_entries.specs.Elements.{Element, common, of_secondary}
use Rattle.icu_table_entries.specs.ElementConditions.{tertiary_of, has_shape, has_leads, has_secondary_lead, has_tertiary_lead}
use Rattle.icu_table_data.specs.Final.{final_elements}
use Rattle.icu_table_data.specs.Data.{homed}
use Rattle.icu_table_provider.specs.declared.well_formed.condition.Condition.TheVariants as conditions
use Rattle.icu_table_provider.specs.declared.well_formed.condition.ReachableElementCondition.TheVariants as of_element
use Rattle.icu_table_provider.specs.declared.well_formed.condition.PairCondition.TheVariants as of_pair
use Rattle.icu_table_check.specs.declared.check.weights.WeightList.{WeightList}
use Rattle.icu_table_check.specs.declared.check.weights.WeightList.TheVariants.{Primaries, Secondaries, Tertiaries, TertiaryElements, WithSecondary}
use Rattle.icu_table_provider.specs.CollatorTables.{CollatorTables}
use Rattle.icu_table_provider.specs.well_formed.ReachableElements.{IsElementBy, IsOfEntryBy, IsOfReachableDiacritic}
use Rattle.icu_table_provider.specs.well_formed.ElementConditions.{is_tertiary_element, is_high_tertiary_element}
use Rattle.icu_table_check.specs.inner.EntryViolations.{MeetsIn, ReachableMeets}
use Rattle.icu_table_provider.specs.well_formed.WellFormedTables.{AreTables, Meets}
use Rattle.icu_table_check.specs.inner.PairViolations.{TertiaryElementsAreHigh}
use Rattle.icu_table_check.specs.inner.ComparedWeights.{left_aligned, compared_weight, IsWeightBy}
use Rattle.icu_table_check.proofs.CommonWeightLemmas.{HaveLeads, none_begins}
use Rattle.icu_table_weights.proofs.OverlapLemmas.{free_of_two_bytes}
use Rattle.icu_table_check.proofs.ComparedLevelLemmas.{IsExplicit, meets_in, read_by, weighs_explicit, two_bytes_kept, tertiary_element_kept, beside_kept, second_of_three, third_of_three, implied, passes}

-- ---- what is collected, and what is reachable
module _ (all : CollatorTables) where
  -- the list has each of these weights
  abbrev pub Collected : WeightList → List ℕ → Type 0
  Collected list ws = (table : DataTable) (w : ℕ) → IsWeightBy list table all.tables w → Contains ws w

  -- a weight, not zero, of an element that is reachable by some table
  pub record IsReachableWeight (weigh : Element → ℕ) (w : ℕ) : Type 0 where
    pub table : DataTable
    pub x : Element
    pub reachable : IsElementBy table all.tables x
    pub is : weigh x ≡ w
    pub some : w ≢ 0

module _ (all : CollatorTables) (met : ReachableMeets all) where
  pub collected_at : (list : WeightList) (ws : List ℕ) → Collected all list ws → (table : DataTable) (x : Element) → IsElementBy table all.tables x → IsExplicit x
      → (w : ℕ) → compared_weight list x ≡ Some w → Contains ws w
  collected_at list ws has table x is explicit w weighs = has table w (record { x = x; read = read_by all met table x is explicit; weighs = weighs })

-- ---- the weights of one element

secondaries_other : Secondaries ≡ Primaries → ⊥
secondaries_other h = cc

tertiaries_other : Tertiaries ≡ Primaries → ⊥
tertiaries_other h = cc

elements_other : TertiaryElements ≡ Primaries → ⊥
elements_other h = cc

beside_other : WithSecondary ≡ Primaries → ⊥
beside_other h = cc

tertiary_element_some : (s t : ℕ) → IsTrue (s == 0 && not (t == 0)) → 0 < t
tertiary_element_some s t h = grind (arith, nat_tests)

above_common : (a : Bool) (t : ℕ) → IsTrue (a && nat_lt common t) → common < t
above_common a t h = let parts = and_parts a (nat_lt common t) h in grind (arith, nat_tests)

below_two_bytes : (s : ℕ) → IsTrue (nat_lt s (2 ^ 16)) → s < 2 ^ 16
below_two_bytes s h = grind (arith, nat_tests)

otherwise : (a b : Bool) → IsTrue (a || b) → a ≡ false → IsTrue b
otherwise true b h f = cc
otherwise false b h f = h

secondary_some : (s : ℕ) → IsTrue (has_secondary_lead true s) → s ≢ 0 → 1 ≤ s / 256
unfolding has_secondary_lead
secondary_some s h some = grind (arith, nat_tests)

secondary_common : (s : ℕ) → IsTrue (has_secondary_lead true s) → s ≢ 0 → s / 256 ≡ 5 → s ≡ common
unfolding has_secondary_lead
secondary_common s h some lead = grind (arith, nat_tests)

tertiary_some : (t : ℕ) → IsTrue (has_tertiary_lead t) → t ≢ 0 → 1 ≤ t / 256
unfolding has_tertiary_lead
tertiary_some t h some = grind (arith, nat_tests)

tertiary_common : (t : ℕ) → IsTrue (has_tertiary_lead t) → t ≢ 0 → t / 256 ≡ 5 → t ≡ common
unfolding has_tertiary_lead
tertiary_common t h some lead = grind (arith, nat_tests)

diacritic_leads : (s : ℕ) → IsTrue (is_diacritic_weight true s) → IsTrue (has_leads true (of_secondary s))
unfolding is_diacritic_weight
diacritic_leads s h = third_of_three (not (s == 0)) (has_shape (of_secondary s)) (has_leads true (of_secondary s)) h

secondary_weight : (x : Element) → compared_weight Secondaries x ≡ left_aligned x.secondary
unfolding compared_weight
secondary_weight x = refl

tertiary_weight : (x : Element) → compared_weight Tertiaries x ≡ left_aligned (tertiary_of x)
unfolding compared_weight
tertiary_weight x = refl

-- ---- the conditions
module _ (all : CollatorTables) (met : ReachableMeets all) (tables : AreTables all) where
  pub tertiary_element_meet : TertiaryElementsAreHigh all.tables → Meets (conditions.Pair of_pair.TertiaryElementWeights) all
  tertiary_element_meet high first second x is_x y is_y tertiary_element beside =
      elim (cases_eq (tertiary_of y) 0) [
        | inl none ↦ subst (λ t. t < tertiary_of x) (sym none) (tertiary_element_some x.secondary (tertiary_of x) tertiary_element)
        | inr some ↦ elim (cases_eq (tertiary_of y) common) [
          | inl is ↦ subst (λ t. t < tertiary_of x) (sym is) (above_common _ (tertiary_of x)
              (implied (is_tertiary_element x) (is_high_tertiary_element x) ((meets_in all met first).elements of_element.TertiaryElement x is_x) tertiary_element))
          | inr other ↦ high first second (tertiary_of x) (tertiary_of y)
              (record { x = x; read = read_by all met first x is_x (weighs_explicit TertiaryElements x (tertiary_of x) elements_other (tertiary_element_kept x tertiary_element)); weighs = tertiary_element_kept x tertiary_element })
              (record { x = y; read = read_by all met second y is_y (weighs_explicit WithSecondary y (tertiary_of y) beside_other (beside_kept y beside some other)); weighs = beside_kept y beside some other })
        ]
      ]

  entry_leads : (table : DataTable) → MeetsIn table all → (x : Element) → IsOfEntryBy table all.tables x → IsTrue (has_leads true x)
  entry_leads table given x is =
      passes (λ x. has_leads true x) (final_elements (homed is.home is.entry) is.char) x (given.entries reachable.Leads is.home is.char is.entry is.reachable) is.member

  diacritic_has_leads : (x : Element) → IsOfReachableDiacritic all.tables.diacritics x → IsTrue (has_leads true x)
  diacritic_has_leads x is =
      let s : ℕ = slice_index all.tables.diacritics is.place in
      subst (λ x. IsTrue (has_leads true x)) (sym is.is)
      (diacritic_leads s (otherwise (is_replaced_index is.place) (is_diacritic_weight true s) (tables.diacritics.weights is.place is.inside) is.kept))

  leads_of : (table : DataTable) (x : Element) → IsElementBy table all.tables x → IsTrue (has_leads true x)
  leads_of Root x is = entry_leads Root met.root x is
  leads_of Jamo x is = entry_leads Jamo met.jamo x is
  leads_of Tailoring x is = entry_leads Tailoring met.tailoring x is
  leads_of Diacritics x is = diacritic_has_leads x is
  leads_of SpecialPrimaries x is = absurd is.reachable
  leads_of Metadata x is = absurd is.reachable
  leads_of Reordering x is = absurd is.reachable

  -- weights of two bytes, of which the common one isn't collected
  two_bytes_meet : (list : WeightList) → (list ≡ Primaries → ⊥) → (weigh : Element → ℕ) → ((x : Element) → compared_weight list x ≡ left_aligned (weigh x))
      → HaveLeads (IsReachableWeight all weigh) → ((w : ℕ) → IsReachableWeight all weigh w → w < 2 ^ 16)
      → (ws : List ℕ) → Collected all list ws → IsPrefixFree (weight_bytes 4) (Contains ws) → IsPrefixFree (weight_bytes 2) (IsReachableWeight all weigh)
  two_bytes_meet list other_list weigh weighs leads fits ws has free =
      none_begins (IsReachableWeight all weigh) leads (λ v w reachable_v reachable_w other_v other_w differ begins.
      free_of_two_bytes ws (λ s. IsReachableWeight all weigh s × (s ≢ common)) (λ s l. fits s l.0)
      (λ s l.
      let is = weighs l.0.x ∙ ap left_aligned l.0.is ∙ two_bytes_kept s l.0.some l.1 in
      collected_at all met list ws has l.0.table l.0.x l.0.reachable (weighs_explicit list l.0.x (s * 2 ^ 16) other_list is) (s * 2 ^ 16) is)
      free v w (reachable_v, other_v) (reachable_w, other_w) differ begins)

  secondary_lead : (w : ℕ) → IsReachableWeight all (λ x. x.secondary) w → IsTrue (has_secondary_lead true w)
  secondary_lead w l =
      subst (λ s. IsTrue (has_secondary_lead true s)) l.is
      (and_parts (has_secondary_lead true l.x.secondary) (has_tertiary_lead (tertiary_of l.x)) (leads_of l.table l.x l.reachable)).0

  secondary_leads : HaveLeads (IsReachableWeight all (λ x. x.secondary))
  secondary_leads = record {
    some = λ w l. secondary_some w (secondary_lead w l) l.some;
    common_alone = λ w l lead. secondary_common w (secondary_lead w l) l.some lead;
  }

  secondary_fits : (w : ℕ) → IsReachableWeight all (λ x. x.secondary) w → w < 2 ^ 16
  secondary_fits w l =
      subst (λ s. s < 2 ^ 16) l.is (below_two_bytes l.x.secondary
      (second_of_three (nat_lt l.x.primary (2 ^ 32)) (nat_lt l.x.secondary (2 ^ 16)) (nat_lt l.x.lower (2 ^ 16))
      ((meets_in all met l.table).elements of_element.Width l.x l.reachable)))

  pub secondaries_meet : (ws : List ℕ) → Collected all Secondaries ws → IsPrefixFree (weight_bytes 4) (Contains ws) → Meets (conditions.Pair of_pair.Secondaries) all
  secondaries_meet ws has free first second x is_x y is_y some_x some_y differ begins =
      two_bytes_meet Secondaries secondaries_other (λ x. x.secondary) secondary_weight secondary_leads secondary_fits ws has free x.secondary y.secondary
      (record { table = first; x = x; reachable = is_x; is = refl; some = some_x }) (record { table = second; x = y; reachable = is_y; is = refl; some = some_y })
      differ begins

  tertiary_lead : (w : ℕ) → IsReachableWeight all tertiary_of w → IsTrue (has_tertiary_lead w)
  tertiary_lead w l =
      subst (λ t. IsTrue (has_tertiary_lead t)) l.is
      (and_parts (has_secondary_lead true l.x.secondary) (has_tertiary_lead (tertiary_of l.x)) (leads_of l.table l.x l.reachable)).1

  tertiary_leads : HaveLeads (IsReachableWeight all tertiary_of)
  tertiary_leads = record {
    some = λ w l. tertiary_some w (tertiary_lead w l) l.some;
    common_alone = λ w l lead. tertiary_common w (tertiary_lead w l) l.some lead;
  }

  tertiary_fits : (w : ℕ) → IsReachableWeight all tertiary_of w → w < 2 ^ 16
  tertiary_fits w l = subst (λ t. t < 2 ^ 16) l.is (omega (arith, and_le_r l.x.lower 0x3F3F))

  pub tertiaries_meet : (ws : List ℕ) → Collected all Tertiaries ws → IsPrefixFree (weight_bytes 4) (Contains ws) → Meets (conditions.Pair of_pair.Tertiaries) all
  tertiaries_meet ws has free first second x is_x y is_y some_x some_y differ begins =
      two_bytes_meet Tertiaries tertiaries_other tertiary_of tertiary_weight tertiary_leads tertiary_fits ws has free (tertiary_of x) (tertiary_of y)
      (record { table = first; x = x; reachable = is_x; is = refl; some = some_x }) (record { table = second; x = y; reachable = is_y; is = refl; some = some_y })
      differ begins
