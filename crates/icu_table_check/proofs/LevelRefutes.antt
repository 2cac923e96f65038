-- Where collected weights clash, the condition on the elements of their tables fails.
use Rattle.std.proofs.Common.{◌≡◌, ◌≢◌, ℕ, ◌*◌, ◌^◌, ◌<◌, ◌≤◌, sym, ap, ◌∙◌, subst, arith}
use Rattle.icu_order_levels.specs.ListOrder.{IsBeginning}
use Rattle.icu_order_levels.specs.WeightBytes.{weight_bytes}
use Rattle.icu_table_entries.specs.declared.error.DataTable.{DataTable}
use Rattle.icu_table_entries.specs.Elements.{Element}
use Rattle.icu_table_entries.specs.ElementConditions.{tertiary_of}
use Rattle.icu_table_provider.specs.Reorderings.{lead_byte}
use Rattle.icu_table_provider.specs.SpecialPrimaries.{is_compressible}
use Rattle.icu_table_provider.specs.declared.well_formed.condition.Condition.TheVariants as conditions
use Rattle.icu_table_provider.specs.declared.well_formed.condition.PairCondition.TheVariants as of_pair
use Rattle.icu_table_check.specs.declared.check.weights.ComparedLevel.{ComparedLevel}
use Rattle.icu_table_check.specs.declared.check.weights.ComparedLevel.TheVariants.{Primary, Secondary, Tertiary}
use Rattle.icu_table_check.specs.declared.check.weights.WeightList.TheVariants.{Primaries, Secondaries, Tertiaries, TertiaryElements, WithSecondary}
use Rattle.icu_table_provider.specs.CollatorTables.{CollatorTables, reorder}
use Rattle.icu_table_provider.specs.well_formed.PairConditions.{BeginsNot, PairMeets}
use Rattle.icu_table_provider.specs.well_formed.WellFormedTables.{EachPair, MeetsBy, IsOverlapTable}
use Rattle.icu_table_check.specs.inner.ComparedLevels.{list_of, overlap_condition, bytes_at}
use Rattle.icu_table_provider.specs.well_formed.ReachableElements.{IsElementBy}
use Rattle.icu_table_check.specs.inner.PairViolations.{IsClashTable}
use Rattle.icu_table_check.specs.inner.ComparedWeights.{IsWeightBy}
use Rattle.icu_table_weights.proofs.BeginningLemmas.{moved_up_bytes}
use Rattle.icu_table_check.proofs.ComparedLevelLemmas.{element_by, primary_weighs, secondary_weighs, tertiary_weighs, tertiary_element_weighs, beside_weighs}

-- two weights of two bytes clash where they do with two zero bytes after them
two_bytes_clash : (s r v w : ℕ) → (s ≢ 0) × (s * 2 ^ 16 ≡ v) → (r ≢ 0) × (r * 2 ^ 16 ≡ w) → v < 2 ^ 32 → w < 2 ^ 32 → v ≢ w
    → IsBeginning (weight_bytes 4 v) (weight_bytes 4 w) → BeginsNot (weight_bytes 2) s r → ⊥
two_bytes_clash s r v w p q fits_v fits_w differ begins free =
    let one : weight_bytes 4 v ≡ weight_bytes 2 s = ap (weight_bytes 4) (sym p.1) ∙ moved_up_bytes s (omega (arith, p.1)) in
    let other : weight_bytes 4 w ≡ weight_bytes 2 r = ap (weight_bytes 4) (sym q.1) ∙ moved_up_bytes r (omega (arith, q.1)) in
    free p.0 q.0 (λ e. differ (sym p.1 ∙ ap (λ n. n * 2 ^ 16) e ∙ q.1))
    (subst (λ l. IsBeginning l (weight_bytes 2 r)) one (subst (λ l. IsBeginning (weight_bytes 4 v) l) other begins))

module _ (all : CollatorTables) (t u : DataTable) (v w : ℕ) where
  refute_secondaries : v < 2 ^ 32 → w < 2 ^ 32 → IsWeightBy Secondaries t all.tables v → IsWeightBy Secondaries u all.tables w → v ≢ w
      → IsBeginning (weight_bytes 4 v) (weight_bytes 4 w) → EachPair (PairMeets of_pair.Secondaries all) t u all → ⊥
  refute_secondaries fits_v fits_w a b differ begins each =
      two_bytes_clash a.x.secondary b.x.secondary v w (secondary_weighs a.x v a.weighs) (secondary_weighs b.x w b.weighs) fits_v fits_w differ begins
      (each a.x (element_by all.tables t a.x a.read) b.x (element_by all.tables u b.x b.read))

  refute_tertiaries : v < 2 ^ 32 → w < 2 ^ 32 → IsWeightBy Tertiaries t all.tables v → IsWeightBy Tertiaries u all.tables w → v ≢ w
      → IsBeginning (weight_bytes 4 v) (weight_bytes 4 w) → EachPair (PairMeets of_pair.Tertiaries all) t u all → ⊥
  refute_tertiaries fits_v fits_w a b differ begins each =
      two_bytes_clash (tertiary_of a.x) (tertiary_of b.x) v w (tertiary_weighs a.x v a.weighs) (tertiary_weighs b.x w b.weighs) fits_v fits_w differ begins
      (each a.x (element_by all.tables t a.x a.read) b.x (element_by all.tables u b.x b.read))

  pub refute_tertiary_element : IsWeightBy TertiaryElements t all.tables v → IsWeightBy WithSecondary u all.tables w → v ≤ w → EachPair (PairMeets of_pair.TertiaryElementWeights all) t u all → ⊥
  refute_tertiary_element a b at_most each =
      let p = tertiary_element_weighs a.x v a.weighs in
      let q = beside_weighs b.x w b.weighs in
      below (tertiary_of a.x) (tertiary_of b.x) p.1 q.1 at_most (each a.x (element_by all.tables t a.x a.read) b.x (element_by all.tables u b.x b.read) p.0 q.0)
    where
      below : (x y : ℕ) → x ≡ v → y ≡ w → v ≤ w → y < x → ⊥
      below x y is_v is_w at_most less = omega (arith, is_v, is_w, at_most, less)

  pub refute_compression : IsWeightBy Primaries t all.tables v → IsWeightBy Primaries u all.tables w → lead_byte (reorder all v) ≡ lead_byte (reorder all w)
      → (is_compressible all.special (lead_byte v) ≡ is_compressible all.special (lead_byte w) → ⊥) → EachPair (PairMeets of_pair.Compression all) t u all → ⊥
  refute_compression a b same unlike each =
      let p = primary_weighs a.x v a.weighs in
      let q = primary_weighs b.x w b.weighs in
      let alike = each a.x (element_by all.tables t a.x a.read) b.x (element_by all.tables u b.x b.read) p.0 q.0
      (ap (λ n. lead_byte (reorder all n)) p.1 ∙ same ∙ ap (λ n. lead_byte (reorder all n)) (sym q.1)) in
      unlike (ap (λ n. is_compressible all.special (lead_byte n)) (sym p.1) ∙ alike ∙ ap (λ n. is_compressible all.special (lead_byte n)) q.1)

-- two reachable elements whose primary weights clash, by the table that they are named by
pub refute_elements : (all : CollatorTables) (t u : DataTable) (x y : Element) → IsElementBy t all.tables x → IsElementBy u all.tables y → x.primary ≢ 0 → y.primary ≢ 0 → x.primary ≢ y.primary
    → IsBeginning (bytes_at Primary all x.primary) (bytes_at Primary all y.primary) → (table : DataTable) → IsOverlapTable t u x.primary y.primary table
    → MeetsBy (conditions.Pair of_pair.Primaries) table all → ⊥
refute_elements all t u x y is_x is_y some_x some_y differ begins table named meets = meets t u x is_x y is_y named some_x some_y differ begins

-- two collected weights of any level that clash, by the table that they are named by
pub refute_clash : (level : ComparedLevel) (all : CollatorTables) (t u : DataTable) (v w : ℕ) → v < 2 ^ 32 → w < 2 ^ 32
    → IsWeightBy (list_of level) t all.tables v → IsWeightBy (list_of level) u all.tables w → v ≢ w → IsBeginning (bytes_at level all v) (bytes_at level all w)
    → (table : DataTable) → IsClashTable level t u v w table → MeetsBy (conditions.Pair (overlap_condition level)) table all → ⊥
refute_clash Primary all t u v w fits_v fits_w a b differ begins table named meets =
    let p = primary_weighs a.x v a.weighs in
    let q = primary_weighs b.x w b.weighs in
    refute_elements all t u a.x b.x (element_by all.tables t a.x a.read) (element_by all.tables u b.x b.read) p.0 q.0 (λ e. differ (sym p.1 ∙ e ∙ q.1))
    (subst (λ n. IsBeginning (bytes_at Primary all n) (bytes_at Primary all b.x.primary)) (sym p.1) (subst (λ n. IsBeginning (bytes_at Primary all v) (bytes_at Primary all n)) (sym q.1) begins))
    table (subst (λ n. IsOverlapTable t u n b.x.primary table) (sym p.1) (subst (λ n. IsOverlapTable t u v n table) (sym q.1) named)) meets
refute_clash Secondary all t u v w fits_v fits_w a b differ begins table named meets =
    refute_secondaries all t u v w fits_v fits_w a b differ begins (λ x is_x y is_y. meets t u x is_x y is_y named)
refute_clash Tertiary all t u v w fits_v fits_w a b differ begins table named meets =
    refute_tertiaries all t u v w fits_v fits_w a b differ begins (λ x is_x y is_y. meets t u x is_x y is_y named)
