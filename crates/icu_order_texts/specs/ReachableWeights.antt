-- The weights that the tables of a collator can give, level by level (UTS #10, "Form Sort Keys"; UTS #35 part 5,
-- "Collation Reordering" and "Case Parameters"), and that they are as the levels of sort keys ask.
use Rattle.std.specs.Prelude.{false, Option, Some, None, ℕ, ◌≡◌, ◌≢◌, ◌⊎◌, if◌then◌else◌}
use Rattle.icu_order_levels.specs.Tertiaries.{tertiary_runs}
use Rattle.icu_order_levels.specs.declared.forms.KeyForm.{KeyForm}
use Rattle.icu_order_levels.specs.declared.forms.SecondaryForm.TheVariants.{Backward}
use Rattle.icu_order_levels.specs.declared.forms.TertiaryForm.{TertiaryForm}
use Rattle.icu_order_levels.specs.Premises.{forward_least, backward_least}
use Rattle.icu_order_levels.specs.KeyPremises.{ReachableWeights, AreWeights}
use Rattle.icu_table_entries.specs.declared.error.DataTable.{DataTable}
use Rattle.icu_table_entries.specs.Elements.{Element, common}
use Rattle.icu_table_provider.specs.CollatorTables.{CollatorTables, is_forward, reorder}
use Rattle.icu_table_provider.specs.well_formed.ReachableElements.{IsElementBy}
use Rattle.icu_table_provider.specs.well_formed.WellFormedTables.{IsWellFormedTables}
use Rattle.icu_order_texts.specs.weighting.Levels.{primary_of, secondary_of, masked_tertiary, tertiary_in}
use Rattle.icu_order_texts.specs.weighting.Forms.{compression_of}

-- An element is reachable by one of the tables, what a level reads of it isn't 0, and the weight is what the level has
-- for it
pub record IsLevelWeight (reads has : Element → ℕ) (all : CollatorTables) (w : ℕ) : Type 0 where
  pub table : DataTable
  pub element : Element
  pub reachable : IsElementBy table all.tables element
  pub some : reads element ≢ 0
  pub is : w ≡ has element

-- ---- primaries

-- before reordering
abbrev pub IsReachablePrimary : CollatorTables → ℕ → Type 0
IsReachablePrimary all = IsLevelWeight primary_of primary_of all

-- after it, as the quaternary level has the primary of a variable element that is shifted
abbrev pub IsShiftedPrimary : CollatorTables → ℕ → Type 0
IsShiftedPrimary all = IsLevelWeight primary_of (λ x. reorder all x.primary) all

-- ---- secondaries

-- the common one, which numbers have, and those of reachable elements
abbrev pub IsReachableSecondary : CollatorTables → ℕ → Type 0
IsReachableSecondary all s = (s ≡ common) ⊎ IsLevelWeight secondary_of secondary_of all s

-- the least lead of a secondary: the backward level keeps 02 for itself
abbrev pub least_secondary_lead : CollatorTables → ℕ
least_secondary_lead all = if is_forward all then forward_least else backward_least

-- ---- tertiaries

-- the common one, which numbers have, and those of reachable elements
abbrev pub IsReachableTertiary : CollatorTables → TertiaryForm → ℕ → Type 0
IsReachableTertiary all form t =
    (t ≡ (tertiary_runs form).common) ⊎ IsLevelWeight (masked_tertiary form) (tertiary_in form) all t

-- ---- all levels

-- those of a key of this form, if it has the level
abbrev pub IsTertiaryOf : CollatorTables → Option TertiaryForm → ℕ → Type 0
IsTertiaryOf all None t = ⊥
IsTertiaryOf all (Some form) t = IsReachableTertiary all form t

-- the weights that the tables give to a key of this form, as the order theorem of keys speaks of them
abbrev pub reachable_weights : CollatorTables → KeyForm → ReachableWeights
reachable_weights all f = record {
  primary = IsReachablePrimary all;
  secondary = IsReachableSecondary all;
  tertiary = IsTertiaryOf all f.tertiary;
  shifted_primary = IsShiftedPrimary all;
  numeric = all.special.numeric;
}

-- Tables that meet the conditions on all tables of a collator give weights that are as a key of any form asks, whatever
-- the settings: a backward level is one of tables that say so
abbrev pub WellFormedTablesServeLevels : Type 0
WellFormedTablesServeLevels =
    (all : CollatorTables) → IsWellFormedTables all → (f : KeyForm) → (f.secondary ≡ Some Backward → is_forward all ≡ false)
    → AreWeights (compression_of all) f (reachable_weights all f)
