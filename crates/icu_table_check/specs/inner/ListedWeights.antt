-- The weights that are compared with one another, all lists together.
use Rattle.std.specs.Prelude.{◌≡◌, []}
use Rattle.icu_table_entries.specs.declared.error.DataTable.{DataTable}
use Rattle.icu_table_provider.specs.Tables.{Tables}
use Rattle.icu_table_check.specs.declared.check.listed_weights.ListedWeights.{ListedWeights}
use Rattle.icu_table_check.specs.declared.check.weights.WeightList.TheVariants.{Primaries, Secondaries, Tertiaries, TertiaryElements, WithSecondary}
use Rattle.icu_table_weights.specs.WeightSets.{weights_of_set}
use Rattle.icu_table_check.specs.inner.ComparedWeights.{IsWeightBy, Adds}
use Rattle.icu_table_check.specs.inner.PairViolations.{HoldsLevel}

-- no list has a weight
pub record HasNone (lists : ListedWeights) : Type 0 where
  pub primaries : weights_of_set lists.primaries ≡ []
  pub secondaries : weights_of_set lists.secondaries ≡ []
  pub tertiaries : weights_of_set lists.tertiaries ≡ []
  pub tertiary_elements : lists.tertiary_elements.items ≡ []
  pub with_secondary : lists.with_secondary.items ≡ []

-- each list holds what it held, and its weights of what is reachable by a table
pub record AddsEach (table : DataTable) (tables : Tables) (old new : ListedWeights) : Type 0 where
  pub primaries : Adds (IsWeightBy Primaries table tables) (weights_of_set old.primaries) (weights_of_set new.primaries)
  pub secondaries : Adds (IsWeightBy Secondaries table tables) (weights_of_set old.secondaries) (weights_of_set new.secondaries)
  pub tertiaries : Adds (IsWeightBy Tertiaries table tables) (weights_of_set old.tertiaries) (weights_of_set new.tertiaries)
  pub tertiary_elements : Adds (IsWeightBy TertiaryElements table tables) old.tertiary_elements.items new.tertiary_elements.items
  pub with_secondary : Adds (IsWeightBy WithSecondary table tables) old.with_secondary.items new.with_secondary.items

-- each list holds all its weights by some tables, and no others
pub record HoldsEach (tables : Tables) (lists : ListedWeights) : Type 0 where
  pub primaries : HoldsLevel Primaries tables (weights_of_set lists.primaries)
  pub secondaries : HoldsLevel Secondaries tables (weights_of_set lists.secondaries)
  pub tertiaries : HoldsLevel Tertiaries tables (weights_of_set lists.tertiaries)
  pub tertiary_elements : HoldsLevel TertiaryElements tables lists.tertiary_elements.items
  pub with_secondary : HoldsLevel WithSecondary tables lists.with_secondary.items
