-- All lists of weights together, from one by one.
use Rattle.std.proofs.Common.{◌≡◌, Result, Ok, Err, OnOk, None}
use Rattle.icu_table_entries.specs.declared.error.DataTable.{DataTable}
use Rattle.icu_table_entries.specs.declared.error.DataTable.TheVariants.{Root, Jamo, Tailoring, Diacritics}
use Rattle.icu_table_provider.specs.Tables.{Tables}
use Rattle.icu_table_provider.specs.CollatorTables.{CollatorTables}
use Rattle.icu_table_provider.specs.TableSets.{tables_in}
use Rattle.icu_table_provider.specs.declared.table_set.TableSet.{TableSet}
use Rattle.icu_table_check.specs.declared.check.listed_weights.ListedWeights.{ListedWeights}
use Rattle.icu_table_check.specs.declared.check.weights.WeightList.TheVariants.{Primaries, Secondaries, Tertiaries, TertiaryElements, WithSecondary}
use Rattle.icu_table_weights.specs.WeightSets.{weights_of_set}
use Rattle.icu_table_check.specs.inner.ComparedWeights.{IsWeightBy, Adds}
use Rattle.icu_table_check.specs.inner.ListedWeights.{HasNone, AddsEach, HoldsEach}
use Rattle.icu_table_check.proofs.CollectLemmas.{loaded_no_tailoring}
use Rattle.icu_table_check.proofs.WeightListLemmas.{holds_level}

-- what was added to each list was added to all
pub each_on : {X E : Type 0} (table : DataTable) (tables : Tables) (old new : ListedWeights) (r : Result X E)
    → OnOk r (Adds (IsWeightBy Primaries table tables) (weights_of_set old.primaries) (weights_of_set new.primaries))
    → OnOk r (Adds (IsWeightBy Secondaries table tables) (weights_of_set old.secondaries) (weights_of_set new.secondaries))
    → OnOk r (Adds (IsWeightBy Tertiaries table tables) (weights_of_set old.tertiaries) (weights_of_set new.tertiaries))
    → OnOk r (Adds (IsWeightBy TertiaryElements table tables) old.tertiary_elements.items new.tertiary_elements.items)
    → OnOk r (Adds (IsWeightBy WithSecondary table tables) old.with_secondary.items new.with_secondary.items)
    → OnOk r (AddsEach table tables old new)
each_on table tables old new (Ok x) primaries secondaries tertiaries alone beside =
    record { primaries = primaries; secondaries = secondaries; tertiaries = tertiaries; tertiary_elements = alone; with_secondary = beside }
each_on table tables old new (Err e) primaries secondaries tertiaries alone beside = tt

-- without a tailoring nothing is added
pub no_tailoring : (s : TableSet) (lists : ListedWeights) → s.tailoring ≡ None → AddsEach Tailoring (tables_in s).tables lists lists
no_tailoring s lists none = record {
  primaries = loaded_no_tailoring s Primaries none (weights_of_set lists.primaries);
  secondaries = loaded_no_tailoring s Secondaries none (weights_of_set lists.secondaries);
  tertiaries = loaded_no_tailoring s Tertiaries none (weights_of_set lists.tertiaries);
  tertiary_elements = loaded_no_tailoring s TertiaryElements none lists.tertiary_elements.items;
  with_secondary = loaded_no_tailoring s WithSecondary none lists.with_secondary.items;
}

-- after the four tables each list holds all its weights
pub holds_each : (all : CollatorTables) (a b c d e : ListedWeights) → HasNone a → AddsEach Root all.tables a b
    → AddsEach Jamo all.tables b c → AddsEach Tailoring all.tables c d → AddsEach Diacritics all.tables d e → HoldsEach all.tables e
holds_each all a b c d e none root jamo tailoring diacritics = record {
  primaries = holds_level Primaries all _ _ _ _ _ none.primaries root.primaries jamo.primaries tailoring.primaries diacritics.primaries;
  secondaries = holds_level Secondaries all _ _ _ _ _ none.secondaries root.secondaries jamo.secondaries tailoring.secondaries diacritics.secondaries;
  tertiaries = holds_level Tertiaries all _ _ _ _ _ none.tertiaries root.tertiaries jamo.tertiaries tailoring.tertiaries diacritics.tertiaries;
  tertiary_elements = holds_level TertiaryElements all _ _ _ _ _ none.tertiary_elements root.tertiary_elements jamo.tertiary_elements tailoring.tertiary_elements diacritics.tertiary_elements;
  with_secondary = holds_level WithSecondary all _ _ _ _ _ none.with_secondary root.with_secondary jamo.with_secondary tailoring.with_secondary diacritics.with_secondary;
}
