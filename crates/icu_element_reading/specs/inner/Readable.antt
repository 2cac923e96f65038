-- What reading texts asks of tables.
use Rattle.std.specs.Prelude.{ℕ, ◌≡◌, length, IsTrue}
use Rattle.icu_table_data.specs.declared.reachable_condition.ReachableCondition.{ReachableCondition}
use Rattle.icu_table_data.specs.ReachableConditions.{meets}
use Rattle.icu_table_provider.specs.ReachableTables.{IsReachable}
use Rattle.icu_table_data.specs.Data.{Data}
use Rattle.icu_table_provider.specs.Tables.{Tables}

-- each conjoining jamo has an entry, and each entry that is reachable meets each condition on entries
pub record AreReadable (tables : Tables) : Type 0 where
  pub jamo_count : length tables.jamo ≡ 256
  pub each : (condition : ReachableCondition) (home : Data) (c e : ℕ) → IsReachable tables home c e → IsTrue (meets condition home c e)
