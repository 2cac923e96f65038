-- Tables that are refused for cause.
use Rattle.std.specs.Prelude.{◌≡◌, ℕ, List, Ok}
use Rattle.icu_table_entries.specs.declared.error.DataErrorKind.{DataErrorKind}
use Rattle.icu_table_entries.specs.declared.error.DataErrorKind.TheVariants.{NoMemory}
use Rattle.icu_options.specs.declared.settings.Strength.{Strength}
use Rattle.icu_table_provider.specs.CollatorTables.{CollatorTables}
use Rattle.icu_table_provider.specs.well_formed.WellFormedTables.{IsWellFormedTables}
use Rattle.icu_table_provider.specs.LoadedTables.{loaded_tables}
use Rattle.icu_table_provider.specs.Requests.{Request}
use Rattle.icu_table_mini.specs.declared.mini.Mini.{Mini}
use Rattle.icu_table_provider.specs.declared.fixed_provider.FixedLoads.{FixedLoads}
use Rattle.icu_table_provider.specs.FixedLoads.{fixed_loads}
use Rattle.icu_table_mini.specs.Mini.{IsMini}
use Rattle.icu_table_mini.specs.Provider.{LoadsMini}
use Rattle.collate.specs.CollateLines.{refused_text}

-- Mini's tables are not all returned, or those that are returned don't meet the conditions on the tables of a collator.
pub record TablesFail : Type 0 where
  pub tables : Mini
  pub provider : FixedLoads
  pub request : Request
  pub mini : IsMini tables
  pub holds : LoadsMini tables provider
  pub fails : (all : CollatorTables) → loaded_tables (fixed_loads provider) request ≡ Ok all → IsWellFormedTables all → ⊥

-- the text with which a collator is refused, and what it says is true
abbrev pub mini_refuses : Strength → List ℕ → Type 0
mini_refuses strength text = TablesFail × (text ≡ refused_text)

-- the text is said of an error that isn't one of memory
abbrev pub IsForCause : DataErrorKind → List ℕ → Type 0
IsForCause kind text = (kind ≡ NoMemory → ⊥) × (text ≡ refused_text)
