-- By what the program compares.
use Rattle.std.specs.Prelude.{◌≡◌, false, None}
use Rattle.icu_options.specs.Settings.{Settings}
use Rattle.icu_options.specs.declared.settings.Strength.{Strength}
use Rattle.icu_options.specs.declared.settings.AlternateHandling.TheVariants.{NonIgnorable}
use Rattle.icu_options.specs.declared.settings.CollationCaseFirst.TheVariants as case_first
use Rattle.icu_options.specs.declared.settings.MaxVariable.TheVariants.{Punctuation}
use Rattle.icu_table_provider.specs.CollatorTables.{CollatorTables}
use Rattle.icu_table_mini.specs.declared.mini.Mini.{Mini}
use Rattle.icu_table_mini.specs.Mini.{IsMini, collator_tables, special_held}
use Rattle.icu_order_texts.specs.Collations.{Collation}

-- all of Mini's tables: its metadata names neither a tailoring nor a reordering
abbrev pub mini_tables : Mini → CollatorTables
mini_tables m = record { tables = collator_tables m; special = special_held m; bits = 1; reordering = None }

-- the settings where a strength is named and nothing else, and Mini's metadata sets the rest
abbrev pub mini_settings : Strength → Settings
mini_settings strength = record {
  strength = strength;
  max_variable = Punctuation;
  alternate_handling = NonIgnorable;
  case_level = false;
  case_first = case_first.False;
  backward_second_level = false;
  numeric = false;
}

-- the collation by which texts are compared by these tables at this strength
pub record ComparesBy (strength : Strength) (m : Mini) (c : Collation) : Type 0 where
  pub tables : c.tables ≡ mini_tables m
  pub settings : c.settings ≡ mini_settings strength

-- the collation by which texts are compared at this strength by the tables of a Mini
abbrev pub mini_compares : Strength → Collation → Type 0
mini_compares strength c = (m : Mini) × IsMini m × ComparesBy strength m c
