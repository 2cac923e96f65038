-- What is compiled.
use Rattle.std.specs.Prelude.{◌≡◌, ℕ, List, [], Option, Some, None, string_bytes}
use Rattle.icu_cldr_root.specs.Roots.{IsRoot}
use Rattle.icu_table_provider.specs.CollatorTables.{CollatorTables}
use Rattle.icu_rule_parser.specs.declared.rules.PlacedStatement.{PlacedStatement}
use Rattle.icu_table_files.specs.FileContents.{FileContents}
use Rattle.cldr_languages.specs.declared.asked_locale.AskedLocale.{AskedLocale}
use Rattle.cldr_collators.specs.declared.compiled_tables.compiled.TablesRequest.{TablesRequest}
use Rattle.cldr_collators.specs.compiled_tables.WrittenFiles.{AreWithRules, IsWrittenFile}

-- the tag of a locale, empty where there is none
abbrev pub tag_placed : Option AskedLocale → List ℕ
tag_placed None = []
tag_placed (Some asked) = string_bytes asked.word

-- the tag of the locale that is asked for, empty for the root
abbrev pub tag_asked : TablesRequest → List ℕ
tag_asked request = tag_placed request.locale

-- bytes are a file of the tables of a root with rules over it, with this tag and this version of CLDR
pub record IsCompiled (tag cldr bytes : List ℕ) : Type 0 where
  pub says : FileContents
  pub is : IsWrittenFile says bytes
  pub tag_is : says.tag ≡ tag
  pub cldr_is : says.cldr ≡ cldr
  pub over : CollatorTables
  pub is_root : IsRoot over
  pub statements : List PlacedStatement
  pub with_rules : AreWithRules over statements says.tables
