-- What the rules of a collation say, with those that they import (UTS #35 part 5, "Collation Tailorings").
use Rattle.std.specs.Prelude.{◌≡◌, ℕ, List, map, Some, chars, string_bytes}
use Rattle.icu_cldr_files.specs.declared.collation.Collation.{Collation}
use Rattle.icu_cldr_files.specs.declared.locale_files.LocaleFile.{LocaleFile}
use Rattle.icu_cldr_files.specs.LocaleFiles.{FindsUp, collation_at}
use Rattle.icu_cldr_locales.specs.declared.subtag.Subtag.{Subtag}
use Rattle.icu_cldr_locales.specs.LanguageTags.{language_tag_of, texts_of}
use Rattle.icu_rule_parser.specs.declared.rules.PlacedStatement.{PlacedStatement}
use Rattle.icu_rule_parser.specs.Statements.{SpellStatements}
use Rattle.icu_rule_parser.specs.Imports.{Resolve}
use Rattle.icu_cldr_locales.specs.declared.locale_rules.collation_name.CollationName.{CollationName}
use Rattle.icu_cldr_locales.specs.locale_rules.CollationNames.{NamesCollation, type_or_standard}

-- What rules import by a tag: the rules of the collation that it names, on the way from its locale to the root. No
-- other type stands in for one that isn't there.
pub record IsImportOf (files : List LocaleFile) (tag rules : List ℕ) : Type 0 where
  pub subtags : List Subtag
  pub spelled : language_tag_of tag ≡ Some (texts_of subtags)
  pub name : CollationName
  pub named : NamesCollation subtags name
  pub found : LocaleFile × Collation
  pub is_found : FindsUp (collation_at files (type_or_standard name)) (string_bytes name.locale) (Some found)
  pub are : rules ≡ string_bytes found.1.rules

-- what a text of rules says, by files: its statements, with those that it imports in their place
pub record SayRules (files : List LocaleFile) (text : List ℕ) (statements : List PlacedStatement) : Type 0 where
  pub stated : List PlacedStatement
  pub spelled : SpellStatements (map (λ p. p.statement) stated) (chars text)
  pub resolved : Resolve (IsImportOf files) stated statements
