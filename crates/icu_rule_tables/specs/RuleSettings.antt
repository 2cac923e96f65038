-- What the settings of rules make of those of the root (UTS #35 part 5, "Setting Options").
use Rattle.std.specs.Prelude.{ℕ, Bool, true, false, not, ◌||◌, bytes_eq, List, [], ◌∷◌, Option, Some, None, String}
use Rattle.std.specs.Option.{is_some}
use Rattle.std.specs.declared.alloc.Global.{Global}
use Rattle.icu_options.specs.Metadata.{metadata_settings}
use Rattle.icu_options.specs.declared.metadata.MetadataSettings.{MetadataSettings}
use Rattle.icu_options.specs.declared.settings.AlternateHandling.{AlternateHandling}
use Rattle.icu_options.specs.declared.settings.AlternateHandling.TheVariants.{NonIgnorable, Shifted, Blanked}
use Rattle.icu_rule_parser.specs.declared.statement.RuleSetting.{RuleSetting}
use Rattle.icu_rule_parser.specs.declared.statement.RuleSetting.TheVariants.{Alternate, MaxVariable, CaseFirst, Backwards, Reorder}
use Rattle.icu_table_provider.specs.CollatorTables.{CollatorTables}
use Rattle.icu_table_provider.specs.Metadata.{has_tailored_diacritics, is_lithuanian}
use Rattle.icu_table_provider.specs.MetadataFields.{metadata_bits}
use Rattle.icu_table_provider.specs.declared.metadata.MetadataFields.{MetadataFields}

-- settings with one of rules in its place; those that metadata have no place for change nothing
abbrev pub with_setting : MetadataSettings → RuleSetting → MetadataSettings
with_setting s (Alternate handling) = record s { alternate_handling = handling }
with_setting s (MaxVariable group) = record s { max_variable = group }
with_setting s (CaseFirst case) = record s { case_first = case }
with_setting s Backwards = record s { backward_second_level = true }
with_setting s _ = s

-- Settings with those of rules, of which the last one stands first. Of two in one place the last one counts.
unfoldable pub settings_after : MetadataSettings → List RuleSetting → MetadataSettings
settings_after s [] = s
settings_after s (said ∷ before) = with_setting (settings_after s before) said

-- the words of a setting, if it is a reordering, or else other ones
abbrev pub words_with : RuleSetting → Option (List (String Global)) → Option (List (String Global))
words_with (Reorder groups) before = Some groups.items
words_with _ before = before

-- the words of a reordering among settings, of which the last one stands first: the last one counts
unfoldable pub reorder_words : List RuleSetting → Option (List (String Global))
reorder_words [] = None
reorder_words (said ∷ before) = words_with said (reorder_words before)

-- one of the settings is a reordering
abbrev pub names_reordering : List RuleSetting → Bool
names_reordering said = is_some (reorder_words said)

-- variable elements are shifted
abbrev pub shifts : AlternateHandling → Bool
shifts NonIgnorable = false
shifts Shifted = true
shifts Blanked = false

-- What the metadata of a tailoring says over the root of tables: settings are those of the root and of the rules, and
-- there are diacritics of its own where they aren't those of the root.
abbrev pub tailored_fields : CollatorTables → List RuleSetting → List ℕ → MetadataFields
tailored_fields root said diacritics =
    let s = settings_after (metadata_settings root.bits) said in
    record {
      max_variable = s.max_variable;
      tailored = true;
      tailored_diacritics = has_tailored_diacritics root.bits || not (bytes_eq diacritics root.tables.diacritics);
      reordering = names_reordering said;
      lithuanian_dot_above = is_lithuanian root.bits;
      backward_second_level = s.backward_second_level;
      alternate_shifted = shifts s.alternate_handling;
      case_first = s.case_first;
    }

-- the metadata of a tailoring, as a number
abbrev pub tailored_bits : CollatorTables → List RuleSetting → List ℕ → ℕ
tailored_bits root said diacritics = metadata_bits (tailored_fields root said diacritics)
