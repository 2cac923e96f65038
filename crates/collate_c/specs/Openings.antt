-- What a handle is opened by, and the collation that it then has.
use Rattle.std.specs.Prelude.{◌≡◌, ℕ, List, [], ◌∷◌, Some, false, codes, unwrap_or, option_map}
use Rattle.std.specs.Arc.{arc_value}
use Rattle.std.specs.Option.{option_or}
use Rattle.icu_options.specs.Settings.{Settings}
use Rattle.icu_options.specs.Conversions.{is_on, is_numeric}
use Rattle.icu_options.specs.Metadata.{metadata_settings}
use Rattle.icu_options.specs.declared.metadata.MetadataSettings.{MetadataSettings}
use Rattle.icu_options.specs.declared.settings.Strength.TheVariants.{Tertiary}
use Rattle.icu_cldr_locales.specs.Keywords.{AreSettings}
use Rattle.icu_cldr_locales.specs.LanguageTags.{language_tag_of, texts_of}
use Rattle.icu_cldr_locales.specs.declared.subtag.Subtag.{Subtag}
use Rattle.icu_cldr_locales.specs.declared.tag_settings.TagSettings.{TagSettings}
use Rattle.icu_collator.specs.Collators.{collation_kept, settings_kept, tables_kept}
use Rattle.icu_collator.specs.declared.collator.Collator.{Collator}
use Rattle.icu_order_texts.specs.weighting.Collations.{Collation}
use Rattle.icu_table_files.specs.FileContents.{FileContents}
use Rattle.icu_table_files.specs.TableFiles.{IsFileOf}
use Rattle.collate_c.specs.declared.session.Session.{Session}

-- the collator that a handle shares
abbrev pub collator_held : Session → Collator
collator_held s = arc_value s.collator

-- the collation by which a handle compares texts
abbrev pub collation_held : Session → Collation
collation_held s = collation_kept (collator_held s)

-- a tag; the empty one is that of the root
abbrev pub tag_or_root : List ℕ → List ℕ
tag_or_root [] = codes "und"
tag_or_root (b ∷ tag) = b ∷ tag

-- the keywords of a tag set this
pub record SetByTag (tag : List ℕ) (settings : TagSettings) : Type 0 where
  pub subtags : List Subtag
  pub is_tag : language_tag_of (tag_or_root tag) ≡ Some (texts_of subtags)
  pub sets : AreSettings subtags settings

-- Each setting by the first that sets it: what a caller asked for, what a file's tag says, the metadata of the tables,
-- and the default (UTS #35 part 5, "Setting Options")
abbrev pub settings_by : TagSettings → TagSettings → MetadataSettings → Settings
settings_by asked own metadata =
    record {
      strength = unwrap_or (option_or asked.options.strength own.options.strength) Tertiary;
      max_variable = unwrap_or (option_or asked.options.max_variable own.options.max_variable) metadata.max_variable;
      alternate_handling =
          unwrap_or (option_or asked.options.alternate_handling own.options.alternate_handling) metadata.alternate_handling;
      case_level = unwrap_or (option_map is_on (option_or asked.options.case_level own.options.case_level)) false;
      case_first = unwrap_or (option_or asked.case_first own.case_first) metadata.case_first;
      backward_second_level = metadata.backward_second_level;
      numeric = unwrap_or (option_map is_numeric (option_or asked.numeric_ordering own.numeric_ordering)) false;
    }

-- bytes are a table file, and with what a tag asks for they make this collator
pub record Opens (file tag : List ℕ) (collator : Collator) : Type 0 where
  pub contents : FileContents
  pub is_file : IsFileOf contents file
  pub tables : tables_kept collator ≡ contents.tables
  pub asked : TagSettings
  pub is_asked : SetByTag tag asked
  pub own : TagSettings
  pub is_own : SetByTag contents.tag own
  pub settings : settings_kept collator ≡ settings_by asked own (metadata_settings contents.tables.bits)
