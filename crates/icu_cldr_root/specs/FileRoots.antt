-- What tables say that a file of lines became (UTS #35 part 5, "Root Collation Data Files").
use Rattle.std.specs.Prelude.{◌≡◌, ℕ, ◌&&◌, false, true, List, Option, MatchBool, reverse}
use Rattle.std.specs.Char.{IsScalar}
use Rattle.std.specs.List.{AllByRecursion, AllZip, list_any}
use Rattle.ucd_perl.specs.Perl.{is_digit_char}
use Rattle.icu_table_entries.specs.Elements.{Element}
use Rattle.icu_table_data.specs.Data.{Data}
use Rattle.icu_table_provider.specs.CollatorTables.{CollatorTables}
use Rattle.icu_table_mappings.specs.DigitEntries.{IsDigitEntry, decimal_value}
use Rattle.icu_cldr_root.specs.FileFacts.{SaysFacts}
use Rattle.icu_cldr_root.specs.FileLines.{AreLines}
use Rattle.icu_cldr_root.specs.FixedBytes.{fixes_last}
use Rattle.icu_table_mappings.specs.Given.{Spells, Gives}
use Rattle.icu_cldr_root.specs.IdeographOrder.{ideograph_weight, ideographs_of}
use Rattle.icu_cldr_root.specs.LineElements.{AreSaid}
use Rattle.icu_cldr_root.specs.SaidSpecials.{SaysSpecials}
use Rattle.icu_cldr_root.specs.Unmapped.{GivesUnmapped, maps_first}
use Rattle.icu_cldr_root.specs.WrittenLines.{LineSays}
use Rattle.icu_cldr_root.specs.WrittenMappings.{is_without_context}
use Rattle.icu_cldr_root.specs.declared.file_facts.FileFacts.{FileFacts}
use Rattle.icu_cldr_root.specs.declared.ideographs.CharRange.{CharRange}
use Rattle.icu_cldr_root.specs.declared.line.Line.{Line}
use Rattle.icu_cldr_root.specs.declared.line.Line.TheVariants as says
use Rattle.icu_cldr_root.specs.declared.mapping.Mapping.{Mapping}

-- The root gives the characters of a mapping the elements that its line writes: behind those of the prefix, the nearest
-- first, and before those that follow, the entry of the first character comes to one that spells the elements. A digit
-- that is mapped wherever it stands comes to a digit entry with its value, which names that one.
pub record GivesMapping (of_ideograph : ℕ → Option ℕ) (d : Data) (m : Mapping) : Type 0 where
  pub elements : List Element
  pub letter : ℕ
  pub entry : ℕ
  pub said : AreSaid of_ideograph m.elements.items elements
  pub spells : Spells d letter elements
  pub digit : MatchBool (is_without_context m && is_digit_char m.first) (IsDigitEntry d (decimal_value m.first) letter entry) (entry ≡ letter)
  pub gives : Gives d (d.value m.first) (reverse m.prefix.items) m.suffix.items entry

-- what a line says stands in the tables
abbrev pub StandsIn : (ℕ → Option ℕ) → CollatorTables → Line → Type 0
StandsIn of_ideograph all (says.Mapping m) = GivesMapping of_ideograph all.tables.root m
StandsIn of_ideograph all _ = Unit {0}

-- The tables say what each line of a file says. Elements `U+X` have the weights of ideographs, by the ranges that stand
-- before all others and those of the file's line; their special primary weights are those of the lines. A character
-- that no line maps has the weight of an ideograph, or its entry is implicit. What is kept of the file is what its
-- lines say, and one of them is the last of a file, so that the file isn't cut off.
pub record SaysFile (first : List CharRange) (bytes : List ℕ) (all : CollatorTables) (facts : FileFacts) : Type 0 where
  pub lines : List (List ℕ)
  pub said : List Line
  pub are_lines : AreLines bytes lines
  pub say : AllZip LineSays lines said
  pub stand : AllByRecursion (StandsIn (ideograph_weight (ideographs_of first said)) all) said
  pub specials : SaysSpecials all.special said
  pub says_facts : SaysFacts facts said
  pub ended : list_any fixes_last facts.fixed.items ≡ true
  pub unmapped : (c : ℕ) → IsScalar c → list_any (maps_first c) said ≡ false
      → GivesUnmapped all.tables.root c (ideograph_weight (ideographs_of first said) c)
