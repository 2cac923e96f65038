-- What was taken in of the lines so far.
use Rattle.std.specs.Prelude.{◌≡◌, ℕ, ◌<◌, List, [], ◌∷◌, ◌++◌, Some, None}
use Rattle.icu_table_entries.specs.Elements.{Element}
use Rattle.icu_table_provider.specs.builder.Building.{built_data}
use Rattle.icu_table_mappings.specs.Given.{Spells}
use Rattle.icu_cldr_root.specs.IdeographOrder.{ideographs_of}
use Rattle.icu_cldr_root.specs.Ideographs.{primary_in}
use Rattle.icu_cldr_root.specs.LineElements.{AreSaid}
use Rattle.std.specs.Char.{IsScalar}
use Rattle.std.specs.List.{AllByRecursion, AllZip}
use Rattle.icu_table_provider.specs.CollatorTables.{CollatorTables}
use Rattle.icu_cldr_root.specs.FileFacts.{SaysFacts}
use Rattle.icu_cldr_root.specs.FileRoots.{GivesMapping}
use Rattle.icu_cldr_root.specs.FileLines.{AreLines}
use Rattle.icu_cldr_root.specs.WrittenLines.{LineSays}
use Rattle.icu_cldr_root.specs.inner.LineEntries.{HasEntry, EntriesGrow, entry_around}
use Rattle.icu_cldr_root.specs.inner.SpecialParts.{AddsSpecial, HasSpecials}
use Rattle.icu_table_mappings.specs.GrownLists.{HasMoreLists}
use Rattle.icu_cldr_root.specs.inner.TakenCharacters.{KeepsUnmapped, MapsOnly}
use Rattle.icu_cldr_root.specs.inner.WeightedRanges.{AddsIdeographs, HasIdeographs}
use Rattle.icu_cldr_root.specs.declared.collected.Collected.{Collected}
use Rattle.icu_cldr_root.specs.declared.file_facts.FileFacts.{FileFacts}
use Rattle.icu_cldr_root.specs.declared.ideographs.CharRange.{CharRange}
use Rattle.icu_cldr_root.specs.declared.line.Line.{Line}
use Rattle.icu_cldr_root.specs.declared.line.Line.TheVariants as says
use Rattle.icu_cldr_root.specs.declared.mapping.Mapping.{Mapping}

-- the characters of a mapping have an entry that spells its elements
abbrev pub HasMapping : Collected → Mapping → Type 0
HasMapping c m = (elements : List Element) × (e : ℕ)
    × AreSaid (primary_in c.ideographs) m.elements.items elements × Spells (built_data c.builder) e elements
    × HasEntry c.entries c.contexts m e

-- what a line says was taken in
abbrev pub HasSaid : Collected → Line → Type 0
HasSaid c (says.Mapping m) = HasMapping c m
HasSaid c _ = Unit {0}

-- what a line says of its file was added
abbrev pub AddsFacts : FileFacts → FileFacts → Line → Type 0
AddsFacts old new (says.Version version) =
    (new.version ≡ Some version) × (new.fixed.items ≡ old.fixed.items) × (new.reserved.items ≡ old.reserved.items)
AddsFacts old new (says.Fixed f) =
    (new.version ≡ old.version) × (new.fixed.items ≡ old.fixed.items ++ f ∷ []) × (new.reserved.items ≡ old.reserved.items)
AddsFacts old new (says.Reserved r) =
    (new.version ≡ old.version) × (new.fixed.items ≡ old.fixed.items) × (new.reserved.items ≡ old.reserved.items ++ r ∷ [])
AddsFacts old new _ = new ≡ old

-- a line was taken in: what it says
abbrev pub IsTaken : List CharRange → Collected → Collected → List ℕ → Type 0
IsTaken first old new line = (said : Line) × LineSays line said × HasSaid new said × AddsIdeographs first old.ideographs new.ideographs said
    × AddsSpecial old.special new.special said × KeepsUnmapped old new said × AddsFacts old.facts new.facts said

-- what was taken in stays
pub record Grows (old new : Collected) : Type 0 where
  pub builder : HasMoreLists (built_data old.builder) (built_data new.builder)
  pub entries : EntriesGrow old.entries old.contexts new.entries new.contexts
  pub ideographs : (c p : ℕ) → primary_in old.ideographs c ≡ Some p → primary_in new.ideographs c ≡ Some p

-- nothing was taken in between no characters
abbrev pub HasNothing : Collected → Type 0
HasNothing c = (x : ℕ) → entry_around c.contexts x [] [] ≡ None

-- what lines say was taken in
abbrev pub TakesLines : List CharRange → Collected → List (List ℕ) → List Line → Type 0
TakesLines first c lines said =
    AllZip LineSays lines said × AllByRecursion (HasSaid c) said × HasIdeographs c.ideographs (ideographs_of first said)
    × HasSpecials c.special said × MapsOnly c said × SaysFacts c.facts said

-- what each line of a file says was taken in
abbrev pub TakesFile : List CharRange → Collected → List ℕ → Type 0
TakesFile first c bytes = (lines : List (List ℕ)) × (said : List Line) × AreLines bytes lines × TakesLines first c lines said

-- the tables give each mapping that was taken in
abbrev pub KeepsMappings : Collected → CollatorTables → Type 0
KeepsMappings c all = HasNothing c → (m : Mapping) → IsScalar m.first → HasMapping c m
    → GivesMapping (primary_in c.ideographs) all.tables.root m

-- a number is 0 where there are no lines, and only there
abbrev pub CountsSome : ℕ → List (List ℕ) → Type 0
CountsSome number [] = number ≡ 0
CountsSome number (line ∷ lines) = 0 < number
