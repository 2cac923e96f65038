-- Entries that an entry leads to, whose conditions are met.
use Rattle.std.specs.Prelude.{ℕ, List}
use Rattle.std.specs.List.{AllByRecursion}
use Rattle.icu_table_data.specs.Data.{Mapping, Data}
use Rattle.icu_table_data.specs.Reachable.{reachable_contraction}
use Rattle.icu_element_matches.specs.WellFormedEntries.{MeetAll, IsWellFormedMatch}

-- an entry that a prefix leads to meets each condition with the character, and so does what it leads to
abbrev pub IsWellFormedContraction : Data → ℕ → ℕ → Type 0
IsWellFormedContraction home c e = MeetAll home c (reachable_contraction home e)

-- so does the entry of each mapping of a contraction
abbrev pub AreWellFormedMatches : Data → ℕ → List Mapping → Type 0
AreWellFormedMatches home c mappings = AllByRecursion (λ (m : Mapping). IsWellFormedMatch home c m.entry) mappings

-- so does the entry of each mapping of a prefix
abbrev pub AreWellFormedContractions : Data → ℕ → List Mapping → Type 0
AreWellFormedContractions home c mappings = AllByRecursion (λ (m : Mapping). IsWellFormedContraction home c m.entry) mappings
