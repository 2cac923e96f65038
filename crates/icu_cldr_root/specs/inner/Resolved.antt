-- Characters that have contexts, and the entries that they have by them.
use Rattle.std.specs.Prelude.{◌≡◌, ℕ, List, Option, Some, None}
use Rattle.icu_table_data.specs.Data.{Data}
use Rattle.icu_table_mappings.specs.Given.{Gives}
use Rattle.icu_table_mappings.specs.Surroundings.{Surroundings, IsBehind, nearest}

-- the entry of a character comes to each of its entries by what stands around, and elsewhere to its own
abbrev pub GivesAll : Data → Surroundings → ℕ → ℕ → Type 0
GivesAll d all own e = (before after : List ℕ) (f : ℕ) → IsBehind all before → nearest all own before after ≡ Some f → Gives d e before after f

-- a character that has contexts has the entry that comes to all of them, and any other has what it had
abbrev pub IsResolved : Data → Option Surroundings → ℕ → Option ℕ → Option ℕ → Type 0
IsResolved d None own old new = new ≡ old
IsResolved d (Some all) own old new = (e : ℕ) × (new ≡ Some e) × GivesAll d all own e
