-- The entries of single characters while tables are put together.
use Rattle.std.specs.Prelude.{ℕ, unwrap_or}
use Rattle.std.specs.BTreeMap.{BTreeMap, get}
use Rattle.std.specs.Ordering.{nat_cmp}
use Rattle.icu_table_entries.specs.EncodedEntries.{implicit_entry}

-- the entry of a character, which is implicit where no line maps the character
abbrev pub entry_of_char : BTreeMap ℕ ℕ → ℕ → ℕ
entry_of_char entries c = unwrap_or (get nat_cmp entries c) implicit_entry
