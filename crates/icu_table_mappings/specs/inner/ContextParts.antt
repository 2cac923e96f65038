-- Contexts of a character while they are put together.
use Rattle.std.specs.Prelude.{◌≡◌, ℕ, ◌<◌, List, [], ◌∷◌, Bool, false, ◌||◌, Option, Some, None, if◌then◌else◌, length, bytes_eq}
use Rattle.std.specs.Global.{Vec}
use Rattle.icu_table_data.specs.Data.{Mapping, Data, context_in}
use Rattle.icu_table_entries.specs.declared.entry.EntryKind.TheVariants.{Contraction}
use Rattle.icu_table_mappings.specs.Given.{LeadsJust, entry_in}
use Rattle.icu_table_mappings.specs.Surroundings.{Suffixes, Surroundings, entry_at, nearest}

-- the value at the last key that has these characters, or another one where none has them
unfoldable pub last_among : {X : Type 0} → List (Vec ℕ × X) → Option X → List ℕ → Option X
last_among [] other chars = other
last_among (e ∷ es) other chars = last_among es (if bytes_eq e.0.items chars then Some e.1 else other) chars

-- the mappings of a context in which characters have these entries: those of some characters
unfoldable pub mappings_by : List (Vec ℕ × ℕ) → List Mapping
mappings_by [] = []
mappings_by (e ∷ es) = elim e.0.items [ [] ↦ mappings_by es | c ∷ cs ↦ record { chars = c ∷ cs; entry = e.1 } ∷ mappings_by es ]

-- one of the keys has these characters
unfoldable pub is_among : List (Vec ℕ) → List ℕ → Bool
is_among [] chars = false
is_among (k ∷ ks) chars = bytes_eq k.items chars || is_among ks chars

-- behind these characters the entry comes to just that of the longest prefix, whatever follows
abbrev pub LeadsNearest : Surroundings → ℕ → Data → List ℕ → ℕ → Type 0
LeadsNearest all own d before e = LeadsJust Contraction d e (nearest all own before)

-- a context with just these entries was added, which has the index, or none was needed: no characters but none have an
-- entry
abbrev pub AddsContext : Data → Suffixes → Option ℕ → Type 0
AddsContext new entries None = (c : ℕ) (cs : List ℕ) → entry_at entries (c ∷ cs) ≡ None
AddsContext new entries (Some index) =
    (index < length new.contexts)
    × ((chars : List ℕ) → entry_in (context_in new.contexts index) chars ≡ entry_at entries chars)
