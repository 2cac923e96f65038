-- Entries that a walk remembers.
use Rattle.std.specs.Prelude.{ℕ, ◌≡◌, ◌⊎◌, ◌/◌, ◌%◌, Option, Some, List, slice_index}
use Rattle.std.specs.Int.{bit_at}
use Rattle.std.specs.List.{Contains}
use Rattle.icu_table_entries.specs.declared.entry.EntryKind.{EntryKind}
use Rattle.icu_table_entries.specs.declared.entry.EntryKind.TheVariants.{Prefix, Contraction}
use Rattle.icu_table_entries.specs.Entries.{kind_of, entry_index}
use Rattle.icu_table_data.specs.declared.visited_entries.VisitedEntries.{VisitedEntries}

-- the bit of an index is set in these words of 64 bits
abbrev pub IsMarked : List ℕ → ℕ → Type 0
IsMarked words i = bit_at (slice_index words (i / 64)) (i % 64) ≡ 1

-- the entry is of this kind, and the context that it refers to is marked
pub record IsMarkedAs (kind : EntryKind) (words : List ℕ) (e : ℕ) : Type 0 where
  pub of_kind : kind_of e ≡ kind
  pub marked : IsMarked words (entry_index e)

-- the entry is among those that are remembered, or refers to a context that is marked for its kind
abbrev pub IsRememberedBy : List (Option ℕ) → List ℕ → List ℕ → ℕ → Type 0
IsRememberedBy entries prefixes contractions e =
    Contains entries (Some e) ⊎ (IsMarkedAs Prefix prefixes e ⊎ IsMarkedAs Contraction contractions e)

-- a walk remembers the entry
abbrev pub IsRemembered : VisitedEntries → ℕ → Type 0
IsRemembered v e = IsRememberedBy v.placed.entries v.prefixes.words v.contractions.words e
