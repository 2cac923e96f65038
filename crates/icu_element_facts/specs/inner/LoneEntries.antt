-- Entries that give the same wherever their characters stand, whether digits are read as numbers or not.
use Rattle.std.specs.Prelude.{◌≡◌, ◌<◌, ◌+◌, ◌*◌, ℕ, Bool, true, false, not, ◌&&◌, List, slice_index, slice_index_or}
use Rattle.icu_table_entries.specs.declared.entry.EntryKind.{EntryKind}
use Rattle.icu_table_entries.specs.Entries.{kind_of}
use Rattle.icu_element_reading.specs.TextElements.{is_digit_kind}
use Rattle.icu_element_reading.specs.boundaries.Alone.{names_no_context}

-- the kind names no context, and is no digit's
abbrev pub is_lone_kind : EntryKind → Bool
is_lone_kind k = names_no_context k && not (is_digit_kind k)

-- where a block that is stored counts as such, all of its entries are
abbrev pub LoneStored : List Bool → List ℕ → Type 0
LoneStored stored values =
    (block k : ℕ) → slice_index_or stored block false ≡ true → k < 64 → is_lone_kind (kind_of (slice_index values (64 * block + k))) ≡ true
