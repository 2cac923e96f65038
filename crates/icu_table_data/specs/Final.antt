-- The elements of a final entry: one that needs no other text (UTS #10, "Expansions").
use Rattle.std.specs.Prelude.{ℕ, List, [], ◌∷◌, length, take, drop, map, filter, flat_map, if◌then◌else◌}
use Rattle.icu_table_entries.specs.Elements.{Element, of_primary}
use Rattle.icu_table_entries.specs.declared.entry.EntryKind.TheVariants.{Expansion32, Expansion, Offset, Implicit}
use Rattle.icu_table_entries.specs.Entries.{kind_of, list_length, entry_index, self_contained}
use Rattle.icu_table_entries.specs.Weights.{implicit_weight, offset_element}
use Rattle.icu_table_entries.specs.EntryConditions.{is_listed, has_offset_weight}
use Rattle.icu_table_data.specs.Data.{HomedEntry, found_data}

-- the part of a list that an entry refers to; none of one that runs past its end
abbrev pub listed : {A : Type 0} → ℕ → List A → List A
listed e xs = if is_listed e (length xs) then take (list_length e) (drop (entry_index e) xs) else []

-- the elements that a final entry gives for a character (UTS #10, "Expansions"); any other entry has none, nor has an
-- offset entry by whose data the character has no weight
unfoldable pub final_elements : HomedEntry → ℕ → List Element
final_elements h c =
    elim (kind_of h.entry) [
      | Expansion32 ↦ flat_map self_contained (listed h.entry h.home.entries)
      | Expansion ↦ listed h.entry h.home.elements
      | Offset ↦ map (λ d. offset_element d c) (filter (λ d. has_offset_weight d c) (found_data h.home h.entry))
      | Implicit ↦ of_primary (implicit_weight c) ∷ []
      | _ ↦ self_contained h.entry
    ]
