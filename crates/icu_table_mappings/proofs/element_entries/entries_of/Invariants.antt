use Rattle.std.proofs.Common.{◌≡◌, vec_len, take}
use Rattle.std.specs.List.{flat_map}
use Rattle.icu_table_entries.specs.Entries.{self_contained}
use Rattle.icu_table_mappings.proofs.element_entries.entries_of.Given as goal

-- an entry for each element so far, which has it
abbrev pub invariant-loop-element : goal.invariant-loop-element
invariant-loop-element l = record {
  count : vec_len l.entries ≡ l.element-index;
  spells : flat_map self_contained l.entries.items ≡ take l.element-index l.elements;
}
