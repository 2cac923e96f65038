use Rattle.std.proofs.Common.{◌≡◌, ◌++◌, drop, map}
use Rattle.icu_search_places.specs.indexed_text.OffsetSets.{has_offset}
use Rattle.icu_search_places.proofs.indexed_text.marked_offsets.offset_marks.Given as goal

-- the marks so far, and those of the offsets that come
abbrev pub invariant-loop-offset : goal.invariant-loop-offset
invariant-loop-offset l = l.marks.items ++ map (has_offset l.set) (drop l.offset-index l.offsets) ≡ map (has_offset l.set) l.offsets
