use Rattle.std.proofs.Common.{◌≡◌, ◌++◌}
use Rattle.unicode_segmentation.specs.Word.{word_bounds}
use Rattle.unicode_segmentation.specs.Segments.{with_offsets}
use Rattle.unicode_segmentation.specs.Iter.{word_bound_indices_left}
use Rattle.icu_search_places.proofs.indexed_text.UnitOffsetLemmas.{starts}
use Rattle.icu_search_places.proofs.indexed_text.text_bounds.word_bounds.Given as goal

-- the offsets so far, and those of the pieces that come
abbrev pub invariant-pieces : goal.invariant-pieces
invariant-pieces l = l.bounds.items ++ starts (word_bound_indices_left l.pieces) ≡ starts (with_offsets 0 (word_bounds l.text))
