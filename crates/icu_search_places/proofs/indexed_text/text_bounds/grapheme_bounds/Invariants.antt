use Rattle.std.proofs.Common.{◌≡◌, ◌++◌, true}
use Rattle.unicode_segmentation.specs.Grapheme.{graphemes}
use Rattle.unicode_segmentation.specs.Segments.{with_offsets}
use Rattle.unicode_segmentation.specs.Iter.{grapheme_indices_left}
use Rattle.icu_search_places.proofs.indexed_text.UnitOffsetLemmas.{starts}
use Rattle.icu_search_places.proofs.indexed_text.text_bounds.grapheme_bounds.Given as goal

-- the offsets so far, and those of the pieces that come
abbrev pub invariant-clusters : goal.invariant-clusters
invariant-clusters l = l.bounds.items ++ starts (grapheme_indices_left l.clusters) ≡ starts (with_offsets 0 (graphemes true l.text))
