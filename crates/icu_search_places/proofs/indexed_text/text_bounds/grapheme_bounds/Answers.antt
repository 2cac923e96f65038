use Rattle.std.proofs.Common.{rules, ◌≡◌, ◌++◌, ◌∷◌, [], ℕ, List, true, length, refl, ap, ◌∙◌}
use Rattle.unicode_segmentation.specs.Grapheme.{graphemes, is_grapheme_break}
use Rattle.unicode_segmentation.specs.Iter.{grapheme_indices_left}
use Rattle.unicode_segmentation.proofs.SegmentsLemmas.{concat-segments}
use Rattle.icu_search_places.proofs.indexed_text.UnitOffsetLemmas.{starts, one_start_more, all_starts}
use Rattle.icu_search_places.proofs.indexed_text.text_bounds.grapheme_bounds.Goals as goal

pub clusters-init : goal.clusters-init
clusters-init c =
    let empty : c.new-bounds.result.items ≡ [] = search rules in
    ap (λ (b : List ℕ). b ++ starts (grapheme_indices_left c.grapheme_indices-clusters.result)) empty ∙ ap starts c.grapheme_indices-clusters.ensures.left

pub clusters-preserved : goal.clusters-preserved
clusters-preserved c =
    let read : grapheme_indices_left c.clusters.clusters ≡ (c.in-Some.cluster.0, c.in-Some.cluster.1.now) ∷ grapheme_indices_left c.next.new.self = search rules in
    one_start_more c.clusters.bounds.items c.push.new.self.items (grapheme_indices_left c.clusters.clusters) (grapheme_indices_left c.next.new.self) _ c.in-Some.cluster.0 c.in-Some.cluster.1.now c.in_ok-push.ensures.items read c.clusters.invariant

pub returns : goal.returns
returns c =
    let text = c.args.text.now in
    let none : grapheme_indices_left c.clusters.clusters ≡ [] = search rules in
    all_starts c.clusters.bounds.items c.push-2.new.self.items (grapheme_indices_left c.clusters.clusters) (graphemes true text) (length text) (length text) c.in_ok-push-2.ensures.items none c.clusters.invariant
    refl (ap length (concat-segments (is_grapheme_break true) text c.utf8.text))
