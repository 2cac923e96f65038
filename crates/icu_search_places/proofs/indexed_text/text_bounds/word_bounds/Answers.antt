use Rattle.std.proofs.Common.{rules, ◌≡◌, ◌++◌, ◌∷◌, [], ℕ, List, length, refl, ap, ◌∙◌}
use Rattle.unicode_segmentation.specs.Word.{word_bounds, is_word_break}
use Rattle.unicode_segmentation.specs.Iter.{word_bound_indices_left}
use Rattle.unicode_segmentation.proofs.SegmentsLemmas.{concat-segments}
use Rattle.icu_search_places.proofs.indexed_text.UnitOffsetLemmas.{starts, one_start_more, all_starts}
use Rattle.icu_search_places.proofs.indexed_text.text_bounds.word_bounds.Goals as goal

pub pieces-init : goal.pieces-init
pieces-init c =
    let empty : c.new-bounds.result.items ≡ [] = search rules in
    ap (λ (b : List ℕ). b ++ starts (word_bound_indices_left c.split_word_bound_indices-pieces.result)) empty ∙ ap starts c.split_word_bound_indices-pieces.ensures.left

pub pieces-preserved : goal.pieces-preserved
pieces-preserved c =
    let read : word_bound_indices_left c.pieces.pieces ≡ (c.in-Some.piece.0, c.in-Some.piece.1.now) ∷ word_bound_indices_left c.next.new.self = search rules in
    one_start_more c.pieces.bounds.items c.push.new.self.items (word_bound_indices_left c.pieces.pieces) (word_bound_indices_left c.next.new.self) _ c.in-Some.piece.0 c.in-Some.piece.1.now c.in_ok-push.ensures.items read c.pieces.invariant

pub returns : goal.returns
returns c =
    let text = c.args.text.now in
    let none : word_bound_indices_left c.pieces.pieces ≡ [] = search rules in
    all_starts c.pieces.bounds.items c.push-2.new.self.items (word_bound_indices_left c.pieces.pieces) (word_bounds text) (length text) (length text) c.in_ok-push-2.ensures.items none c.pieces.invariant
    refl (ap length (concat-segments is_word_break text c.utf8.text))
