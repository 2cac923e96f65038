use Rattle.std.proofs.Common.{◌≡◌, length, map}
use Rattle.unicode_normalization.specs.Forms.{nfd}
use Rattle.icu_order_levels.specs.ListOrder.{list_order}
use Rattle.icu_order_levels.specs.Identical.{identical_rank}
use Rattle.icu_collator.proofs.identical_level.compare_characters.Given as goal

-- what is left orders as the whole
abbrev pub invariant-pairs : goal.invariant-pairs
invariant-pairs g l =
    list_order (map identical_rank l.left) (map identical_rank l.right)
    ≡ list_order (map identical_rank (nfd (g.L.EncodedText.text l.fn.left))) (map identical_rank (nfd (g.R.EncodedText.text l.fn.right)))

abbrev pub decreases-pairs : goal.decreases-pairs
decreases-pairs g l = length l.left
