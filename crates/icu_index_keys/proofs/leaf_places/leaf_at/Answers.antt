use Rattle.std.proofs.Common.{◌∙◌, sym, ap}
use Rattle.icu_index_keys.proofs.LeafPlaceLemmas.{leaf_got, leaf_none}
use Rattle.icu_index_keys.proofs.leaf_places.leaf_at.Goals as goal

pub returns-then-index-leaves : goal.returns-then-index-leaves
returns-then-index-leaves c =
    c.as_slice.ensures.value
    ∙ (ap (λ l. l.items) c.index-leaves-index.is
    ∙ sym (leaf_got c.args.leaves.now c.args.index c.index-leaves-index.result c.if-index-leaves.true))

pub returns-else-index-leaves : goal.returns-else-index-leaves
returns-else-index-leaves c = sym (leaf_none c.args.leaves.now c.args.index c.if-index-leaves.false)
