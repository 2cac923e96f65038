-- The dictionary order of the two keys is the order of the texts.
use Rattle.std.proofs.Common.{◌∙◌, sym}
use Rattle.icu_collator.specs.Collators.{collation_borrowed}
use Rattle.icu_collator.proofs.collator.CollatorBorrowed.order_encoded.Goals as goal

pub returns-clause-keys : goal.returns-clause-keys
returns-clause-keys g c =
    c.compare_past_beginning.ensures.order
    ∙ sym (c.keys_keep_text_order.ensures.order (collation_borrowed c.args.self.now) c.are_well_formed.ensures
    (g.L.EncodedText.text c.args.left) (g.R.EncodedText.text c.args.right) c.has_scalar_values.ensures c.has_scalar_values-2.ensures)
