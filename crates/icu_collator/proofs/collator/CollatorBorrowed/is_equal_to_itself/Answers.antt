-- One key.
use Rattle.std.proofs.Common.{refl}
use Rattle.icu_collator.specs.Collators.{collation_borrowed}
use Rattle.icu_collator.proofs.collator.CollatorBorrowed.is_equal_to_itself.Goals as goal

pub returns : goal.returns
returns g c =
    let text = g.T.EncodedText.text c.args.text in
    (c.keys_keep_text_order.ensures.same (collation_borrowed c.args.self.now) c.are_well_formed.ensures
    text text c.has_scalar_values.ensures c.has_scalar_values.ensures).1 refl
