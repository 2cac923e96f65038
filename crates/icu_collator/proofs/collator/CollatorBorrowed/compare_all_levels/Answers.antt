-- The order of the elements decides, or the characters do.
use Rattle.std.proofs.Common.{◌∙◌, Ordering, ap, sym}
use Rattle.std.specs.Ordering.{ordering_then}
use Rattle.unicode_normalization.specs.Forms.{nfd}
use Rattle.icu_order_levels.specs.Keys.{characters_order}
use Rattle.icu_order_texts.specs.weighting.Forms.{form_by}
use Rattle.icu_order_texts.specs.TextOrder.{lists_by}
use Rattle.icu_collator.specs.Collators.{collation_borrowed}
use Rattle.icu_collator.proofs.OrdersInTurn.{order_in_two}
use Rattle.icu_collator.proofs.collator.CollatorBorrowed.compare_all_levels.Goals as goal

pub returns : goal.returns
returns g c =
    let collation = collation_borrowed c.args.self.now in
    let t = g.L.EncodedText.text c.args.left in
    let u = g.R.EncodedText.text c.args.right in
    let characters : Ordering = characters_order (form_by collation).identical (lists_by collation (nfd t)) (lists_by collation (nfd u)) in
    c.then_characters.ensures ∙ ap (λ (o : Ordering). ordering_then o characters) c.compare_element_levels.ensures ∙ sym (order_in_two collation t u)
