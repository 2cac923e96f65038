-- The primary level decides, or the levels after it in turn, or the characters.
use Rattle.std.proofs.Common.{◌∙◌, Ordering, ap, sym}
use Rattle.std.specs.Ordering.{ordering_then}
use Rattle.unicode_normalization.specs.Forms.{nfd}
use Rattle.icu_order_levels.specs.Keys.{characters_order}
use Rattle.icu_order_texts.specs.weighting.Forms.{form_by}
use Rattle.icu_order_texts.specs.TextOrder.{lists_by}
use Rattle.icu_collator.specs.Collators.{collation_borrowed}
use Rattle.icu_collator.proofs.InStepLemmas.{later_levels_decide, leading_decides}
use Rattle.icu_collator.proofs.OrdersInTurn.{ends, is_equal, is_unequal, order_in_two}
use Rattle.icu_collator.proofs.collator.CollatorBorrowed.compare_after_primaries.Goals as goal

pub returns-then-ne : goal.returns-then-ne
returns-then-ne g c =
    let collation = collation_borrowed c.args.self.now in
    let t = g.L.EncodedText.text c.args.left in
    let u = g.R.EncodedText.text c.args.right in
    ends _ _ _ _ c.ne.ensures c.if-ne.true (leading_decides collation (nfd t) (nfd u) _ c.requires (is_unequal _ _ c.ne.ensures c.if-ne.true))
    ∙ sym (order_in_two collation t u)

pub returns : goal.returns
returns g c =
    let collation = collation_borrowed c.args.self.now in
    let t = g.L.EncodedText.text c.args.left in
    let u = g.R.EncodedText.text c.args.right in
    let characters : Ordering = characters_order (form_by collation).identical (lists_by collation (nfd t)) (lists_by collation (nfd u)) in
    let tie = sym c.requires ∙ is_equal _ _ c.ne.ensures c.if-ne.false in
    c.then_characters.ensures
    ∙ ap (λ (o : Ordering). ordering_then o characters) (c.compare_later_levels.ensures ∙ later_levels_decide collation (nfd t) (nfd u) tie)
    ∙ sym (order_in_two collation t u)
