-- Primaries that differ decide, and those that tie leave it to the levels after them.
use Rattle.std.proofs.Common.{◌≡◌, ◌∙◌}
use Rattle.unicode_normalization.specs.Forms.{nfd}
use Rattle.icu_collator.specs.Collators.{collation_borrowed}
use Rattle.icu_collator.specs.inner.ElementOrders.{before_characters, elements_order, leading_order, later_levels_order}
use Rattle.icu_collator.specs.inner.InStep.{order_on}
use Rattle.icu_collator.proofs.OrdersInTurn.{ends, goes_on}
use Rattle.icu_collator.proofs.collator.CollatorBorrowed.compare_steady_elements.Goals as goal

pub returns-then-ne : goal.returns-then-ne
unfolding order_on leading_order later_levels_order elements_order before_characters
returns-then-ne g c =
    let collation = collation_borrowed c.args.self.now in
    let t = nfd (g.L.EncodedText.text c.args.left) in
    let u = nfd (g.R.EncodedText.text c.args.right) in
    let leads : c.compare_steady_level-order.result ≡ leading_order collation t u = c.compare_steady_level-order.ensures ∙ c.primary_level.ensures t u in
    ends _ (leading_order collation t u) (later_levels_order collation t u) _ c.ne.ensures c.if-ne.true leads

pub returns : goal.returns
unfolding order_on leading_order later_levels_order elements_order before_characters
returns g c =
    let collation = collation_borrowed c.args.self.now in
    let t = nfd (g.L.EncodedText.text c.args.left) in
    let u = nfd (g.R.EncodedText.text c.args.right) in
    let leads : c.compare_steady_level-order.result ≡ leading_order collation t u = c.compare_steady_level-order.ensures ∙ c.primary_level.ensures t u in
    goes_on _ (leading_order collation t u) (later_levels_order collation t u) _ _ c.ne.ensures c.if-ne.false leads c.compare_later_levels.ensures
