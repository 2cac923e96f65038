-- Texts of the same units are one text.
use Rattle.std.proofs.Common.{arith, ◌≡◌, ◌∙◌, ℕ, List, sym, ap}
use Rattle.icu_order_texts.specs.TextOrder.{text_order}
use Rattle.icu_collator.specs.Collators.{collation_borrowed}
use Rattle.icu_collator.proofs.collator.CollatorBorrowed.compare_past_beginning.Goals as goal

pub returns-then-common-unit_count-2-clause-order : goal.returns-then-common-unit_count-2-clause-order
returns-then-common-unit_count-2-clause-order g c =
    let collation = collation_borrowed c.args.self.now in
    let common = c.common_units-common.result in
    let left = g.L.EncodedText.text c.args.left in
    let right = g.R.EncodedText.text c.args.right in
    let same : left ≡ right =
    sym c.unit_count.ensures.whole
    ∙ ap (g.L.EncodedText.beginning c.args.left) (sym c.if-common-unit_count.true)
    ∙ c.common_units-common.ensures.beginnings common (omega arith)
    ∙ ap (g.R.EncodedText.beginning c.args.right) c.if-common-unit_count-2.true
    ∙ c.unit_count-then-common-unit_count.ensures.whole in
    sym c.is_equal_to_itself.ensures ∙ ap (λ (t : List ℕ). text_order collation left t) same
