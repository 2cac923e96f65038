use Rattle.std.proofs.Common.{◌∙◌, ap, sym, refl}
use Rattle.unicode_normalization.specs.Order.{is_ordered}
use Rattle.unicode_normalization.proofs.OrderLemmas.{canonical_order-ordered}
use Rattle.icu_text_decomposition.proofs.short_text.array_text.ArrayText.put_in_order.Goals as goal

pub returns-then-are_all_in_order : goal.returns-then-are_all_in_order
returns-then-are_all_in_order g c = λ _.
    sym (canonical_order-ordered _ (ap is_ordered (sym c.as_slice.ensures) ∙ c.if-are_all_in_order.ensures refl))
