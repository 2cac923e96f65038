-- All elements stay.
use Rattle.std.proofs.Common.{List, ◌∙◌, map, sym, ap}
use Rattle.unicode_normalization.specs.Forms.{nfd}
use Rattle.icu_table_entries.specs.Elements.{Element}
use Rattle.icu_element_reading.specs.TextElements.{Reading, elements_of}
use Rattle.icu_order_texts.specs.weighting.Forms.{last_variable_by}
use Rattle.icu_order_texts.specs.weighting.Handled.{stayed}
use Rattle.icu_order_texts.specs.TextOrder.{reading_by}
use Rattle.icu_collator.specs.Collators.{collation_borrowed}
use Rattle.icu_collator.proofs.OrdersInTurn.{all_stay}
use Rattle.icu_collator.proofs.collator.CollatorBorrowed.plain_text.Goals as goal

pub returns : goal.returns
returns g c =
    let collation = collation_borrowed c.args.self.now in
    let text = nfd (g.T.EncodedText.text c.args.text) in
    c.new-2.ensures
    ∙ ap (λ (es : List Element). map stayed es) (c.new.ensures ∙ ap (λ (r : Reading). elements_of r text) c.requires.reading)
    ∙ sym (all_stay collation.settings.alternate_handling (last_variable_by collation) (elements_of (reading_by collation) text) c.requires.plain)
