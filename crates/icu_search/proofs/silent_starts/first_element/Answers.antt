use Rattle.std.proofs.Common.{◌≡◌, List, ◌∷◌, ◌++◌, Option, sym, ap, ◌∙◌}
use Rattle.std.specs.Prelude.{IfSome, option_to_list}
use Rattle.unicode_normalization.specs.Forms.{nfd}
use Rattle.icu_table_entries.specs.Elements.{Element}
use Rattle.icu_table_data.proofs.ViolationLemmas.{weaker_some}
use Rattle.icu_collator.specs.Collators.{collation_borrowed}
use Rattle.icu_element_cursor.specs.Cursors.{cursor_gives}
use Rattle.icu_element_reading.specs.TextElements.{Reading, elements_of}
use Rattle.icu_order_texts.specs.TextOrder.{reading_by}
use Rattle.icu_search.specs.inner.SilentTexts.{HasFirstElement}
use Rattle.icu_search.proofs.NoneReadLemmas.{first_of_all}
use Rattle.icu_search.proofs.silent_starts.first_element.Goals as goal

pub returns : goal.returns
returns c =
    let text = c.args.text.now in
    let read = c.new-cursor.ensures ∙ ap (λ (r : Reading). elements_of r (nfd text)) c.cursor_tables-tables.ensures in
    first_of_all (reading_by (collation_borrowed c.args.collator.now)) text c.in_ok-next.next (cursor_gives (λ t. t.0.now) c.next_or_end.new.cursor) (sym read ∙ c.in_ok-next.ensures.next)
