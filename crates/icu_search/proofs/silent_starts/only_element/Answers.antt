use Rattle.std.proofs.Common.{[], ◌∷◌, List, sym, ap, ◌∙◌}
use Rattle.unicode_normalization.specs.Forms.{nfd}
use Rattle.icu_table_entries.specs.Elements.{Element}
use Rattle.icu_element_reading.specs.TextElements.{Reading, elements_after}
use Rattle.icu_search.proofs.silent_starts.only_element.Goals as goal

pub returns-in-None : goal.returns-in-None
returns-in-None c =
    let text = c.args.text.now in
    let read = c.new-cursor.ensures.gives [] ∙ ap (λ (r : Reading). elements_after r [] (nfd text)) c.cursor_tables-tables.ensures in
    let given = (rw c.in_ok-element.was at c.in_ok-first.ensures).1 in
    let ended = (rw c.in-None.is at c.in_ok-second.ensures).1 in
    let first = given [] in
    sym read ∙ first.1 ∙ ap (λ (es : List Element). c.in_ok-element.element ∷ es) (ended first.0)
