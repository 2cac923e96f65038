use Rattle.std.proofs.Common.{List, ap, ◌++◌}
use Rattle.unicode_normalization.specs.Forms.{nfd}
use Rattle.icu_table_entries.specs.Elements.{Element}
use Rattle.icu_element_reading.specs.TextElements.{elements_after}
use Rattle.icu_element_cursor.specs.Cursors.{cursor_reading}
use Rattle.icu_element_cursor.specs.FactsCursors.{facts_give}
use Rattle.icu_element_cursor.proofs.facts_cursor.FactsCursor.new.Goals as goal

pub returns-clause-gives : goal.returns-clause-gives
unfolding facts_give
returns-clause-gives g c = λ before.
    ap (λ (es : List Element). es ++ elements_after (cursor_reading c.args.tables.now) before (nfd (g.T.EncodedText.text c.args.text))) c.none.ensures
