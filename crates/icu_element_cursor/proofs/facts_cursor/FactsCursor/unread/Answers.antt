-- Nothing stands ready.
use Rattle.std.proofs.Common.{◌++◌, List, ap}
use Rattle.unicode_normalization.specs.Forms.{nfd}
use Rattle.icu_table_entries.specs.Elements.{Element}
use Rattle.icu_element_reading.specs.TextElements.{elements_after}
use Rattle.icu_element_cursor.specs.FactsCursors.{facts_give, facts_reading}
use Rattle.icu_element_cursor.proofs.facts_cursor.FactsCursor.unread.Goals as goal

pub returns-then-is_empty : goal.returns-then-is_empty
unfolding facts_give
returns-then-is_empty g c = λ before.
    let self = c.args.self.now in
    ap (λ (es : List Element). es ++ elements_after (facts_reading self) before (nfd (g.T.EncodedText.text self.text))) (c.is_empty.ensures c.if-is_empty.true)
