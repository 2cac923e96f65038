-- Nothing stands ready.
use Rattle.std.proofs.Common.{◌++◌, List, ap}
use Rattle.unicode_normalization.specs.Forms.{nfd}
use Rattle.icu_table_entries.specs.Elements.{Element}
use Rattle.icu_element_reading.specs.TextElements.{elements_after}
use Rattle.icu_element_cursor.specs.FactsCursors.{facts_give, facts_reading}
use Rattle.icu_element_cursor.proofs.facts_cursor.FactsCursor.begin_text.Goals as goal

pub returns-clause-reads : goal.returns-clause-reads
unfolding facts_give
returns-clause-reads g c = λ before.
    ap (λ (es : List Element). es ++ elements_after (facts_reading c.args.self.now) before (nfd (g.T.EncodedText.text c.args.text))) c.none-self.ensures
