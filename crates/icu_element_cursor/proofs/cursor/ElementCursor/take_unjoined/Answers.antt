-- What it gives at the end of a text it gives here.
use Rattle.std.proofs.Common.{[], rules}
use Rattle.icu_element_facts.specs.Followers.{HasNoBit}
use Rattle.icu_element_facts.specs.KeptFacts.{char_elements}
use Rattle.icu_element_cursor.specs.Cursors.{cursor_reading}
use Rattle.icu_element_cursor.proofs.UnjoinedLemmas.{ended_before}
use Rattle.icu_element_cursor.proofs.cursor.ElementCursor.take_unjoined.Goals as goal

pub take_alone-requires-clause-stands : goal.take_alone-requires-clause-stands
take_alone-requires-clause-stands g c =
    c.is_unjoined.ensures (search rules) (char_elements c.args.facts.now) (c.requires.facts.base c.requires.base [] (ended_before (cursor_reading c.args.self.now.tables.now) (HasNoBit c.args.facts.now.followers) c.args.facts.now.class))
