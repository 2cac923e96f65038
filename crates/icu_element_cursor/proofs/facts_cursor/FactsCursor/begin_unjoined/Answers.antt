use Rattle.std.proofs.Common.{[], rules}
use Rattle.icu_element_facts.specs.Followers.{HasNoBit}
use Rattle.icu_element_facts.specs.KeptFacts.{char_elements}
use Rattle.icu_element_cursor.proofs.UnjoinedLemmas.{ended_before}
use Rattle.icu_element_cursor.specs.Cursors.{cursor_reading}
use Rattle.icu_element_cursor.specs.FactsCursors.{facts_give}
use Rattle.icu_element_cursor.proofs.CursorLemmas.{facts_goes_on}
use Rattle.icu_element_cursor.proofs.facts_cursor.FactsCursor.begin_unjoined.Goals as goal

pub returns : goal.returns
unfolding facts_give
returns g c =
    let own = char_elements c.args.facts.now in
    facts_goes_on (cursor_reading c.args.self.now.tables.now) _ _ c.args.c own _ (g.T.EncodedText.text c.args.rest) c.begin.result
    c.requires.nothing c.requires.text (c.is_unjoined.ensures (search rules) own (c.requires.facts.base c.requires.base [] (ended_before (cursor_reading c.args.self.now.tables.now) (HasNoBit c.args.facts.now.followers) c.args.facts.now.class))) c.begin.ensures
