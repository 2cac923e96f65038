use Rattle.std.proofs.Common.{option_to_list}
use Rattle.icu_element_facts.specs.FewElements.{few_elements}
use Rattle.icu_element_cursor.specs.Cursors.{cursor_reading, gives_with}
use Rattle.icu_element_cursor.proofs.CursorLemmas.{facts_begun}
use Rattle.icu_element_cursor.proofs.cursor.ElementCursor.read_few.Goals as goal

pub returns-clause-next : goal.returns-clause-next
unfolding gives_with
returns-clause-next g c =
    facts_begun (cursor_reading c.args.self.now.tables.now) _ _ c.requires.nothing c.args.c (few_elements c.args.few.now) _
    (g.T.EncodedText.text c.args.rest) _ (option_to_list c.begin_few.result) _ c.requires.text c.requires.stands c.begin_few.ensures c.push.ensures
