use Rattle.std.proofs.Common.{option_to_list, map}
use Rattle.icu_table_entries.specs.Elements.{of_primary}
use Rattle.icu_element_matches.specs.steady_numbers.SteadyNumbers.{weights_left}
use Rattle.icu_element_cursor.specs.Cursors.{cursor_reading, gives_with}
use Rattle.icu_element_cursor.specs.inner.ReadCharacters.{context_read}
use Rattle.icu_element_cursor.proofs.CursorLemmas.{number_read}
use Rattle.icu_element_cursor.proofs.cursor.ElementCursor+T.read_digits.Goals as goal

pub returns-clause-next : goal.returns-clause-next
unfolding gives_with
returns-clause-next g c =
    let read = c.in-Some-read_number.read in
    number_read (cursor_reading c.args.self.now.tables.now) _ (context_read c.args.self.now.recent) c.requires.nothing (g.T.EncodedText.text c.args.self.now.text) _
    (g.T.EncodedText.text read.1) (map of_primary (weights_left read.0)) (option_to_list c.begin_number.result) _ c.requires.text c.in-Some-read_number.ensures.piece c.begin_number.ensures
