use Rattle.icu_element_cursor.specs.Cursors.{cursor_reading}
use Rattle.icu_element_cursor.proofs.unjoined.read_follower.Goals as goal

pub returns-in-Other : goal.returns-in-Other
returns-in-Other c = c.decomposed_follower.ensures (cursor_reading c.args.tables.now)
