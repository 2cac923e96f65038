use Rattle.std.proofs.Common.{sym}
use Rattle.std.proofs.lemmas.Bool.{or_left}
use Rattle.icu_element_reading.specs.Reading.{element_tables}
use Rattle.icu_element_reading.specs.TextElements.{begins_with_mark}
use Rattle.icu_element_reading.specs.inner.ReadsAhead.{has_run_end}
use Rattle.icu_element_matches.specs.Texts.{still_unread}
use Rattle.icu_element_reading.proofs.EnoughLemmas.{begins_with_mark-at}
use Rattle.icu_element_reading.proofs.reader.ahead.stops_run.Goals as goal

pub returns-in-None : goal.returns-in-None
returns-in-None c =
    let text = still_unread c.args.text.now in
    sym (or_left (begins_with_mark text) (has_run_end (element_tables c.args.tables) text) (begins_with_mark-at text c.in-None.ensures))
