use Rattle.std.proofs.Common.{subst, rules}
use Rattle.icu_table_data.specs.StoredData.{found_context}
use Rattle.icu_element_reading.specs.TextElements.{Reading}
use Rattle.icu_element_facts.specs.Followers.{BeginsContractions}
use Rattle.icu_element_cursor.specs.Cursors.{cursor_reading}
use Rattle.icu_element_cursor.proofs.StandLemmas.{cut_stands}
use Rattle.icu_element_cursor.proofs.UnjoinedLemmas.{unjoined_stands}
use Rattle.icu_element_cursor.proofs.unjoined.is_unjoined.Goals as goal

pub returns-in-Some : goal.returns-in-Some
returns-in-Some g c = λ yes es stands.
    let reading = cursor_reading c.args.tables.now in
    let context = found_context c.in-Some.context in
    let h = c.joins_none.ensures yes in
    let begins = subst (λ (r : Reading). BeginsContractions r c.args.c context) c.places.ensures c.in-Some.ensures.begins in
    cut_stands reading c.args.c es (g.T.EncodedText.text c.args.text) h.front h.rest h.parts h.boundary
    (unjoined_stands reading c.args.c context begins (search rules) h.front 0 h.unjoined es stands)
