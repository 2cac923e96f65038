use Rattle.std.proofs.Common.{◌≡◌, [], rules}
use Rattle.std.proofs.lemmas.Result.{IfOk-weaker}
use Rattle.icu_element_matches.specs.Texts.{still_unread}
use Rattle.icu_element_reading.proofs.StreamLemmas.{next_taken_off}
use Rattle.icu_element_reading.proofs.reader.stream.take_char.Goals as goal

pub returns-clause-text : goal.returns-clause-text
returns-clause-text g c =
    let nothing : still_unread c.args.text.now ≡ [] = search rules in
    let still : still_unread c.take_first.new.self ≡ [] = search rules in
    IfOk-weaker c.next.result _ _ (next_taken_off g.I.Iterator.next_gives _ _ _ _ nothing still) c.next.ensures.gives
