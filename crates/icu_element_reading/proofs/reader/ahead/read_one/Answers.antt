use Rattle.std.proofs.Common.{◌≡◌, ◌∷◌, ◌++◌, [], rules}
use Rattle.icu_element_matches.specs.Texts.{still_unread}
use Rattle.icu_element_reading.proofs.ReadsAheadLemmas.{one_came, none_came}
use Rattle.icu_element_reading.proofs.reader.ahead.read_one.Goals as goal

pub returns-in_default-clause-text : goal.returns-in_default-clause-text
returns-in_default-clause-text g c = none_came g.I.Iterator.next_gives _ _ _ (rw c.in_default.is at c.in_ok-c.ensures.gives)

pub returns-clause-text : goal.returns-clause-text
returns-clause-text g c =
    let pushed : still_unread c.push.new.self ≡ still_unread c.args.text.now ++ c.in-Some.c ∷ [] = search rules in
    one_came g.I.Iterator.next_gives _ _ _ _ _ pushed (rw c.in-Some.is at c.in_ok-c.ensures.gives)
