use Rattle.std.proofs.Common.{refl}
use Rattle.icu_table_data.specs.StoredData.{found_context, found_mapping}
use Rattle.icu_element_matches.specs.Texts.{still_unread}
use Rattle.icu_element_reading.specs.LastChars.{recent_chars}
use Rattle.icu_element_reading.proofs.LoneStepLemmas.{taken_direct, read_for_direct}
use Rattle.icu_element_reading.proofs.reader.lone_step.take_direct.Goals as goal

pub returns-in_default-own_element-clause-text : goal.returns-in_default-own_element-clause-text
returns-in_default-own_element-clause-text g c =
    let direct = rw c.in-Some.is at c.in_ok-index.ensures.text in
    read_for_direct g.I.Iterator.next_gives (found_context c.args.context) _ c.direct_match.new.source _ (still_unread c.direct_match.new.text) c.in-Some.index direct

pub returns-clause-text : goal.returns-clause-text
returns-clause-text g c =
    let direct = rw c.in-Some.is at c.in_ok-index.ensures.text in
    taken_direct g.I.Iterator.next_gives (found_context c.args.context) _ c.direct_match.new.source _ (still_unread c.direct_match.new.text) c.in-Some.index direct
    c.args.c (recent_chars c.args.recent.now) _ _ (found_mapping c.mapping_or_default-found.result) _ c.own_element.result c.in-Some-own_element.element
    c.mapping_or_default-found.ensures refl c.in-Some-own_element.is c.own_element.ensures c.skip.ensures c.push_with.ensures
