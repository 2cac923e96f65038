use Rattle.std.proofs.Common.{◌≡◌, [], ap, rules, arith, length}
use Rattle.icu_table_data.specs.Data.{Mapping}
use Rattle.icu_table_data.specs.StoredData.{found_context}
use Rattle.icu_element_matches.specs.Texts.{still_unread}
use Rattle.icu_element_reading.specs.inner.ReadsAhead.{IsBegun}
use Rattle.icu_element_reading.proofs.LoneStepLemmas.{direct_at_end, direct_apart, direct_behind, only_read, fits_inside}
use Rattle.icu_element_reading.proofs.ReadsAheadLemmas.{ReadsTo-weaker}
use Rattle.icu_element_reading.proofs.reader.lone_step.direct_match.Goals as goal

pub returns-then-is_empty-clause-text : goal.returns-then-is_empty-clause-text
returns-then-is_empty-clause-text g c =
    let text = still_unread c.read_first.new.text in
    let none : text ≡ [] = search rules in
    direct_at_end g.I.Iterator.next_gives (found_context c.args.context) _ c.read_first.new.source c.read_first.new.source _ text text c.requires.ascending c.in_ok-read_first.ensures.text none

pub returns-then-begins_apart-clause-text : goal.returns-then-begins_apart-clause-text
returns-then-begins_apart-clause-text g c =
    let text = still_unread c.read_first.new.text in
    let apart = c.if-begins_apart.true in
    direct_apart g.I.Iterator.next_gives (found_context c.args.context) _ c.read_first.new.source c.read_first.new.source _ text text c.in_ok-read_first.ensures.text
    (c.begins_apart.ensures.starter apart) (c.begins_apart.ensures.decided apart)

pub returns-in_default-clause-text : goal.returns-in_default-clause-text
returns-in_default-clause-text g c = ReadsTo-weaker g.I.Iterator.next_gives _ IsBegun _ _ _ _ (λ _. tt) c.in_ok-read_first.ensures.text

pub read_starter-requires-clause-inside : goal.read_starter-requires-clause-inside
read_starter-requires-clause-inside g c =
    let fits = fits_inside (found_context c.args.context) (still_unread c.read_first.new.text) c.in-Some.index c.in-Some.ensures.mapping in
    omega (arith, fits, ap (λ (m : Mapping). length m.chars) c.mapping_or_default.ensures)

pub returns-then-no_mark_at-clause-text : goal.returns-then-no_mark_at-clause-text
returns-then-no_mark_at-clause-text g c =
    direct_behind g.I.Iterator.next_gives (found_context c.args.context) _ c.read_first.new.source c.read_starter.new.source _ (still_unread c.read_first.new.text) (still_unread c.read_starter.new.text)
    c.in-Some.index _ (ap (λ (m : Mapping). length m.chars) c.mapping_or_default.ensures) c.in_ok-read_first.ensures.text c.in-Some.ensures.mapping c.in_ok-read_starter.ensures.text
    (c.no_mark_at.ensures c.if-no_mark_at.true)

pub returns-else-no_mark_at-clause-text : goal.returns-else-no_mark_at-clause-text
returns-else-no_mark_at-clause-text g c =
    only_read g.I.Iterator.next_gives (found_context c.args.context) _ c.read_first.new.source c.read_starter.new.source _ (still_unread c.read_first.new.text) (still_unread c.read_starter.new.text)
    _ c.in_ok-read_first.ensures.text c.in_ok-read_starter.ensures.text
