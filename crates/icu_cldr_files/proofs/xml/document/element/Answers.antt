use Rattle.std.proofs.Common.{◌≡◌, ◌<◌, List, ℕ, [], ◌++◌, length, subst, rules, arith, ap}
use Rattle.std.proofs.lemmas.List.{append-nil, length-map, nil_from_length}
use Rattle.std.proofs.lemmas.Bool.Decides.{nat_tests}
use Rattle.std.proofs.lemmas.Grind.{common_steps}
use denote.Ref.{Bor}
use Rattle.icu_cldr_files.specs.xml.XmlEvents.{AreElement, BeginWithStart, started_names}
use Rattle.icu_cldr_files.specs.xml.XmlMarkup.{TakesIn}
use Rattle.icu_cldr_files.proofs.xml.NestLemmas.{root_content, root_element, more_content, more_element}
use Rattle.icu_cldr_files.proofs.xml.document.element.Goals as goal

pub reading-init : goal.reading-init
reading-init c =
    let text = c.args.text.now in
    let rest = c.in_ok-root.root.now in
    let events = c.take_in.new.events.items in
    let names = started_names c.take_in.new.started.items in
    let taken : TakesIn text rest [] events [] names =
    subst (λ found. TakesIn text rest found events [] names) c.new-events.ensures.items
    (subst (λ found. TakesIn text rest c.new-events.result.items events (started_names found) names) c.new-started.ensures.items c.in_ok-root.ensures.taken) in
    let start : BeginWithStart events = search rules in
    record {
      content = root_content text rest events names taken;
      element = root_element text rest events names taken start;
      within = omega (arith, c.in_ok-root.ensures.shorter);
      utf8 = search rules;
    }

pub reading-preserved : goal.reading-preserved
reading-preserved c =
    let before = c.reading.events.items in
    let open_before = started_names c.reading.started.items in
    let events = c.take_in-in-reading.new.events.items in
    let names = started_names c.take_in-in-reading.new.started.items in
    let any : 0 < c.reading.started.len = first_of (search rules, grind (arith, nat_tests), grind (arith, common_steps)) in
    let items = length-map c.reading.started.items (λ (name : Bor (List ℕ)). name.now) in
    let some : 0 < length open_before = omega (arith, any, items, c.reading.started.ok.0) in
    record {
      content = more_content c.args.text.now c.reading.rest.now c.in_ok-next.next.now before events open_before names c.in_ok-next.ensures.taken c.reading.invariant.content;
      element = more_element c.reading.rest.now c.in_ok-next.next.now before events open_before names c.in_ok-next.ensures.taken some c.reading.invariant.element;
      within = omega (arith, c.in_ok-next.ensures.shorter, c.reading.invariant.within);
      utf8 = search rules;
    }

pub returns-clause-element : goal.returns-clause-element
returns-clause-element c =
    let none : c.reading.started.len ≡ 0 = first_of (search rules, grind (arith, nat_tests), grind (arith, common_steps)) in
    let empty = nil_from_length c.reading.started.items (omega (arith, none, c.reading.started.ok.0)) in
    subst (λ es. AreElement es) (append-nil c.reading.events.items) (c.reading.invariant.element [] (ap started_names empty))
