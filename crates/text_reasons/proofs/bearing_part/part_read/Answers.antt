-- A character more is passed, and at a place the part before it is asked for its elements.
use Rattle.std.proofs.Common.{◌≡◌, ◌≤◌, ◌<◌, ◌∙◌, ℕ, List, [], true, false, ap, sym, arith, length, nat_le, rules}
use Rattle.std.proofs.lemmas.Bool.Decides.{nat_tests}
use Rattle.icu_search_places.specs.place_reader.PlaceReaders.{chars_left, elements_read, places_reading}
use Rattle.text_reasons.specs.BearingParts.{part_from}
use Rattle.text_reasons.proofs.BearingPartLemmas.{part_found, parts_go_on, parts_wait}
use Rattle.text_reasons.proofs.bearing_part.part_read.Goals as goal

pub returns-then-count-elements : goal.returns-then-count-elements
returns-then-count-elements g c = λ h.
    let steps = g.I.Iterator.next_gives in
    let n = c.args.count in
    let new = c.next.new.self in
    let m = c.characters.invariant.part h in
    let passed = rw c.in-Some.is at (c.in_ok-here.ensures.step m.front m.passed) in
    let read = ap length c.elements.ensures in
    let enough : n ≤ length (elements_read new) = omega (arith, read, c.if-count-elements.true) in
    let many : nat_le n (length (elements_read new)) ≡ true = grind (arith, nat_tests) in
    c.part_of.ensures
    ∙ part_found steps (places_reading c.args.places) c.args.text.now n c.characters.places new c.characters.start c.characters.passed c.in-Some.here m
    passed c.characters.invariant.reading c.if-here.true many

pub characters-preserved-then-here : goal.characters-preserved-then-here
characters-preserved-then-here g c = record {
  can = c.in_ok-here.ensures.again;
  reading = c.next.ensures.reading ∙ c.characters.invariant.reading;
  short = search rules;
  part = λ h.
      let steps = g.I.Iterator.next_gives in
      let n = c.args.count in
      let new = c.next.new.self in
      let m = c.characters.invariant.part h in
      let passed = rw c.in-Some.is at (c.in_ok-here.ensures.step m.front m.passed) in
      let read = ap length c.elements.ensures in
      let short : length (elements_read new) < n = omega (arith, read, c.if-count-elements.false) in
      let few : nat_le n (length (elements_read new)) ≡ false = grind (arith, nat_tests) in
      parts_go_on steps (places_reading c.args.places) c.args.text.now n c.characters.places new c.characters.start c.characters.passed c.in-Some.here m
      passed c.characters.invariant.reading c.if-here.true few;
}

pub characters-preserved : goal.characters-preserved
characters-preserved g c = record {
  can = c.in_ok-here.ensures.again;
  reading = c.next.ensures.reading ∙ c.characters.invariant.reading;
  short = search rules;
  part = λ h.
      let m = c.characters.invariant.part h in
      let passed = rw c.in-Some.is at (c.in_ok-here.ensures.step m.front m.passed) in
      parts_wait g.I.Iterator.next_gives (places_reading c.args.places) c.args.text.now c.args.count c.characters.places c.next.new.self
      c.characters.start c.characters.passed c.in-Some.here m passed c.characters.invariant.reading c.if-here.false;
}

pub returns : goal.returns
returns g c = λ h.
    let m = c.characters.invariant.part h in
    let none : chars_left c.characters.places ≡ [] = rw c.in_default.is at (c.in_ok-here.ensures.step m.front m.passed) in
    sym (ap (λ (l : List ℕ). part_from (places_reading c.args.places) c.args.text.now c.args.count c.characters.start c.characters.passed l) none) ∙ m.part
