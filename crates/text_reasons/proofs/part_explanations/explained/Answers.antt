-- A character more is passed, and at a place the part before it has its line.
use Rattle.std.proofs.Common.{◌≡◌, ◌∙◌, ◌+◌, ◌++◌, [], ap, drop, length, rules, subst, sym}
use Rattle.icu_search_places.specs.place_reader.PlaceReaders.{chars_left, elements_read, places_reading}
use Rattle.text_reasons.specs.Explanations.{part_line, part_of}
use Rattle.text_reasons.proofs.LineLemmas.{LinesPassed, lines_end, lines_go_on, lines_wait}
use Rattle.text_reasons.proofs.part_explanations.explained.Goals as goal

pub characters-preserved-then-here : goal.characters-preserved-then-here
characters-preserved-then-here g c = record {
  can = c.in_ok-here.ensures.again;
  reading = c.next.ensures.reading ∙ c.characters.invariant.reading;
  short = search rules;
  lines = λ h.
      let steps = g.I.Iterator.next_gives in
      let reading = places_reading c.args.places in
      let text = c.args.text.now in
      let old = c.characters.places in
      let new = c.next.new.self in
      let start = c.characters.start in
      let given = c.characters.given in
      let k = c.characters.passed in
      let output = c.characters.output.items in
      let m = c.characters.invariant.lines h in
      let passed = rw c.in-Some.is at (c.in_ok-here.ensures.step m.front m.passed) in
      let next = lines_go_on steps reading text old new start given k output c.in-Some.here m passed c.characters.invariant.reading c.if-here.true in
      let read : elements_read new ≡ c.elements-elements.result.now = sym c.elements-elements.ensures in
      let written : output ++ part_line (part_of text start (k + 1)) (drop given (elements_read new)) ≡ c.push_part_line.new.text.items =
      ap (λ p. output ++ part_line p (drop given (elements_read new))) (sym c.part_of.ensures)
      ∙ (ap (λ es. output ++ part_line c.part_of.result.now es) (ap (drop given) read ∙ sym c.elements_behind.ensures)
      ∙ sym c.in_ok-push_part_line.ensures) in
      subst (λ n. LinesPassed steps reading text new (k + 1) n (k + 1) c.push_part_line.new.text.items) (ap length read)
      (subst (λ o. LinesPassed steps reading text new (k + 1) (length (elements_read new)) (k + 1) o) written next);
}

pub characters-preserved : goal.characters-preserved
characters-preserved g c = record {
  can = c.in_ok-here.ensures.again;
  reading = c.next.ensures.reading ∙ c.characters.invariant.reading;
  short = search rules;
  lines = λ h.
      let m = c.characters.invariant.lines h in
      let passed = rw c.in-Some.is at (c.in_ok-here.ensures.step m.front m.passed) in
      lines_wait g.I.Iterator.next_gives (places_reading c.args.places) c.args.text.now c.characters.places c.next.new.self c.characters.start
      c.characters.given c.characters.passed c.characters.output.items c.in-Some.here m passed c.characters.invariant.reading c.if-here.false;
}

pub returns : goal.returns
returns g c = λ h.
    let m = c.characters.invariant.lines h in
    let none : chars_left c.characters.places ≡ [] = rw c.in_default.is at (c.in_ok-here.ensures.step m.front m.passed) in
    lines_end g.I.Iterator.next_gives (places_reading c.args.places) c.args.text.now c.characters.places c.characters.start
    c.characters.given c.characters.passed c.characters.output.items m none
