use Rattle.std.proofs.Common.{true, [], ◌∙◌}
use Rattle.icu_search_places.specs.place_reader.PlaceReaders.{chars_left, places_reading}
use Rattle.icu_search_places.proofs.place_reader.PlaceMarkLemmas.{marks_go_on, marks_end}
use Rattle.icu_search_places.proofs.place_reader.places.marks_of.Goals as goal

pub offsets-preserved : goal.offsets-preserved
offsets-preserved g c = record {
  can = c.in_ok-here.ensures.again;
  reading = c.next.ensures.reading ∙ c.offsets.invariant.reading;
  marks = λ h.
      let m = c.offsets.invariant.marks h in
      let passed = rw c.in-Some.is at (c.in_ok-here.ensures.step m.front m.passed) in
      marks_go_on g.I.Iterator.next_gives (places_reading c.args.places) (chars_left c.args.places) c.offsets.places c.next.new.self c.offsets.marks.items c.push-in-Some.new.self.items c.in-Some.here m passed
      c.offsets.invariant.reading c.in_ok-push-2.ensures.items;
}

pub returns : goal.returns
returns g c = λ h.
    let m = c.offsets.invariant.marks h in
    marks_end g.I.Iterator.next_gives (places_reading c.args.places) (chars_left c.args.places) c.offsets.places c.offsets.places c.offsets.marks.items [] true m (rw c.in_default.is at (c.in_ok-here.ensures.step m.front m.passed))
