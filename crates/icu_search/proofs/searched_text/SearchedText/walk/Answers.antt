use Rattle.std.proofs.Common.{◌≡◌, ◌-◌, ◌<◌, length, refl, ap, ◌∙◌, arith}
use Rattle.std.proofs.lemmas.List.{length-drop}
use Rattle.icu_search_places.specs.place_reader.PlaceReaders.{chars_left}
use Rattle.icu_search.specs.SearchedTexts.{searched_in, text_searched}
use Rattle.icu_search.proofs.PartWalks.{along_begins, its_levels, walk_begins, walk_on, walk_matches, walk_stops, walk_ends, walks_along}
use Rattle.icu_search.proofs.searched_text.SearchedText.walk.Goals as goal

pub places-init : goal.places-init
places-init g c =
    let s = searched_in c.args.self.now in
    let text = text_searched c.args.self.now in
    let left : length (chars_left c.args.places) ≡ length text - c.args.start = ap length c.requires.left ∙ length-drop c.args.start text in
    record {
      can = c.requires.can;
      ordered = omega arith;
      within = omega (arith, left, c.requires.within);
      reading = c.requires.reading;
      walked = λ h not. walk_begins s text c.args.start g.I.Iterator.next_gives c.args.places h c.requires.left not;
      along = λ h not. along_begins s text c.args.start c.levels-levels.result c.args.start (c.levels-levels.ensures s refl refl);
    }

pub returns-in-Matches : goal.returns-in-Matches
returns-in-Matches g c = λ h first allowed not.
    let s = searched_in c.args.self.now in
    let told = rw c.in-Matches.is at c.in_ok-told.ensures in
    let w = c.places.invariant.walked h not in
    let passed = rw c.in-Some.is at (c.in_ok-here.ensures.step w.front w.passed) in
    walk_matches s (text_searched c.args.self.now) c.args.start g.I.Iterator.next_gives c.places.places c.next.new.self c.places.stop c.in-Some.here w c.places.invariant.reading passed
    first allowed told.0 told.1

pub returns-in-Ends : goal.returns-in-Ends
returns-in-Ends g c = λ h first allowed not.
    let s = searched_in c.args.self.now in
    let text = text_searched c.args.self.now in
    let w = c.places.invariant.walked h not in
    let passed = rw c.in-Some.is at (c.in_ok-here.ensures.step w.front w.passed) in
    let told = rw c.in-Ends.is at c.in_ok-told.ensures in
    let at = its_levels s text c.args.start g.I.Iterator.next_gives c.places.places c.next.new.self c.places.stop c.in-Some.here w c.places.invariant.reading passed
    c.places.levels c.advance.new.self c.elements.result.now (c.places.invariant.along h not) c.elements.ensures (c.advance.ensures.here s) (c.advance.ensures.other s) told.0 in
    walk_stops s text c.args.start g.I.Iterator.next_gives c.places.places c.next.new.self c.places.stop c.in-Some.here w c.places.invariant.reading passed told.0 (told.1 at)

pub places-preserved : goal.places-preserved
places-preserved g c =
    let s = searched_in c.args.self.now in
    let shorter : length (chars_left c.next.new.self) < length (chars_left c.places.places) = (rw c.in-Some.is at c.in_ok-here.ensures.shorter) refl in
    record {
      can = c.in_ok-here.ensures.again;
      ordered = omega (arith, c.places.invariant.ordered);
      within = omega (arith, c.places.invariant.within, shorter);
      reading = c.next.ensures.reading ∙ c.places.invariant.reading;
      walked = λ h not.
          let w = c.places.invariant.walked h not in
          let passed = rw c.in-Some.is at (c.in_ok-here.ensures.step w.front w.passed) in
          walk_on s (text_searched c.args.self.now) c.args.start g.I.Iterator.next_gives c.places.places c.next.new.self c.places.stop c.in-Some.here w c.places.invariant.reading passed
          (λ is. (rw c.in-GoesOn.is at c.in_ok-told.ensures) (its_levels s (text_searched c.args.self.now) c.args.start g.I.Iterator.next_gives c.places.places c.next.new.self c.places.stop c.in-Some.here w
          c.places.invariant.reading passed c.places.levels c.advance.new.self c.elements.result.now (c.places.invariant.along h not) c.elements.ensures (c.advance.ensures.here s) (c.advance.ensures.other s) is));
      along = λ h not.
          let w = c.places.invariant.walked h not in
          let passed = rw c.in-Some.is at (c.in_ok-here.ensures.step w.front w.passed) in
          walks_along s (text_searched c.args.self.now) c.args.start g.I.Iterator.next_gives c.places.places c.next.new.self c.places.stop c.in-Some.here w c.places.invariant.reading passed
          c.places.levels c.advance.new.self c.elements.result.now (c.places.invariant.along h not) c.elements.ensures (c.advance.ensures.here s) (c.advance.ensures.other s);
    }

pub returns : goal.returns
returns g c = λ h first allowed not.
    let s = searched_in c.args.self.now in
    let w = c.places.invariant.walked h not in
    walk_ends s (text_searched c.args.self.now) c.args.start g.I.Iterator.next_gives c.places.places c.places.stop w c.requires.within
    (rw c.in_default.is at (c.in_ok-here.ensures.step w.front w.passed))
