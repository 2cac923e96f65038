use Rattle.std.proofs.Common.{ℕ, List, IfOk, subst, rules}
use Rattle.unicode_normalization.proofs.IterLemmas.{Spells-slice}
use Rattle.icu_element_reading.specs.TextElements.{Reading}
use Rattle.icu_search_places.specs.place_reader.PlaceMarks.{MarksPlaces}
use Rattle.icu_search_places.specs.place_reader.PlaceReaders.{places_reading}
use Rattle.icu_search_places.proofs.place_reader.places.place_marks.Goals as goal

pub returns : goal.returns
returns c =
    let spelled = Spells-slice c.copied.result c.args.text.now (search rules) in
    let marked = c.marks_of.ensures (c.new.ensures.text spelled) in
    subst (λ (r : Reading). IfOk c.marks_of.result (λ marks. MarksPlaces r c.args.text.now marks.items)) c.new.ensures.reading
    (subst (λ (t : List ℕ). IfOk c.marks_of.result (λ marks. MarksPlaces (places_reading c.new.result) t marks.items)) c.new.ensures.left marked)
