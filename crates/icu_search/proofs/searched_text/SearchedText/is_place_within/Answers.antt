use Rattle.std.proofs.Common.{◌≡◌, ℕ, ◌-◌, ◌≤◌, List, length, drop, sym, subst, ◌∙◌, arith}
use Rattle.std.specs.Prelude.{slice_range}
use Rattle.std.proofs.lemmas.List.{length-drop, length-take-le}
use Rattle.std.proofs.lemmas.Option.{get_or_from_slice_get}
use Rattle.icu_element_reading.specs.TextElements.{Reading}
use Rattle.icu_search_places.specs.SearchPlaces.{is_place}
use Rattle.icu_search_places.specs.place_reader.PlaceMarks.{MarksPlaces}
use Rattle.icu_order_texts.specs.TextOrder.{reading_by}
use Rattle.icu_search.specs.SearchedTexts.{searched_in, text_searched}
use Rattle.icu_search.proofs.TextCutLemmas.{piece_places}
use Rattle.icu_search.proofs.searched_text.SearchedText.is_place_within.Goals as goal

pub returns-in-Some : goal.returns-in-Some
returns-in-Some c =
    let t = c.args.self.now in
    let here = is_place (reading_by (searched_in t).collation) (text_searched t) c.args.offset in
    c.index.ensures
    ∙ get_or_from_slice_get c.in-Some.marks.items c.args.offset here c.index.result.now ((t.marked c.in-Some.marks c.in-Some.is).at c.args.offset (omega (arith, c.requires)))

pub returns : goal.returns
returns c =
    let t = c.args.self.now in
    let text = text_searched t in
    let reading = reading_by (searched_in t).collation in
    let offset = c.args.offset in
    let cut = c.last_cut-cut.result in
    let stop = c.next_cut-stop.result in
    let piece = slice_range text cut stop in
    let items = c.in_ok-marks.marks.items in
    let size : length piece ≡ stop - cut = length-take-le (stop - cut) (drop cut text) (omega (arith, length-drop cut text, c.next_cut-stop.ensures.within)) in
    let fits : offset - cut ≤ length piece = omega (arith, size, c.last_cut-cut.ensures.before, c.next_cut-stop.ensures.behind) in
    let read : MarksPlaces reading (slice_range c.characters.result.now cut stop) items =
    subst (λ (r : Reading). MarksPlaces r (slice_range c.characters.result.now cut stop) items) c.reading.ensures c.in_ok-marks.ensures in
    let marked : MarksPlaces reading piece items = subst (λ (l : List ℕ). MarksPlaces reading (slice_range l cut stop) items) c.characters.ensures read in
    c.index-2.ensures
    ∙ get_or_from_slice_get items (offset - cut) (is_place reading piece (offset - cut)) c.index-2.result.now (marked.at (offset - cut) fits)
    ∙ sym (piece_places reading text cut offset stop c.last_cut-cut.ensures.before c.next_cut-stop.ensures.behind c.last_cut-cut.ensures.cut c.next_cut-stop.ensures.cut)
