use Rattle.std.proofs.Common.{◌≡◌, ◌≤◌, false, true, not, sym, ap, ◌∙◌, arith}
use Rattle.std.proofs.lemmas.Bool.{not-true}
use Rattle.std.proofs.lemmas.Option.{get_or_from_slice_get}
use Rattle.icu_search_places.specs.SearchPlaces.{is_place}
use Rattle.icu_order_texts.specs.TextOrder.{reading_by}
use Rattle.icu_search.specs.SearchedTexts.{searched_in, text_searched}
use Rattle.icu_search.proofs.searched_text.SearchedText.has_no_place.Goals as goal

pub returns-in-Some : goal.returns-in-Some
returns-in-Some c = λ not.
    let t = c.args.self.now in
    let here = is_place (reading_by (searched_in t).collation) (text_searched t) c.args.offset in
    let marked = c.index.ensures
    ∙ get_or_from_slice_get c.in-Some.marks.items c.args.offset here c.index.result.now ((t.marked c.in-Some.marks c.in-Some.is).at c.args.offset (omega (arith, c.requires))) in
    sym marked ∙ not-true c.index.result.now not
