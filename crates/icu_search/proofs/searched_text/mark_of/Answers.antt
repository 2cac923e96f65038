use Rattle.std.proofs.Common.{◌<◌, Bool, false, List, length, get_or, ap, ◌∙◌, arith}
use Rattle.std.proofs.lemmas.List.{get_or_read, length-map}
use Rattle.icu_search_places.specs.indexed_text.OffsetSets.{has_offset}
use Rattle.icu_search.proofs.AllowedLemmas.{mark_at}
use Rattle.icu_search.proofs.searched_text.mark_of.Goals as goal

pub index-requires : goal.index-requires
index-requires c =
    let f = has_offset c.args.allowed.now.set.items in
    omega (arith, c.requires.within, ap length c.requires.fits, length-map c.args.offsets.now f)

pub returns : goal.returns
returns c =
    let f = has_offset c.args.allowed.now.set.items in
    let marks = c.args.allowed.now.marks.items in
    let inside : c.args.index < length marks = omega (arith, c.requires.within, ap length c.requires.fits, length-map c.args.offsets.now f) in
    get_or_read marks c.args.index c.index.result.now inside c.index.ensures false
    ∙ ap (λ (l : List Bool). get_or l c.args.index false) c.requires.fits ∙ mark_at f c.args.offsets.now c.args.index false c.requires.within
