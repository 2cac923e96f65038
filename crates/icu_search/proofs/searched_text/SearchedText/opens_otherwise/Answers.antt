use Rattle.icu_search.specs.SearchedTexts.{searched_in, text_searched}
use Rattle.icu_search.proofs.TextCutLemmas.{told_ruled_out}
use Rattle.icu_search.proofs.searched_text.SearchedText.opens_otherwise.Goals as goal

pub returns : goal.returns
returns c = λ is.
    let t = c.args.self.now in
    told_ruled_out (searched_in t) (text_searched t) c.args.start c.args.last c.piece_from-piece.result.now c.piece_from-piece.ensures
    (c.begins_otherwise.ensures is)
    c.requires.ordered c.requires.some
