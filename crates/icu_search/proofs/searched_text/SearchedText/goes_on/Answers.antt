use Rattle.std.proofs.Common.{◌≡◌, subst}
use Rattle.icu_search.specs.SearchedTexts.{searched_in, text_searched}
use Rattle.icu_search.specs.inner.CountedChars.{CountsAlone}
use Rattle.icu_search.proofs.searched_text.SearchedText.goes_on.Goals as goal

pub returns : goal.returns
returns c = λ is.
    let t = c.args.self.now in
    let one : c.in-Some.count ≡ 1 = c.if-count-ne1.false in
    subst (CountsAlone (searched_in t).collation (text_searched t) c.args.at) one c.in-Some.ensures
