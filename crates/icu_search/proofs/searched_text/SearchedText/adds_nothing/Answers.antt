use Rattle.std.proofs.Common.{◌≡◌, ◌<◌, ℕ, List, get_or, sym, ap, subst, ◌∙◌, arith}
use Rattle.std.proofs.lemmas.List.{get_or_read}
use Rattle.icu_search.specs.SearchedTexts.{searched_in, text_searched}
use Rattle.icu_search.specs.inner.AsciiMarks.{GivesNothing}
use Rattle.icu_search.proofs.searched_text.SearchedText.adds_nothing.Goals as goal

pub returns : goal.returns
returns c = λ cut.
    let t = c.args.self.now in
    let text = text_searched t in
    let at = c.args.at in
    let x = c.index-characters-at.result in
    let here : x ≡ get_or text at x = c.index-characters-at.is ∙ ap (λ (l : List ℕ). get_or l at x) c.characters.ensures in
    record {
      longer = omega (arith, c.requires.ordered, c.if-start-at.false);
      allowed = sym c.is_allowed.ensures ∙ c.if-not-is_allowed.false;
      cut = c.cuts_at.ensures cut;
      silent = subst (GivesNothing (searched_in t).collation) (get_or_read text at x c.requires.inside here 0) (c.gives_nothing.ensures c.if-not-gives_nothing.false);
    }
