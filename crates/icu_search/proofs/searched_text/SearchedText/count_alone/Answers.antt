use Rattle.std.proofs.Common.{◌≡◌, ◌+◌, ◌-◌, List, ℕ, [], ◌∷◌, take, drop, length, get_or, sym, ap, ◌∙◌, arith}
use Rattle.std.specs.Prelude.{slice_range}
use Rattle.std.proofs.lemmas.List.{drop_more}
use Rattle.unicode_normalization.specs.Forms.{nfd}
use Rattle.icu_table_data.proofs.ViolationLemmas.{weaker_some}
use Rattle.icu_order_texts.specs.TextOrder.{lists_by}
use Rattle.icu_search.specs.SearchedTexts.{searched_in, text_searched}
use Rattle.icu_search.specs.inner.CountedChars.{CountsAlone}
use Rattle.icu_search.proofs.searched_text.SearchedText.count_alone.Goals as goal

pub returns : goal.returns
returns c =
    let t = c.args.self.now in
    let text = text_searched t in
    let collation = (searched_in t).collation in
    let at = c.args.at in
    let x = c.index-text-at.result in
    let here : x ≡ get_or text at x = c.index-text-at.is ∙ ap (λ (l : List ℕ). get_or l at x) c.characters-text.ensures in
    let size : (at + 1) - at ≡ 1 = omega arith in
    let one : slice_range text at (at + 1) ≡ x ∷ [] =
    ap (λ n. take n (drop at text)) size ∙ ap (take 1) (drop_more text at x c.requires) ∙ ap (λ (y : ℕ). y ∷ []) (sym here) in
    weaker_some _ (CountsAlone collation text at)
    (λ n is. record {
      ends = c.ends_piece.ensures c.if-not-ends_piece.false;
      count = is ∙ ap (λ (l : List ℕ). length (lists_by collation (nfd l)).primaries) (sym one);
    })
    c.count_of.result c.count_of.ensures
