use Rattle.std.proofs.Common.{ℕ, List, get_or, ◌∙◌, ap, arith}
use Rattle.icu_collator.specs.Collators.{collation_borrowed}
use Rattle.icu_order_texts.specs.TextOrder.{reading_by}
use Rattle.icu_search.specs.SearchedTexts.{text_searched}
use Rattle.icu_search.proofs.TextCutLemmas.{cut_there}
use Rattle.icu_search.proofs.searched_text.SearchedText.cuts_at.Goals as goal

pub returns : goal.returns
returns c = λ is.
    let t = c.args.self.now in
    cut_there (reading_by (collation_borrowed t.searcher.now.collator)) (text_searched t) c.args.offset c.index-characters-offset.result
    (omega (arith, c.if-offset-char_count.false, c.char_count.ensures.count))
    (c.index-characters-offset.is ∙ ap (λ (l : List ℕ). get_or l c.args.offset c.index-characters-offset.result) c.characters.ensures)
    (c.cuts_before.ensures is)
