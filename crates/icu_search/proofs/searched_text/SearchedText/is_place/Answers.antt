use Rattle.std.proofs.Common.{sym}
use Rattle.icu_search.specs.SearchedTexts.{searched_in, text_searched}
use Rattle.icu_order_texts.specs.TextOrder.{reading_by}
use Rattle.icu_search.proofs.TextCutLemmas.{cut_is_place}
use Rattle.icu_search.proofs.searched_text.SearchedText.is_place.Goals as goal

pub returns-then-cuts_at : goal.returns-then-cuts_at
returns-then-cuts_at c =
    let t = c.args.self.now in
    sym (cut_is_place (reading_by (searched_in t).collation) (text_searched t) c.args.offset (c.cuts_at.ensures c.if-cuts_at.true))
