use Rattle.std.proofs.Common.{sym, ◌∙◌, arith}
use Rattle.icu_collator.specs.Collators.{collation_borrowed}
use Rattle.icu_order_texts.specs.TextOrder.{reading_by}
use Rattle.icu_search.proofs.AsciiMarkLemmas.{begins_pieces, cut_first}
use Rattle.icu_search.proofs.searcher.Searcher.begins_cut.Goals as goal

pub returns-in-len1-up : goal.returns-in-len1-up
returns-in-len1-up c = λ is.
    let s = c.args.self.now in
    let reading = reading_by (collation_borrowed s.collator) in
    let x = c.first-item.result in
    cut_first reading c.args.text.now x _ (omega (arith, c.in-len1-up.len_at_least)) c.first-item.is
    (begins_pieces reading x (s.cuts_are x (sym c.has_mark.ensures ∙ is)))
