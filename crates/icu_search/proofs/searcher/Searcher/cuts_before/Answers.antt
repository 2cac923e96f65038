use Rattle.std.proofs.Common.{sym, ◌∙◌}
use Rattle.icu_collator.specs.Collators.{collation_borrowed}
use Rattle.icu_order_texts.specs.TextOrder.{reading_by}
use Rattle.icu_search.proofs.AsciiMarkLemmas.{begins_pieces}
use Rattle.icu_search.proofs.searcher.Searcher.cuts_before.Goals as goal

pub returns-then-has_mark : goal.returns-then-has_mark
returns-then-has_mark c = λ _.
    let s = c.args.self.now in
    begins_pieces (reading_by (collation_borrowed s.collator)) c.args.c (s.cuts_are c.args.c (sym c.has_mark.ensures ∙ c.if-has_mark.true))
