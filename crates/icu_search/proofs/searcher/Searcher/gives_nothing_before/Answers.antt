use Rattle.std.proofs.Common.{sym, ◌∙◌}
use Rattle.icu_collator.specs.Collators.{collation_borrowed}
use Rattle.icu_order_texts.specs.TextOrder.{reading_by}
use Rattle.icu_search.proofs.AsciiMarkLemmas.{begins_pieces}
use Rattle.icu_search.proofs.searcher.Searcher.gives_nothing_before.Goals as goal

pub returns : goal.returns
returns c = λ is.
    let s = c.args.self.now in
    let x = c.args.first in
    let y = c.args.next in (
      s.silent_are x (sym c.has_mark.ensures ∙ c.if-not-has_mark.false),
      s.leading_are y (sym c.has_mark-2.ensures ∙ c.if-not-has_mark-2.false),
      begins_pieces (reading_by (collation_borrowed s.collator)) y (s.cuts_are y (sym c.has_mark-3.ensures ∙ is)),
    )
