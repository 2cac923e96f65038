use Rattle.std.proofs.Common.{List, ℕ, sym, subst, ◌∙◌, arith}
use Rattle.icu_collator.specs.Collators.{collation_borrowed}
use Rattle.icu_order_texts.specs.TextOrder.{reading_by}
use Rattle.icu_search.specs.inner.FirstWeights.{BeginsOtherwise}
use Rattle.icu_search.proofs.AsciiMarkLemmas.{begins_pieces, first_two}
use Rattle.icu_search.proofs.searcher.Searcher.begins_with_other.Goals as goal

pub returns-then-has_mark : goal.returns-then-has_mark
returns-then-has_mark c = λ is.
    let s = c.args.self.now in
    let collation = collation_borrowed s.collator in
    let x = c.first-item.result in
    let y = c.second-item.result in
    let two = first_two c.args.text.now x y _ _ (omega (arith, c.in-len2-up.len_at_least)) c.first-item.is c.second-item.is in
    let cut = begins_pieces (reading_by collation) y (s.cuts_are y (sym c.has_mark-then-has_mark.ensures ∙ is)) in
    subst (λ (l : List ℕ). BeginsOtherwise collation l s.first.items) (sym two.1)
    (s.others_are x (sym c.has_mark.ensures ∙ c.if-has_mark.true) y two.0 cut)
