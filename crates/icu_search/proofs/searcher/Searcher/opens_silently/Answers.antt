use Rattle.std.proofs.Common.{◌≡◌, List, ℕ, ◌-◌, length, take, drop, ap, subst, ◌∙◌, arith}
use Rattle.std.proofs.lemmas.List.{take_rest}
use Rattle.icu_collator.specs.Collators.{collation_borrowed}
use Rattle.icu_order_texts.specs.TextOrder.{reading_by}
use Rattle.icu_search.specs.inner.AsciiMarks.{BeginsCut}
use Rattle.icu_search.proofs.AsciiMarkLemmas.{first_two, opens_silently}
use Rattle.icu_search.proofs.searcher.Searcher.opens_silently.Goals as goal

pub returns-then-gives_nothing_before : goal.returns-then-gives_nothing_before
returns-then-gives_nothing_before c = λ is.
    let collation = collation_borrowed c.args.self.now.collator in
    let text = c.args.text.now in
    let x = c.first-item.result in
    let y = c.next-item.result in
    let two = first_two text x y _ _ (omega (arith, c.in-len2-up.len_at_least)) c.first-item.is c.next-item.is in
    let told = c.gives_nothing_before.ensures c.if-gives_nothing_before.true in
    let others : take (length text - 2) (drop 2 text) ≡ two.0 = take_rest text 2 ∙ ap (λ (l : List ℕ). drop 2 l) two.1 in
    opens_silently collation text x y two.0 two.1 told.0 told.1 told.2 (subst (BeginsCut (reading_by collation)) others (c.begins_cut.ensures is))
