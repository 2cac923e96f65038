use Rattle.std.proofs.Common.{◌∙◌, sym}
use Rattle.icu_collator.proofs.OrdersInTurn.{none_handled}
use Rattle.icu_collator.proofs.handled.HandledTextHandledSource.next_handled.Goals as goal

pub returns : goal.returns
returns g c =
    let none = c.in_ok-element.ensures.end c.in_default.is in
    let left = rw c.in_default.is at c.in_ok-element.ensures.next in
    (c.passing.invariant ∙ none_handled c.passing.self.weighting _ none, none_handled c.passing.self.weighting _ (sym left ∙ none))
