-- Where no element comes, none is handled.
use Rattle.std.proofs.Common.{◌∙◌, refl, sym}
use Rattle.icu_collator.proofs.OrdersInTurn.{none_handled}
use Rattle.icu_collator.proofs.steady_text.SteadyTextHandledSource.next_handled.Goals as goal

pub returns : goal.returns
returns g c =
    let none = c.in_default.ensures.end refl in
    (c.passing.invariant ∙ none_handled c.passing.self.weighting _ none, none_handled c.passing.self.weighting _ (sym c.in_default.ensures.next ∙ none))
