use Rattle.std.proofs.Common.{◌∙◌, sym}
use Rattle.icu_search.proofs.FirstWeightLemmas.{differ_below}
use Rattle.icu_search.proofs.apart_leads.differ.Goals as goal

pub returns-then-low : goal.returns-then-low
returns-then-low c = λ d apart is same.
    differ_below d c.args.one c.args.other (λ e. c.if-low.true (c.low.ensures ∙ e ∙ sym c.low-2.ensures)) same
