use Rattle.std.proofs.Common.{◌≡◌, sym, ◌∙◌}
use Rattle.icu_search.proofs.SilentElementLemmas.{passes_variable, passes_vanishing}
use Rattle.icu_search.proofs.silent_starts.passed.Goals as goal

pub returns-then-is_variable : goal.returns-then-is_variable
returns-then-is_variable c = passes_variable c.args.last c.args.after c.args.element (sym c.is_variable.ensures ∙ c.if-is_variable.true)

pub returns-then-vanishes : goal.returns-then-vanishes
returns-then-vanishes c =
    passes_vanishing c.args.last c.args.after c.args.element (sym c.is_variable.ensures ∙ c.if-is_variable.false) (sym c.vanishes.ensures ∙ c.if-vanishes.true)
