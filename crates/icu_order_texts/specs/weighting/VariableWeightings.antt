-- The rule of variable weighting, as code has it.
use Rattle.std.specs.Prelude.{List}
use Rattle.icu_table_entries.specs.Elements.{Element}
use Rattle.icu_order_texts.specs.weighting.Handled.{HandledElement, handled}
use Rattle.icu_order_texts.specs.declared.weighting.weighting.VariableWeighting.{VariableWeighting}

-- further elements, as they are to be handled
abbrev pub handled_after : VariableWeighting → List Element → List HandledElement
handled_after w es = handled w.handling w.last_variable w.after_variable es
