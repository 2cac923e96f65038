use Rattle.std.proofs.Common.{true, sym, ◌∙◌}
use Rattle.std.proofs.lemmas.Bool.{true≢false}
use Rattle.icu_table_weights.proofs.targets.has_three.Goals as goal

pub returns-then-not-is_three_bytes : goal.returns-then-not-is_three_bytes
returns-then-not-is_three_bytes c = λ _ three has. true≢false (sym three ∙ (sym c.is_three_bytes.ensures ∙ c.if-not-is_three_bytes.true))

pub returns : goal.returns
returns c = λ h three has. true≢false (sym (c.has.ensures.1 has) ∙ h)
