use Rattle.std.proofs.Common.{[], ◌∷◌, ◌++◌, ap}
use Rattle.icu_cldr_root.proofs.line.bracketed.Goals as goal

pub returns-in_ok-lead_byte : goal.returns-in_ok-lead_byte
returns-in_ok-lead_byte c = (
  c.in-Some-behind_name.words.now,
  ap (λ text. 91 ∷ text ++ 93 ∷ []) c.in-Some-behind_name.ensures,
  c.in_ok-lead_byte.ensures,
)
