use Rattle.std.proofs.Common.{◌≡◌, ◌<◌, ◌++◌, ℕ, List, Some}
use Rattle.std.specs.Prelude.{slice_get, ◌≢◌}
use Rattle.icu_cldr_root.specs.FixedBytes.{fixed_name}
use Rattle.icu_cldr_root.specs.declared.fixed_bytes.FixedName.{FixedName}
use Rattle.icu_cldr_root.proofs.fixed_bytes.named_byte.Given as goal

-- no name before begins the text
abbrev pub invariant-loop-name : goal.invariant-loop-name
invariant-loop-name l = (k : ℕ) → k < l.name-index → (name : FixedName) → slice_get l.name-items k ≡ Some name → (behind : List ℕ) → l.text ≢ fixed_name name ++ behind
