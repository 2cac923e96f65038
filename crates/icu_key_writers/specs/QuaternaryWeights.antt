-- Weights of the quaternary level, as the definitions number them.
use Rattle.std.specs.Prelude.{ℕ, ◌+◌, ◌^◌}
use Rattle.icu_key_writers.specs.declared.quaternaries.QuaternaryWeight.{QuaternaryWeight}
use Rattle.icu_key_writers.specs.declared.quaternaries.QuaternaryWeight.TheVariants.{Bits, Shifted}

-- quaternary bits stand above each primary
abbrev pub weight_of : QuaternaryWeight → ℕ
weight_of (Bits q) = 2 ^ 32 + q
weight_of (Shifted p) = p
