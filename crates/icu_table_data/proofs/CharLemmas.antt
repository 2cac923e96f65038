-- Characters are code points.
use Rattle.std.proofs.Common.{ℕ, ◌<◌, arith, inl, inr}
use Rattle.std.proofs.Math.Utf8.{scalar_cases}
use Rattle.std.specs.Char.{IsScalar}

pub scalar_below : (c : ℕ) → IsScalar c → c < 0x110000
scalar_below c s = elim (scalar_cases c s) [ inl low ↦ omega arith | inr high ↦ omega (arith, high.1) ]
