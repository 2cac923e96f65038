-- Where there is no reordering, each lead byte is taken to itself alone.
use Rattle.std.proofs.Common.{◌≡◌, ◌↔◌, ℕ, ◌*◌, ◌/◌, ◌^◌, ◌<◌, nat_eq, sym, ◌∙◌, arith, IsTrue}
use Rattle.std.proofs.lemmas.Bool.Decides.{nat_tests}
use Rattle.icu_table_provider.specs.Reorderings.{lead_byte}

abbrev Keeps : ℕ → ℕ → Type 0
Keeps b d = (p : ℕ) → p < 2 ^ 32 → lead_byte p ≡ b → lead_byte p ≡ d

is_same : (b d : ℕ) → IsTrue (nat_eq b d) → b ≡ d
is_same b d h = grind (arith, nat_tests)

same_is : (b d : ℕ) → b ≡ d → IsTrue (nat_eq b d)
same_is b d h = grind (arith, nat_tests)

least_lead : (b : ℕ) → b < 256 → b * 16777216 / 16777216 ≡ b
least_lead b h = omega (arith, h)

least_fits : (b : ℕ) → b < 256 → b * 16777216 < 4294967296
least_fits b h = omega (arith, h)

pub kept_leads : (b d : ℕ) → b < 256 → IsTrue (nat_eq b d) ↔ Keeps b d
kept_leads b d h = (
  λ same p fits is. is ∙ is_same b d same,
  λ keeps. same_is b d (sym (least_lead b h) ∙ keeps (b * 16777216) (least_fits b h) (least_lead b h)),
)
