-- How bytes end.
use Rattle.std.proofs.Common.{◌≡◌, ℕ, suc, ◌-◌, ◌<◌, true, List, [], ◌∷◌, get_or, length, nat_eq, refl, sym, ap, ◌∙◌, arith}
use Rattle.program_files.specs.Inputs.{ends_in}

-- no bytes count as ended
pub no_end : (separator : ℕ) (bytes : List ℕ) → length bytes ≡ 0 → ends_in separator bytes ≡ true
no_end separator [] h = refl
no_end separator (byte ∷ bytes) h = absurd (omega (arith, h))

behind : (separator byte : ℕ) (bytes : List ℕ) → ends_in separator (byte ∷ bytes) ≡ nat_eq (get_or (byte ∷ bytes) (length bytes) 0) separator
behind separator byte [] = refl
behind separator byte (next ∷ bytes) = behind separator next bytes

-- others end with their last one
pub last_end : (separator : ℕ) (bytes : List ℕ) → 0 < length bytes
    → ends_in separator bytes ≡ nat_eq (get_or bytes (length bytes - 1) 0) separator
last_end separator [] h = absurd (omega (arith, h))
last_end separator (byte ∷ bytes) h =
    let n : suc (length bytes) - 1 ≡ length bytes = omega arith in
    behind separator byte bytes ∙ ap (λ i. nat_eq (get_or (byte ∷ bytes) i 0) separator) (sym n)
