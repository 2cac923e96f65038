-- The identical level, one character at a time.
use Rattle.std.proofs.Common.{◌≡◌, ◌≢◌, ℕ, ◌+◌, ◌-◌, ◌^◌, List, ◌∷◌, ◌++◌, refl, sym, ap, ◌∙◌, eq-eqb, ne_eqb}
use Rattle.icu_order_levels.specs.Identical.{identical_bytes, difference_bytes, base_after}

pub merge_step : (base c : ℕ) (cs : List ℕ) → c ≡ 0xFFFE → identical_bytes base (c ∷ cs) ≡ 2 ∷ identical_bytes 80 cs
merge_step base c cs e = rw (eq-eqb c 0xFFFE e, identical_bytes) refl

pub other_step : (base c next : ℕ) (cs bs : List ℕ) → c ≢ 0xFFFE → bs ≡ difference_bytes (c + 253 ^ 3 - base) → next ≡ base_after c
    → identical_bytes base (c ∷ cs) ≡ bs ++ identical_bytes next cs
other_step base c next cs bs e p q =
    sym (ap (λ l. l ++ identical_bytes next cs) p ∙ (ap (λ n. difference_bytes (c + 253 ^ 3 - base) ++ identical_bytes n cs) q ∙ rw (ne_eqb c 0xFFFE e, identical_bytes) refl))
