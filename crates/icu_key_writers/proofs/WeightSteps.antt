-- Weights, a byte at a time.
use Rattle.std.proofs.Common.{◌≡◌, ◌≢◌, ℕ, zero, suc, ◌*◌, ◌/◌, ◌%◌, ◌<◌, ◌^◌, List, [], ◌∷◌, ◌++◌, refl, ap, ◌∙◌, arith, length, div-add-mod', zero-mul, Result}
use Rattle.icu_order_levels.specs.WeightBytes.{before_nonzero, weight_bytes}
use Rattle.icu_key_writers.specs.Sinks.{SinkEffects}
use Rattle.icu_key_writers.specs.Writes.{Writes, WriteFails}
use Rattle.icu_key_writers.proofs.Writing.{fails_front, fails_one, writes_after, writes_same}

-- a number stays in front of some bytes, and so does one that is not 0
stays : (x : ℕ) (xs : List ℕ) → (x ≡ 0 → 0 < length xs) → before_nonzero x xs ≡ x ∷ xs
stays zero [] h = absurd (omega (arith, h refl))
stays zero (y ∷ ys) h = refl
stays (suc x) [] h = refl
stays (suc x) (y ∷ ys) h = refl

some_bytes : (x : ℕ) (xs ys : List ℕ) → ys ≡ x ∷ xs → 0 < length ys
some_bytes x xs ys e = rw e (omega arith)

-- a number that is not 0 has a quotient or a remainder that is not
rest_left : (w c : ℕ) → w ≢ 0 → w / c ≡ 0 → w % c ≢ 0
rest_left w c h e = λ z. h (omega (arith, div-add-mod' w c, ap (λ q. q * c) e, zero-mul c, z))

-- a weight that is not 0 begins with its first byte
pub weight_step : (k w : ℕ) → w ≢ 0 → weight_bytes (suc k) w ≡ w / 256 ^ k ∷ weight_bytes k (w % 256 ^ k)
weight_step zero w h = stays (w / 256 ^ 0) [] (λ e. absurd (h (omega (arith, e))))
weight_step (suc k) w h =
    stays (w / 256 ^ suc k) (weight_bytes (suc k) (w % 256 ^ suc k))
    (λ e. some_bytes _ _ _ (weight_step k (w % 256 ^ suc k) (rest_left w (256 ^ suc k) h e)))

pub weight_last : (w : ℕ) → w ≢ 0 → weight_bytes 1 w ≡ w ∷ []
weight_last w h = weight_step 0 w h ∙ ap (λ d. d ∷ []) (omega arith)

module _ {X St F E : Type 0} (effects : SinkEffects X St F E) where
  -- a weight whose first byte failed, or was written
  pub weight_fails : (x y : X) (s t : St) (k w : ℕ) (e : E) → w ≢ 0 → effects.took x s [] x s → effects.refused x s (w / 256 ^ k ∷ []) e y t
      → WriteFails effects x s (weight_bytes (suc k) w) e y t
  weight_fails x y s t k w e h n f =
      rw (weight_step k w h) (fails_front effects x y s t (w / 256 ^ k ∷ []) (weight_bytes k (w % 256 ^ k)) e
      (fails_one effects x y s t (w / 256 ^ k ∷ []) e n f))

  pub weight_written : {O : Type 0} (x y z : X) (s t u : St) (k w : ℕ) (r : Result O E)
      → ((y z : X) (t u : St) (b c : List ℕ) → effects.took x s b y t → effects.took y t c z u → effects.took x s (b ++ c) z u) → w ≢ 0
      → effects.took x s (w / 256 ^ k ∷ []) y t → Writes effects y t (weight_bytes k (w % 256 ^ k)) r z u
      → Writes effects x s (weight_bytes (suc k) w) r z u
  weight_written x y z s t u k w r both h p q =
      writes_same effects x z s u (weight_bytes (suc k) w) ((w / 256 ^ k ∷ []) ++ weight_bytes k (w % 256 ^ k)) r (weight_step k w h)
      (writes_after effects x y z s t u (w / 256 ^ k ∷ []) (weight_bytes k (w % 256 ^ k)) r both p q)
