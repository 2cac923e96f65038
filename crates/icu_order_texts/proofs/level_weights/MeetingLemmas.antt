-- The least number that meets a test, one number after another.
use Rattle.std.proofs.Common.{◌≡◌, ℕ, ◌+◌, zero, suc, Bool, true, false, refl, ap, sym, if◌then◌else◌}
use Rattle.icu_order_texts.specs.level_weights.LeastNumbers.{least_meeting}

-- a number that meets the test is the least from itself on
pub least_here : (test : ℕ → Bool) (k more : ℕ) → test k ≡ true → k ≡ least_meeting test k more
least_here test k zero meets = refl
least_here test k (suc more) meets = ap (λ (b : Bool). if b then k else least_meeting test (k + 1) more) (sym meets)

-- one that doesn't is passed
pub least_behind : (test : ℕ → Bool) (k more : ℕ) → test k ≡ false → least_meeting test (k + 1) more ≡ least_meeting test k (suc more)
least_behind test k more fails = ap (λ (b : Bool). if b then k else least_meeting test (k + 1) more) (sym fails)
