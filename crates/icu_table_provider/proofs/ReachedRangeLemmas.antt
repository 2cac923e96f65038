-- The first range that a weight lies below is the first of those that move some weight, which ascend.
use Rattle.std.proofs.Common.{◌≡◌, ℕ, zero, suc, ◌+◌, ◌*◌, ◌/◌, ◌<◌, ◌≤◌, Bool, true, false, List, [], ◌∷◌, length, find, get_or, refl, ap, ◌∙◌, arith, leb, leb-true, leb-false}
use Rattle.std.specs.Prelude.{if◌then◌else◌, bit_or, slice_get}
use Rattle.std.specs.List.{position_or_len}
use Rattle.std.specs.Int.Bits.{or_add_and}
use Rattle.std.specs.List.Sorted.{IsNonDecreasing, IsPartitionPoint}
use Rattle.std.proofs.lemmas.Bool.Decides.{nat_tests}
use Rattle.std.proofs.lemmas.List.Folds.{find_at}
use Rattle.std.proofs.lemmas.List.Sums.{position_or_len_is}
use Rattle.std.proofs.lemmas.Nat.{and_mask}
use Rattle.icu_table_provider.specs.Reorderings.{lies_below}
use Rattle.icu_table_provider.specs.inner.ReachedRanges.{reached_from, reached_ranges}

-- the highest of the weights that share their two highest bytes
pub block_end : (p : ℕ) → bit_or p 0xFFFF ≡ p / 65536 * 65536 + 65535
block_end p = omega (arith, or_add_and p 0xFFFF, and_mask p 16)

-- a range that ends no higher than the highest of these weights moves none above them
not_above : (p range : ℕ) → lies_below p range ≡ false → bit_or range 0xFFFF ≤ bit_or p 0xFFFF
not_above p range is =
    let low : range ≤ bit_or p 0xFFFF = grind (arith, nat_tests, is) in
    omega (arith, low, block_end p, block_end range)

above : (m range : ℕ) → lies_below m range ≡ true → m ≤ range
above m range is =
    let low : bit_or m 0xFFFF < range = grind (arith, nat_tests, is) in
    omega (arith, low, block_end m)

passed_too : (m p range : ℕ) → lies_below m range ≡ false → bit_or m 0xFFFF ≤ bit_or p 0xFFFF → lies_below p range ≡ false
passed_too m p range is h = grind (arith, nat_tests, is, h)

found_from : (p m : ℕ) (ranges : List ℕ) → bit_or m 0xFFFF ≤ bit_or p 0xFFFF → find (lies_below p) (reached_from m ranges) ≡ find (lies_below p) ranges
found_from p m [] h = refl
found_from p m (range ∷ ranges) h = by (lies_below m range) refl (λ k. found_from p range ranges k) (found_from p m ranges h)
  where
    kept : (b : Bool) → lies_below p range ≡ b → (bit_or range 0xFFFF ≤ bit_or p 0xFFFF → find (lies_below p) (reached_from range ranges) ≡ find (lies_below p) ranges)
        → find (lies_below p) (range ∷ reached_from range ranges) ≡ find (lies_below p) (range ∷ ranges)
    kept true is later = rw is refl
    kept false is later = rw is (later (not_above p range is))

    by : (b : Bool) → lies_below m range ≡ b → (bit_or range 0xFFFF ≤ bit_or p 0xFFFF → find (lies_below p) (reached_from range ranges) ≡ find (lies_below p) ranges)
        → find (lies_below p) (reached_from m ranges) ≡ find (lies_below p) ranges
        → find (lies_below p) (if b then range ∷ reached_from range ranges else reached_from m ranges) ≡ find (lies_below p) (range ∷ ranges)
    by true is later same = kept (lies_below p range) refl later
    by false is later same = rw (passed_too m p range is h) same

pub found_alike : (p : ℕ) (ranges : List ℕ) → find (lies_below p) (reached_ranges ranges) ≡ find (lies_below p) ranges
found_alike p ranges = found_from p 0 ranges (omega (arith, block_end 0, block_end p))

-- ---- they ascend

-- each is at least this
abbrev AreFrom : ℕ → List ℕ → Type 0
AreFrom m ranges = (k d : ℕ) → k < length ranges → m ≤ get_or ranges k d

are_from : (m range : ℕ) (ranges : List ℕ) → m ≤ range → AreFrom range ranges → AreFrom m (range ∷ ranges)
are_from m range ranges low all zero d h = low
are_from m range ranges low all (suc k) d h = omega (arith, low, all k d (omega (arith, h)))

all_from : (m : ℕ) (ranges : List ℕ) → AreFrom m (reached_from m ranges)
all_from m [] = λ k d h. omega (arith, h)
all_from m (range ∷ ranges) = by (lies_below m range) refl (all_from range ranges) (all_from m ranges)
  where
    by : (b : Bool) → lies_below m range ≡ b → AreFrom range (reached_from range ranges) → AreFrom m (reached_from m ranges)
        → AreFrom m (if b then range ∷ reached_from range ranges else reached_from m ranges)
    by true is after same = are_from m range _ (above m range is) after
    by false is after same = same

ascend_more : (range : ℕ) (ranges : List ℕ) → AreFrom range ranges → IsNonDecreasing ranges → IsNonDecreasing (range ∷ ranges)
ascend_more range ranges all up zero zero d low high = omega arith
ascend_more range ranges all up zero (suc j) d low high = all j d (omega (arith, high))
ascend_more range ranges all up (suc i) zero d low high = omega (arith, low)
ascend_more range ranges all up (suc i) (suc j) d low high = up i j d (omega (arith, low)) (omega (arith, high))

ascend_from : (m : ℕ) (ranges : List ℕ) → IsNonDecreasing (reached_from m ranges)
ascend_from m [] = λ i j d low high. omega (arith, high)
ascend_from m (range ∷ ranges) = by (lies_below m range) (ascend_from range ranges) (ascend_from m ranges)
  where
    by : (b : Bool) → IsNonDecreasing (reached_from range ranges) → IsNonDecreasing (reached_from m ranges)
        → IsNonDecreasing (if b then range ∷ reached_from range ranges else reached_from m ranges)
    by true after same = ascend_more range _ (all_from range ranges) after
    by false after same = same

pub reached_ascend : (ranges : List ℕ) → IsNonDecreasing (reached_ranges ranges)
reached_ascend ranges = ascend_from 0 ranges

-- ---- where a search by halves ends

ends_below : (p range : ℕ) → leb range (bit_or p 0xFFFF) ≡ true → lies_below p range ≡ false
ends_below p range is =
    let low = leb-true _ _ is in
    grind (arith, nat_tests, low)

ends_above : (p range : ℕ) → leb range (bit_or p 0xFFFF) ≡ false → lies_below p range ≡ true
ends_above p range is = grind (arith, nat_tests, leb-false _ _ is)

pub found_at_point : (p : ℕ) (ranges : List ℕ) (i : ℕ) → i ≤ length ranges
    → IsPartitionPoint (λ range. leb range (bit_or p 0xFFFF) ≡ true) (λ range. leb range (bit_or p 0xFFFF) ≡ false) ranges i
    → find (lies_below p) ranges ≡ slice_get ranges i
found_at_point p ranges i bound point =
    let place : position_or_len (lies_below p) ranges ≡ i =
    position_or_len_is (lies_below p) ranges i 0 bound (λ k below. ends_below p _ (point.0 k 0 (omega arith) below)) (λ inside. ends_above p _ (point.1 i 0 (omega arith) inside)) in
    find_at (lies_below p) ranges ∙ ap (λ k. slice_get ranges k) place
