-- The theorems on numbers, as contracts name them.
use Rattle.std.specs.Prelude.{false, ◌≡◌, ℕ, ◌^◌, ◌<◌, ◌≤◌, List, ◌∷◌, ◌++◌, map, length}
use Rattle.std.specs.List.{AllByRecursion}
use Rattle.std.specs.Ordering.{nat_cmp}
use Rattle.icu_order_levels.specs.ListOrder.{list_order}
use Rattle.icu_order_levels.specs.Primaries.{Compression}
use Rattle.icu_order_levels.specs.Premises.{ArePrimaries, IsPrimaryList}
use Rattle.icu_order_levels.specs.Numbers.{number_weights, value_of, without_first_zeros, longest_number, run_weights}

-- numbers below 10^254 order by value through their weights, whatever the numeric lead
abbrev pub NumbersOrderByValue : Type 0
NumbersOrderByValue =
    (numeric v w : ℕ) → v < 10 ^ 254 → w < 10 ^ 254 → list_order (number_weights numeric v) (number_weights numeric w) ≡ nat_cmp v w

-- and as reordering leaves them
abbrev pub ReorderedNumbersOrderByValue : (ℕ → Type 0) → Type 0
ReorderedNumbersOrderByValue IsReachable =
    (c : Compression) (numeric : ℕ) → ArePrimaries c numeric IsReachable → numeric < 256
    → (v w : ℕ) → v < 10 ^ 254 → w < 10 ^ 254
    → list_order (map c.reorder (number_weights numeric v)) (map c.reorder (number_weights numeric w)) ≡ nat_cmp v w

-- a run of decimal digits that is one number: at most 254 after its first zeros
pub record IsShortRun (ds : List ℕ) : Type 0 where
  pub digits : AllByRecursion (λ d. d < 10) ds
  pub some : 0 < length ds
  pub short : length (without_first_zeros ds) ≤ longest_number

-- two such runs order by value
abbrev pub DigitRunsOrderByValue : Type 0
DigitRunsOrderByValue =
    (numeric : ℕ) (ds es : List ℕ) → IsShortRun ds → IsShortRun es
    → list_order (run_weights numeric ds) (run_weights numeric es) ≡ nat_cmp (value_of ds) (value_of es)

-- and as reordering leaves them
abbrev pub ReorderedRunsOrderByValue : (ℕ → Type 0) → Type 0
ReorderedRunsOrderByValue IsReachable =
    (c : Compression) (numeric : ℕ) → ArePrimaries c numeric IsReachable → numeric < 256
    → (ds es : List ℕ) → IsShortRun ds → IsShortRun es
    → list_order (map c.reorder (run_weights numeric ds)) (map c.reorder (run_weights numeric es)) ≡ nat_cmp (value_of ds) (value_of es)

-- before a list of primaries that may stand there may stand a reachable primary
abbrev pub ReachablePrimariesMayStand : (ℕ → Type 0) → Type 0
ReachablePrimariesMayStand IsReachable =
    (c : Compression) (numeric : ℕ) → ArePrimaries c numeric IsReachable
    → (w : ℕ) (ws : List ℕ) → IsReachable w → IsPrimaryList numeric IsReachable false ws
    → IsPrimaryList numeric IsReachable false (w ∷ ws)

-- and the weights of a whole number
abbrev pub NumbersMayStand : (ℕ → Type 0) → Type 0
NumbersMayStand IsReachable =
    (numeric : ℕ) → numeric < 256 → (v : ℕ) (ws : List ℕ) → v < 10 ^ 254
    → IsPrimaryList numeric IsReachable false ws → IsPrimaryList numeric IsReachable false (number_weights numeric v ++ ws)

-- and those of a run of digits, however long
abbrev pub DigitRunsMayStand : (ℕ → Type 0) → Type 0
DigitRunsMayStand IsReachable =
    (numeric : ℕ) → numeric < 256 → (ds ws : List ℕ) → AllByRecursion (λ d. d < 10) ds
    → IsPrimaryList numeric IsReachable false ws → IsPrimaryList numeric IsReachable false (run_weights numeric ds ++ ws)
