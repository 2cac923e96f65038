-- The theorems on single levels, as contracts name them.
use Rattle.std.specs.Prelude.{false, ◌≡◌, ◌≢◌, ℕ, ◌<◌, suc, List, ◌∷◌, ◌++◌, map, length, replicate}
use Rattle.std.specs.List.{AllByRecursion}
use Rattle.std.specs.Ordering.{ordering_then}
use Rattle.icu_order_levels.specs.declared.run_bytes.RunBytes.{RunBytes}
use Rattle.icu_order_levels.specs.ListOrder.{list_order, segments_order, IsUnder}
use Rattle.icu_order_levels.specs.Runs.{AreRunBytes, IsSpelling, run_before_less, run_before, level_bytes}
use Rattle.icu_order_levels.specs.Primaries.{Compression, primary_level}
use Rattle.icu_order_levels.specs.Secondaries.{secondary_level, backward_level}
use Rattle.icu_order_levels.specs.Tertiaries.{tertiary_level}
use Rattle.icu_order_levels.specs.Cases.{case_level}
use Rattle.icu_order_levels.specs.Quaternaries.{quaternary_level}
use Rattle.icu_order_levels.specs.Identical.{identical_level, identical_rank}
use Rattle.icu_order_levels.specs.Premises.{AreSecondaries, forward_least, backward_least, AreTertiaries, IsCasedTertiary, AreShifted, IsQuaternary, IsUnshifted, IsRank, ArePrimaries, IsPrimaryList}
use Rattle.icu_order_levels.specs.Keys.{Determines}
use Rattle.icu_order_levels.specs.declared.forms.TertiaryForm.{TertiaryForm}
use Rattle.icu_order_levels.specs.declared.forms.TertiaryForm.TheVariants.{WithoutCase}
use Rattle.icu_order_levels.specs.declared.forms.CaseForm.TheVariants.{LowerFirst, UpperFirst}
use Rattle.icu_order_levels.specs.declared.forms.QuaternaryForm.TheVariants.{MayShift, Unshifted}

-- The bytes ps and qs order as the lists xs and ys, and are the same only for the same list
pub record KeepOrder (ps qs xs ys : List ℕ) : Type 0 where
  pub order : Determines ps qs (list_order xs ys)
  pub same : ps ≡ qs → xs ≡ ys

-- The law of maximal runs: n common weights before another one are written as one run, then that weight, and the
-- level begins anew; n common weights at the end are one run before less
abbrev pub RunsAreMaximal : Type 0
RunsAreMaximal =
    (r : RunBytes) (spell : ℕ → List ℕ) (n w : ℕ) (ws : List ℕ) → w ≢ r.common
    → (level_bytes r spell 0 (replicate n r.common ++ w ∷ ws) ≡ run_before r n w ++ (spell w ++ level_bytes r spell 0 ws))
    × (level_bytes r spell 0 (replicate n r.common) ≡ run_before_less r n)

-- A level whose run bytes and spelling are as asked, followed by nothing or by bytes up to its end byte
abbrev pub RunsKeepOrder : (ℕ → Type 0) → Type 0
RunsKeepOrder IsReachable =
    (r : RunBytes) (end : ℕ) (spell : ℕ → List ℕ) → AreRunBytes r → IsSpelling r end spell IsReachable
    → (vs ws s t : List ℕ) → AllByRecursion IsReachable vs → AllByRecursion IsReachable ws
    → IsUnder (suc end) s → IsUnder (suc end) t
    → list_order (level_bytes r spell 0 vs ++ s) (level_bytes r spell 0 ws ++ t) ≡ ordering_then (list_order vs ws) (list_order s t)

-- the primary level: compressed, reordered, with numbers
abbrev pub PrimariesKeepOrder : (ℕ → Type 0) → Type 0
PrimariesKeepOrder IsReachable =
    (c : Compression) (numeric : ℕ) → ArePrimaries c numeric IsReachable
    → (vs ws : List ℕ) → IsPrimaryList numeric IsReachable false vs → IsPrimaryList numeric IsReachable false ws
    → KeepOrder (primary_level c 0 vs) (primary_level c 0 ws) (map c.reorder vs) (map c.reorder ws)

-- the secondary level from the front
abbrev pub SecondariesKeepOrder : (ℕ → Type 0) → Type 0
SecondariesKeepOrder IsReachable =
    AreSecondaries forward_least IsReachable
    → (vs ws : List ℕ) → AllByRecursion IsReachable vs → AllByRecursion IsReachable ws
    → KeepOrder (secondary_level vs) (secondary_level ws) vs ws

-- backward, a segment at least on either side
abbrev pub SegmentsKeepOrder : (ℕ → Type 0) → Type 0
SegmentsKeepOrder IsReachable =
    AreSecondaries backward_least IsReachable
    → (vss wss : List (List ℕ)) → AllByRecursion (AllByRecursion IsReachable) vss → AllByRecursion (AllByRecursion IsReachable) wss
    → 0 < length vss → 0 < length wss
    → Determines (backward_level vss) (backward_level wss) (segments_order vss wss) × (backward_level vss ≡ backward_level wss → vss ≡ wss)

-- lower case first, as many cases on either side
abbrev pub LowerFirstCasesKeepOrder : Type 0
LowerFirstCasesKeepOrder =
    (vs ws : List ℕ) → AllByRecursion IsRank vs → AllByRecursion IsRank ws → length vs ≡ length ws
    → KeepOrder (case_level LowerFirst vs) (case_level LowerFirst ws) vs ws

-- upper case first, any lists
abbrev pub UpperFirstCasesKeepOrder : Type 0
UpperFirstCasesKeepOrder =
    (vs ws : List ℕ) → AllByRecursion IsRank vs → AllByRecursion IsRank ws
    → KeepOrder (case_level UpperFirst vs) (case_level UpperFirst ws) vs ws

-- tertiaries with case bits are as their level asks, if those without are
abbrev pub CaseKeepsTertiaries : (ℕ → Type 0) → Type 0
CaseKeepsTertiaries IsReachable =
    (form : TertiaryForm) → AreTertiaries WithoutCase IsReachable
    → AreTertiaries form (IsCasedTertiary form IsReachable)

-- the tertiary level, in each of its forms
abbrev pub TertiariesKeepOrder : (ℕ → Type 0) → Type 0
TertiariesKeepOrder IsReachable =
    (form : TertiaryForm) → AreTertiaries form IsReachable
    → (vs ws : List ℕ) → AllByRecursion IsReachable vs → AllByRecursion IsReachable ws
    → KeepOrder (tertiary_level form vs) (tertiary_level form ws) vs ws

-- where variable elements may be shifted, any lists
abbrev pub QuaternariesKeepOrder : (ℕ → Type 0) → Type 0
QuaternariesKeepOrder IsReachable =
    AreShifted IsReachable
    → (vs ws : List ℕ) → AllByRecursion (IsQuaternary IsReachable) vs → AllByRecursion (IsQuaternary IsReachable) ws
    → KeepOrder (quaternary_level MayShift vs) (quaternary_level MayShift ws) vs ws

-- where none is shifted, as many quaternaries on either side
abbrev pub UnshiftedQuaternariesKeepOrder : Type 0
UnshiftedQuaternariesKeepOrder =
    (vs ws : List ℕ) → AllByRecursion IsUnshifted vs → AllByRecursion IsUnshifted ws → length vs ≡ length ws
    → KeepOrder (quaternary_level Unshifted vs) (quaternary_level Unshifted ws) vs ws

-- The identical level orders as the characters, U+FFFE lowest, and its bytes determine them
abbrev pub CharactersKeepOrder : Type 0
CharactersKeepOrder =
    (cs ds : List ℕ) → AllByRecursion (λ c. c < 0x110000) cs → AllByRecursion (λ c. c < 0x110000) ds
    → Determines (identical_level cs) (identical_level ds) (list_order (map identical_rank cs) (map identical_rank ds))
    × (identical_level cs ≡ identical_level ds → cs ≡ ds)
