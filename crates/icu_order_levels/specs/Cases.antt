-- The bytes of the case level: a nibble for each case or run, two to a byte (UTS #35 part 5, "Case Parameters").
use Rattle.std.specs.Prelude.{Bool, true, ◌&&◌, ℕ, ◌+◌, ◌*◌, ◌==◌, if◌then◌else◌, List, [], ◌∷◌}
use Rattle.icu_order_levels.specs.Runs.{level_bytes}
use Rattle.icu_order_levels.specs.declared.forms.CaseForm.{CaseForm}
use Rattle.icu_order_levels.specs.declared.forms.CaseForm.TheVariants.{LowerFirst, UpperFirst}
use Rattle.icu_order_levels.specs.declared.run_bytes.RunBytes.{RunBytes}
use Rattle.icu_order_levels.specs.RunNumbers.{lower_first_case_run_bytes, upper_first_case_run_bytes}

-- the bytes of nibbles, the first of two in the high half, and an odd last one before a 0
abbrev pub packed : List ℕ → List ℕ
packed [] = []
packed (x ∷ []) = x * 16 ∷ []
packed (x ∷ (y ∷ ns)) = (x * 16 + y) ∷ packed ns

-- whether a list is of one number alone
abbrev pub is_only : ℕ → List ℕ → Bool
is_only n [] = true
is_only n (x ∷ xs) = (x == n) && is_only n xs

-- how a form writes runs of lower case
abbrev pub case_runs : CaseForm → RunBytes
case_runs LowerFirst = lower_first_case_run_bytes
case_runs UpperFirst = upper_first_case_run_bytes

-- The nibble of a case other than lower. Lower case first lower is 0, mixed 1 and upper 2, upper case first upper is 0,
-- mixed 1 and lower 2
abbrev pub case_nibble : CaseForm → ℕ → List ℕ
case_nibble LowerFirst rank = (13 + rank) ∷ []
case_nibble UpperFirst rank = (1 + rank) ∷ []

-- the nibbles of a level
abbrev pub case_nibbles : CaseForm → List ℕ → List ℕ
case_nibbles form = level_bytes (case_runs form) (case_nibble form) 0

-- the bytes of a level: lower case first nothing is written for lower alone
abbrev pub case_level : CaseForm → List ℕ → List ℕ
case_level LowerFirst ranks = if is_only 0 ranks then [] else packed (case_nibbles LowerFirst ranks)
case_level UpperFirst ranks = packed (case_nibbles UpperFirst ranks)
