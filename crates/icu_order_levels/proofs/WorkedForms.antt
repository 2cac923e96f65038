-- Compressions, forms and lists for worked keys.
use Rattle.std.proofs.Common.{ℕ, ◌+◌, ◌-◌, ◌^◌, Bool, true, false, ◌&&◌, ◌||◌, nat_le, nat_lt, ◌==◌, if◌then◌else◌, List, Some, None}
use Rattle.icu_order_levels.specs.Primaries.{Compression, lead}
use Rattle.icu_order_levels.specs.Keys.{LevelLists}
use Rattle.icu_order_levels.specs.declared.forms.CaseForm.TheVariants.{LowerFirst, UpperFirst}
use Rattle.icu_order_levels.specs.declared.forms.KeyForm.{KeyForm}
use Rattle.icu_order_levels.specs.declared.forms.QuaternaryForm.TheVariants.{MayShift, Unshifted}
use Rattle.icu_order_levels.specs.declared.forms.SecondaryForm.TheVariants.{Backward, Forward}
use Rattle.icu_order_levels.specs.declared.forms.TertiaryForm.TheVariants.{UpperFirst as UpperFirstTertiary, WithoutCase}

-- leads 61 to 80 and FE are compressible
abbrev pub compressible : ℕ → Bool
compressible l = (nat_le 0x61 l && nat_le l 0x80) || l == 0xFE

-- no reordering
abbrev pub unmoved : Compression
unmoved = record { reorder = λ p. p; is_compressible = compressible }

-- leads 61 and 62 change places
abbrev pub swapped : Compression
swapped = record {
  reorder = λ p. if lead p == 0x61 then p + 256 ^ 3 else (if lead p == 0x62 then p - 256 ^ 3 else p);
  is_compressible = compressible;
}

-- lead 61 becomes 90 below 6140
abbrev pub split : Compression
split = record { reorder = λ p. if lead p == 0x61 && nat_lt p 0x61400000 then p + 0x2F000000 else p; is_compressible = compressible }

-- the common quaternary weight
abbrev pub above_primaries : ℕ
above_primaries = 2 ^ 32

-- primaries, secondaries, segments, cases, tertiaries, quaternaries, characters
abbrev pub texts : List ℕ → List ℕ → List (List ℕ) → List ℕ → List ℕ → List ℕ → List ℕ → LevelLists
texts ps ss gs ks ts qs cs =
    record { primaries = ps; secondaries = ss; segments = gs; cases = ks; tertiaries = ts; quaternaries = qs; characters = cs }

-- ---- forms of keys
abbrev pub at_primary : KeyForm
at_primary = record { secondary = None; cases = None; tertiary = None; quaternary = None; identical = false }

abbrev pub at_primary_with_case : KeyForm
at_primary_with_case =
    record { secondary = None; cases = Some LowerFirst; tertiary = None; quaternary = None; identical = false }

abbrev pub at_primary_with_case_upper_first : KeyForm
at_primary_with_case_upper_first =
    record { secondary = None; cases = Some UpperFirst; tertiary = None; quaternary = None; identical = false }

abbrev pub at_secondary : KeyForm
at_secondary = record { secondary = Some Forward; cases = None; tertiary = None; quaternary = None; identical = false }

abbrev pub at_secondary_backward : KeyForm
at_secondary_backward = record { secondary = Some Backward; cases = None; tertiary = None; quaternary = None; identical = false }

abbrev pub at_tertiary : KeyForm
at_tertiary = record { secondary = Some Forward; cases = None; tertiary = Some WithoutCase; quaternary = None; identical = false }

abbrev pub at_tertiary_upper_first : KeyForm
at_tertiary_upper_first =
    record { secondary = Some Forward; cases = None; tertiary = Some UpperFirstTertiary; quaternary = None; identical = false }

abbrev pub at_tertiary_with_case_upper_first : KeyForm
at_tertiary_with_case_upper_first =
    record { secondary = Some Forward; cases = Some UpperFirst; tertiary = Some WithoutCase; quaternary = None; identical = false }

abbrev pub at_quaternary : KeyForm
at_quaternary = record { secondary = Some Forward; cases = None; tertiary = Some WithoutCase; quaternary = Some Unshifted; identical = false }

abbrev pub at_quaternary_shifted : KeyForm
at_quaternary_shifted = record { secondary = Some Forward; cases = None; tertiary = Some WithoutCase; quaternary = Some MayShift; identical = false }

abbrev pub at_identical : KeyForm
at_identical = record { secondary = Some Forward; cases = None; tertiary = Some WithoutCase; quaternary = Some Unshifted; identical = true }
