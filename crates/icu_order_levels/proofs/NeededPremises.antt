-- Each premise is needed: lists and bytes that part where one of them fails.
use Rattle.std.proofs.Common.{◌≡◌, ℕ, ◌^◌, Bool, ◌==◌, if◌then◌else◌, [], ◌∷◌, ◌++◌, map, refl, Less, Greater}
use Rattle.icu_order_levels.specs.ListOrder.{list_order, segments_order}
use Rattle.icu_order_levels.specs.Primaries.{Compression, primary_level}
use Rattle.icu_order_levels.specs.Secondaries.{secondary_level, backward_level}
use Rattle.icu_order_levels.specs.Tertiaries.{tertiary_level}
use Rattle.icu_order_levels.specs.Cases.{case_level}
use Rattle.icu_order_levels.specs.Quaternaries.{quaternary_level}
use Rattle.icu_order_levels.specs.declared.forms.TertiaryForm.TheVariants.{WithoutCase}
use Rattle.icu_order_levels.specs.declared.forms.CaseForm.TheVariants.{LowerFirst}
use Rattle.icu_order_levels.specs.declared.forms.QuaternaryForm.TheVariants.{MayShift, Unshifted}

-- ---- prefix-free weights
-- secondaries: 0300 begins 0302
prefix_free_secondaries :
    (list_order (0x0300 ∷ 0x0302 ∷ []) (0x0302 ∷ []) ≡ Less)
    × (list_order (secondary_level (0x0300 ∷ 0x0302 ∷ []) ++ 1 ∷ []) (secondary_level (0x0302 ∷ []) ++ 1 ∷ []) ≡ Greater)
prefix_free_secondaries = (refl, refl)

-- tertiaries: 3F00 begins 3F3F
prefix_free_tertiaries :
    (list_order (0x3F00 ∷ 0x3F00 ∷ []) (0x3F3F ∷ 0x3F3F ∷ []) ≡ Less)
    × (list_order (tertiary_level WithoutCase (0x3F00 ∷ 0x3F00 ∷ []) ++ 1 ∷ []) (tertiary_level WithoutCase (0x3F3F ∷ 0x3F3F ∷ []) ++ 1 ∷ []) ≡ Greater)
prefix_free_tertiaries = (refl, refl)

-- no reordering, and a compressible lead
abbrev keeping : (ℕ → Bool) → Compression
keeping compressible = record { reorder = λ p. p; is_compressible = compressible }

-- primaries: 10800500 begins 10800501, and the level that follows opens with 01 05
prefix_free_primaries :
    (list_order (0x10800501 ∷ []) (0x10800500 ∷ []) ≡ Greater)
    × (list_order (primary_level (keeping (λ l. l == 0x61)) 0 (0x10800501 ∷ []) ++ 1 ∷ 5 ∷ 1 ∷ [])
    (primary_level (keeping (λ l. l == 0x61)) 0 (0x10800500 ∷ []) ++ 1 ∷ 5 ∷ 1 ∷ []) ≡ Less)
prefix_free_primaries = (refl, refl)

-- ---- leads
-- a secondary whose lead is among the bytes of runs
secondary_leads :
    (list_order (0x0600 ∷ 0x0500 ∷ 0x0500 ∷ 0x0500 ∷ []) (0x0500 ∷ 0x0500 ∷ 0x0500 ∷ []) ≡ Greater)
    × (list_order (secondary_level (0x0600 ∷ 0x0500 ∷ 0x0500 ∷ 0x0500 ∷ [])) (secondary_level (0x0500 ∷ 0x0500 ∷ 0x0500 ∷ [])) ≡ Less)
secondary_leads = (refl, refl)

-- a tertiary that shares the lead of the common one
tertiary_leads :
    (list_order (0x0501 ∷ 0x0500 ∷ []) (0x0500 ∷ 0x0501 ∷ []) ≡ Greater)
    × (list_order (tertiary_level WithoutCase (0x0501 ∷ 0x0500 ∷ [])) (tertiary_level WithoutCase (0x0500 ∷ 0x0501 ∷ [])) ≡ Less)
tertiary_leads = (refl, refl)

-- a primary that leads with 01, beside a text without a primary
primary_leads :
    (list_order (0x01100000 ∷ []) [] ≡ Greater)
    × (list_order (primary_level (keeping (λ l. l == 0x61)) 0 (0x01100000 ∷ []) ++ 1 ∷ 5 ∷ 1 ∷ []) (1 ∷ 0x47 ∷ 1 ∷ []) ≡ Less)
primary_leads = (refl, refl)

-- backward, a secondary that leads with the byte that parts segments
backward_leads :
    (segments_order ((0x0246 ∷ []) ∷ [] ∷ []) ([] ∷ (0x4700 ∷ []) ∷ []) ≡ Greater)
    × (list_order (backward_level ((0x0246 ∷ []) ∷ [] ∷ [])) (backward_level ([] ∷ (0x4700 ∷ []) ∷ [])) ≡ Less)
backward_leads = (refl, refl)

-- ---- compressible leads
-- a second byte below 04, beside the merge separator
low_second_byte :
    (list_order (0x6301FE00 ∷ 0x6301FE00 ∷ []) (0x6301FE00 ∷ 0x02000000 ∷ []) ≡ Greater)
    × (list_order (primary_level (keeping (λ l. l == 0x63)) 0 (0x6301FE00 ∷ 0x6301FE00 ∷ []))
    (primary_level (keeping (λ l. l == 0x63)) 0 (0x6301FE00 ∷ 0x02000000 ∷ [])) ≡ Less)
low_second_byte = (refl, refl)

-- the second byte FF, beside a greater lead
high_second_byte :
    (list_order (0x63FFFE00 ∷ 0x63FFFE00 ∷ []) (0x63FFFE00 ∷ 0x64100000 ∷ []) ≡ Less)
    × (list_order (primary_level (keeping (λ l. l == 0x63)) 0 (0x63FFFE00 ∷ 0x63FFFE00 ∷ []))
    (primary_level (keeping (λ l. l == 0x63)) 0 (0x63FFFE00 ∷ 0x64100000 ∷ [])) ≡ Greater)
high_second_byte = (refl, refl)

-- the merge separator's own lead: two of them are written as one
compressible_separator :
    (list_order (0x02000000 ∷ 0x02000000 ∷ []) (0x02000000 ∷ []) ≡ Greater)
    × (primary_level (keeping (λ l. l == 2)) 0 (0x02000000 ∷ 0x02000000 ∷ []) ≡ primary_level (keeping (λ l. l == 2)) 0 (0x02000000 ∷ []))
compressible_separator = (refl, refl)

-- one lead after reordering, compressible for some
abbrev joined : Compression
joined = record { reorder = λ p. if p == 0x10010000 then 0x61010000 else p; is_compressible = λ l. l == 0x61 }

mixed_lead :
    (list_order (map joined.reorder (0x61100000 ∷ 0x10010000 ∷ [])) (map joined.reorder (0x61100000 ∷ 0x02000000 ∷ [])) ≡ Greater)
    × (list_order (primary_level joined 0 (0x61100000 ∷ 0x10010000 ∷ [])) (primary_level joined 0 (0x61100000 ∷ 0x02000000 ∷ [])) ≡ Less)
mixed_lead = (refl, refl)

-- ---- numbers, with 1C, 30 and FC as numeric lead
-- a reachable primary with the numeric lead
numeric_primary :
    (list_order (0x1C020000 ∷ []) (0x1C000000 ∷ 0x1C000000 ∷ []) ≡ Greater)
    × (list_order (primary_level (keeping (λ l. l == 0x61)) 0 (0x1C020000 ∷ []))
    (primary_level (keeping (λ l. l == 0x61)) 0 (0x1C000000 ∷ 0x1C000000 ∷ [])) ≡ Less)
numeric_primary = (refl, refl)

-- a reachable primary that reordering gives the lead of numbers, beside 100000001
abbrev onto_numbers : Compression
onto_numbers = record { reorder = λ p. if p == 0x61850000 then 0x30850000 else p; is_compressible = λ l. l == 0x62 }

moved_onto_numbers :
    (list_order (map onto_numbers.reorder (0x61850000 ∷ 0x62100000 ∷ [])) (map onto_numbers.reorder (0x30850D0B ∷ 0x300B0B0C ∷ [])) ≡ Less)
    × (list_order (primary_level onto_numbers 0 (0x61850000 ∷ 0x62100000 ∷ []))
    (primary_level onto_numbers 0 (0x30850D0B ∷ 0x300B0B0C ∷ [])) ≡ Greater)
moved_onto_numbers = (refl, refl)

-- a compressible numeric lead
compressible_numeric :
    (list_order (0xFC020000 ∷ 0x62FE3F00 ∷ []) (0xFC020000 ∷ 0xFC020000 ∷ []) ≡ Less)
    × (list_order (primary_level (keeping (λ l. l == 0xFC)) 0 (0xFC020000 ∷ 0x62FE3F00 ∷ []))
    (primary_level (keeping (λ l. l == 0xFC)) 0 (0xFC020000 ∷ 0xFC020000 ∷ [])) ≡ Greater)
compressible_numeric = (refl, refl)

-- ---- lists as long
-- lower case first: lower alone is written as nothing, however much of it
cases_as_long :
    (list_order (0 ∷ []) [] ≡ Greater) × (case_level LowerFirst (0 ∷ []) ≡ case_level LowerFirst [])
cases_as_long = (refl, refl)

-- and so are common quaternaries where none is shifted
quaternaries_as_long :
    (list_order (2 ^ 32 ∷ []) [] ≡ Greater) × (quaternary_level Unshifted (2 ^ 32 ∷ []) ≡ quaternary_level Unshifted [])
quaternaries_as_long = (refl, refl)

-- backward, no segment at all and an empty one are written alike
some_segment :
    (segments_order ([] ∷ []) [] ≡ Greater) × (backward_level ([] ∷ []) ≡ backward_level [])
some_segment = (refl, refl)

-- ---- the byte 1B before a shifted primary keeps it below the bytes of runs
shifted_escape :
    list_order (quaternary_level MayShift (0x1D100000 ∷ [])) (quaternary_level MayShift (2 ^ 32 ∷ 2 ^ 32 ∷ 2 ^ 32 ∷ [])) ≡ Less
shifted_escape = refl
