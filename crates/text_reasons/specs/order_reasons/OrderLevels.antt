-- The levels of a collation, one by one (UTS #10, "Multi-Level Comparison"; UTS #35 part 5, "Setting Options").
use Rattle.std.specs.Prelude.{ℕ, Bool, true, false, not, ◌&&◌, List, [], ◌∷◌, Option, Some, None, if◌then◌else◌}
use Rattle.std.specs.Ordering.{is_eq}
use Rattle.icu_options.specs.Settings.{Settings}
use Rattle.icu_options.specs.declared.settings.Strength.{Strength}
use Rattle.icu_options.specs.declared.settings.Strength.TheVariants as strengths
use Rattle.icu_order_texts.specs.weighting.Collations.{Collation}
use Rattle.icu_order_texts.specs.TextOrder.{reading_by, text_order}
use Rattle.icu_collator.specs.LevelWeighings.{weighing_by}
use Rattle.text_reasons.specs.DecidingParts.{deciding_part}
use Rattle.icu_order_texts.specs.declared.level_weights.order_level.OrderLevel.{OrderLevel}
use Rattle.icu_order_texts.specs.declared.level_weights.order_level.OrderLevel.TheVariants.{Primary, Secondary, Case, Tertiary, Quaternary, Identical}

-- ---- which levels count

-- accents count at this strength
abbrev pub counts_secondary : Strength → Bool
counts_secondary strengths.Primary = false
counts_secondary strengths.Secondary = true
counts_secondary strengths.Tertiary = true
counts_secondary strengths.Quaternary = true
counts_secondary strengths.Identical = true

-- case and variants count at this strength
abbrev pub counts_tertiary : Strength → Bool
counts_tertiary strengths.Primary = false
counts_tertiary strengths.Secondary = false
counts_tertiary strengths.Tertiary = true
counts_tertiary strengths.Quaternary = true
counts_tertiary strengths.Identical = true

-- the quaternary level counts at this strength
abbrev pub counts_quaternary : Strength → Bool
counts_quaternary strengths.Primary = false
counts_quaternary strengths.Secondary = false
counts_quaternary strengths.Tertiary = false
counts_quaternary strengths.Quaternary = true
counts_quaternary strengths.Identical = true

-- characters count at this strength
abbrev pub counts_identical : Strength → Bool
counts_identical strengths.Primary = false
counts_identical strengths.Secondary = false
counts_identical strengths.Tertiary = false
counts_identical strengths.Quaternary = false
counts_identical strengths.Identical = true

-- a level counts by these settings
abbrev pub level_counts : OrderLevel → Settings → Bool
level_counts Primary s = true
level_counts Secondary s = counts_secondary s.strength
level_counts Case s = s.case_level
level_counts Tertiary s = counts_tertiary s.strength
level_counts Quaternary s = counts_quaternary s.strength
level_counts Identical s = counts_identical s.strength

-- ---- a collation up to a level

-- the strength of a collation that has no level behind the case level
abbrev pub strength_before_case : Strength → Strength
strength_before_case s = if counts_secondary s then strengths.Secondary else strengths.Primary

-- the strength up to a level
abbrev pub strength_up_to : OrderLevel → Strength → Strength
strength_up_to Primary s = strengths.Primary
strength_up_to Secondary s = strengths.Secondary
strength_up_to Case s = strength_before_case s
strength_up_to Tertiary s = strengths.Tertiary
strength_up_to Quaternary s = strengths.Quaternary
strength_up_to Identical s = strengths.Identical

-- whether there is a case level up to a level
abbrev pub case_up_to : OrderLevel → Bool → Bool
case_up_to Primary case_level = false
case_up_to Secondary case_level = false
case_up_to _ case_level = case_level

-- the same collation without the levels behind one that counts
abbrev pub up_to : OrderLevel → Collation → Collation
up_to l c = record c {
  settings = record c.settings {
    strength = strength_up_to l c.settings.strength;
    case_level = case_up_to l c.settings.case_level;
  };
}

-- all levels, in their order
abbrev pub all_levels : List OrderLevel
all_levels = Primary ∷ Secondary ∷ Case ∷ Tertiary ∷ Quaternary ∷ Identical ∷ []

-- ---- the level that decides

-- texts differ up to a level that counts
abbrev pub differ_by : Collation → List ℕ → List ℕ → OrderLevel → Bool
differ_by c t u l = level_counts l c.settings && not (is_eq (text_order (up_to l c) t u))

-- the first of some levels up to which texts differ
abbrev pub first_differing : Collation → List ℕ → List ℕ → List OrderLevel → Option OrderLevel
first_differing c t u [] = None
first_differing c t u (l ∷ ls) = if differ_by c t u l then Some l else first_differing c t u ls

-- the level that decides the order of two texts, if they differ
abbrev pub deciding_level : Collation → List ℕ → List ℕ → Option OrderLevel
deciding_level c t u = first_differing c t u all_levels

-- the characters of a text that decide at a level, beside another text
abbrev pub deciding_part_by : Collation → OrderLevel → List ℕ → List ℕ → List ℕ
deciding_part_by c l text other = deciding_part (reading_by c) (weighing_by c l) text other
