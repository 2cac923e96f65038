-- Where texts with a common beginning may be cut, so that what follows it decides.
use Rattle.std.specs.Prelude.{◌≡◌, ◌⊎◌, ℕ, Bool, true, not, ◌==◌, List, [], ◌∷◌, ◌++◌, ⊤}
use Rattle.ucd_normal.specs.declared.forms.Form.TheVariants.{Nfd}
use Rattle.unicode_normalization.specs.Decompose.{decompose}
use Rattle.unicode_normalization.specs.Forms.{nfd}
use Rattle.icu_order_levels.specs.CommonBeginnings.{ReadsForward}
use Rattle.icu_table_entries.specs.Elements.{Element}
use Rattle.icu_element_reading.specs.TextElements.{elements_of}
use Rattle.icu_element_reading.specs.boundaries.Cuts.{IsBoundary}
use Rattle.icu_order_texts.specs.weighting.Collations.{Collation}
use Rattle.icu_order_texts.specs.weighting.Forms.{form_by, last_variable_by}
use Rattle.icu_order_texts.specs.TextOrder.{reading_by, text_order}

-- the first element, if there is one, has a primary
abbrev pub begins_with_primary : List Element → Bool
begins_with_primary [] = true
begins_with_primary (x ∷ xs) = not (x.primary == 0)

-- A text that begins with this character is compared by itself: the character's decomposition begins with a boundary,
-- and where elements may be variable its first element has a primary.
pub record BeginsAnew (collation : Collation) (c : ℕ) (cs : List ℕ) : Type 0 where
  pub first : ℕ
  pub more : List ℕ
  pub decomposes : decompose Nfd c ≡ first ∷ more
  pub boundary : IsBoundary (reading_by collation) first
  pub handled : (last_variable_by collation ≡ 0) ⊎ (begins_with_primary (elements_of (reading_by collation) (nfd (c ∷ cs))) ≡ true)

-- a text may be the rest of any other: what stands before it changes nothing of what it gives
abbrev pub IsRest : Collation → List ℕ → Type 0
IsRest collation [] = ⊤
IsRest collation (c ∷ cs) = BeginsAnew collation c cs

-- texts with a common beginning are in the order of what follows it, where secondaries aren't read backward
abbrev pub CommonBeginningsDoNotCount : Type 0
CommonBeginningsDoNotCount =
    (c : Collation) → ReadsForward (form_by c).secondary
    → (beginning t u : List ℕ) → IsRest c t → IsRest c u
    → text_order c (beginning ++ t) (beginning ++ u) ≡ text_order c t u
