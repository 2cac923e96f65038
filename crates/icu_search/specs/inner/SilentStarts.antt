-- Characters at which a match may begin, and which give nothing below the quaternary level.
use Rattle.std.specs.Prelude.{◌≡◌, ◌⊎◌, ℕ, Bool, true, false, not, ◌&&◌, ◌||◌, ◌==◌, List, [], ◌∷◌, None, if◌then◌else◌}
use Rattle.std.specs.List.{list_all}
use Rattle.unicode_normalization.specs.Forms.{nfd}
use Rattle.icu_order_levels.specs.declared.forms.KeyForm.{KeyForm}
use Rattle.icu_table_entries.specs.Elements.{Element}
use Rattle.icu_element_reading.specs.TextElements.{elements_of}
use Rattle.icu_order_texts.specs.weighting.Collations.{Collation}
use Rattle.icu_order_texts.specs.weighting.Forms.{last_variable_by}
use Rattle.icu_order_texts.specs.weighting.Handled.{is_variable}
use Rattle.icu_order_texts.specs.TextOrder.{reading_by}
use Rattle.icu_search_places.specs.PieceLaws.{BeginsPieces}

-- an element without weights
abbrev pub is_weightless : Element → Bool
is_weightless x = x.primary == 0 && (x.secondary == 0 && x.lower == 0)

-- an element that gives nothing below the quaternary level: it has no weights, or is variable, and the last variable
-- weight is this one
abbrev pub is_silent : ℕ → Element → Bool
is_silent last x = is_weightless x || is_variable last x

-- elements that begin with a primary weight, or none
abbrev pub begins_with_primary : List Element → Bool
begins_with_primary [] = true
begins_with_primary (x ∷ xs) = not (x.primary == 0)

-- Elements give nothing below the quaternary level: each is silent, or vanishes since it has no primary weight and a
-- variable element came last (UTS #10, "Variable Weighting"). The last variable weight is given, and whether a variable
-- element came last.
unfoldable pub gives_none : ℕ → Bool → List Element → Bool
gives_none last after [] = true
gives_none last after (x ∷ xs) =
    if is_variable last x then gives_none last true xs else (is_weightless x || (after && x.primary == 0)) && gives_none last after xs

-- An element gives nothing behind others, if a variable one came last among them or none did; behind it one did or
-- none did.
pub record PassesNone (last : ℕ) (after : Bool) (x : Element) (now : Bool) : Type 0 where
  pub none : (xs : List Element) → gives_none last after (x ∷ xs) ≡ gives_none last now xs
  pub weightless : now ≡ false → (after ≡ false) × (is_weightless x ≡ true)

-- A text is silent before another one that may be cut off it: its elements give nothing, and the elements of the other
-- begin with a primary weight, since after a variable element others would vanish. That isn't needed where the first
-- ones have no weights.
pub record IsSilentBefore (c : Collation) (front : List ℕ) (y : ℕ) (tail : List ℕ) : Type 0 where
  pub pieces : BeginsPieces (reading_by c) y
  pub silent : gives_none (last_variable_by c) false (elements_of (reading_by c) (nfd front)) ≡ true
  pub either : (list_all is_weightless (elements_of (reading_by c) (nfd front)) ≡ true)
      ⊎ (begins_with_primary (elements_of (reading_by c) (nfd (y ∷ tail))) ≡ true)

-- no level counts from the quaternary one on
pub record EndsAtTertiaries (f : KeyForm) : Type 0 where
  pub quaternary : f.quaternary ≡ None
  pub identical : f.identical ≡ false
