-- What the first characters of a text say of its order.
use Rattle.std.specs.Prelude.{◌≡◌, ◌≢◌, ◌==◌, ℕ, Bool, false, List, [], ◌∷◌, ◌++◌, Option, Some, None, if◌then◌else◌}
use Rattle.std.specs.Ordering.{nat_cmp}
use Rattle.std.specs.declared.cmp.Ordering.{Ordering}
use Rattle.std.specs.declared.cmp.Ordering.TheVariants.{Equal}
use Rattle.unicode_normalization.specs.Forms.{nfd}
use Rattle.icu_table_entries.specs.Elements.{Element}
use Rattle.icu_order_levels.specs.ListOrder.{list_order}
use Rattle.icu_element_reading.specs.TextElements.{elements_of}
use Rattle.icu_element_cursor.specs.declared.facts_cursor.FactsCursor.{FactsCursor}
use Rattle.icu_element_cursor.specs.FactsCursors.{facts_give}
use Rattle.icu_order_texts.specs.weighting.Collations.{Collation}
use Rattle.icu_order_texts.specs.weighting.Forms.{last_variable_by}
use Rattle.icu_order_texts.specs.weighting.Handled.{handled, stayed_elements}
use Rattle.icu_order_texts.specs.weighting.Levels.{primaries}
use Rattle.icu_order_texts.specs.TextOrder.{reading_by}

-- a list begins with this number, which isn't 0, or is empty where it is
abbrev pub IsFirst : ℕ → List ℕ → Type 0
IsFirst p [] = p ≡ 0
IsFirst p (x ∷ xs) = (x ≡ p) × (p ≢ 0)

-- the primaries of elements, where a variable one came last before them or not
abbrev pub primaries_given : Collation → Bool → List Element → List ℕ
primaries_given c after es =
    primaries (stayed_elements (handled c.settings.alternate_handling (last_variable_by c) after es))

-- those of a text
abbrev pub primaries_of : Collation → List ℕ → List ℕ
primaries_of c t = primaries_given c false (elements_of (reading_by c) (nfd t))

-- the primaries of a text begin with this one, or there are none where it is 0
unfoldable pub LeadsWith : Collation → List ℕ → ℕ → Type 0
LeadsWith c t p = IsFirst p (primaries_of c t)

-- this order is that of two lists, and isn't Equal
abbrev pub Decides : List ℕ → List ℕ → Ordering → Type 0
Decides ps qs o = (o ≡ list_order ps qs) × (o ≢ Equal)

-- the order of two weights, where they differ
abbrev pub unequal_order : ℕ → ℕ → Option Ordering
unequal_order p q = if p == q then None else Some (nat_cmp p q)

-- whatever stands before, the primaries of what a cursor over characters gives are these, and then those of what it
-- gives later
abbrev pub GivesPrimaries : {T : Type 0} → Collation → (T → List ℕ) → FactsCursor T → List ℕ → FactsCursor T → Type 0
GivesPrimaries c text old ps new =
    (before : List ℕ) (after : Bool) → (b : List ℕ) × (a : Bool)
    × (primaries_given c after (facts_give text old before) ≡ ps ++ primaries_given c a (facts_give text new b))

-- a single one
abbrev pub GivesPrimary : {T : Type 0} → Collation → (T → List ℕ) → FactsCursor T → ℕ → FactsCursor T → Type 0
GivesPrimary c text old p new = GivesPrimaries c text old (p ∷ []) new

-- the primaries of a text are these, and then those of what a cursor over characters gives
abbrev pub ReadsOn : {T : Type 0} → Collation → List ℕ → List ℕ → (T → List ℕ) → FactsCursor T → Type 0
ReadsOn collation t ps text c =
    (b : List ℕ) × (a : Bool) × (primaries_of collation t ≡ ps ++ primaries_given collation a (facts_give text c b))
