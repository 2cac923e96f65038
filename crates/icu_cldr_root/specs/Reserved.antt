-- The ranges of primary weights that the root leaves free around Latin (UTS #35 part 5, "Root Collation Data Files").
use Rattle.std.specs.Prelude.{◌≡◌, ℕ, Bool, true, [], ◌∷◌, bytes_eq}
use Rattle.icu_cldr_root.specs.declared.fractional_element.FractionalElement.{FractionalElement}
use Rattle.icu_cldr_root.specs.declared.fractional_element.Primary.TheVariants.{Weight}
use Rattle.icu_cldr_root.specs.declared.mapping.Mapping.{Mapping}
use Rattle.icu_cldr_root.specs.declared.reserved.ReservedPlace.{ReservedPlace}
use Rattle.icu_cldr_root.specs.declared.reserved.ReservedPlace.TheVariants.{BeforeLatin, AfterLatin}
use Rattle.icu_cldr_root.specs.declared.reserved.ReservedRange.{ReservedRange}

-- the character that stands for a range behind U+FDD0
abbrev pub reserved_sample : ReservedPlace → ℕ
reserved_sample BeforeLatin = 0xFF21
reserved_sample AfterLatin = 0xFF3A

-- what is mapped behind the first character is this one
abbrev pub is_sample : ℕ → Mapping → Bool
is_sample c m = bytes_eq m.suffix.items (c ∷ [])

-- a mapping has one element, with this primary weight
abbrev pub HasOnlyWeight : Mapping → ℕ → Type 0
HasOnlyWeight m weight = (e : FractionalElement) × (m.elements.items ≡ e ∷ []) × (e.primary ≡ Weight weight)

-- the mapping says where a range begins
abbrev pub SaysReserved : Mapping → ReservedRange → Type 0
SaysReserved m r = (is_sample (reserved_sample r.place) m ≡ true) × HasOnlyWeight m r.first_primary
