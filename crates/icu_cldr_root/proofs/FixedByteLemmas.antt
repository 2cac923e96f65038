-- The names of fixed bytes, one by one.
use Rattle.std.proofs.Common.{◌≡◌, ℕ, ◌<◌, List, [], ◌∷◌, Some, refl, lit<}
use Rattle.std.specs.Prelude.{slice_get}
use Rattle.icu_cldr_root.specs.declared.fixed_bytes.FixedName.{FixedName}
use Rattle.icu_cldr_root.specs.declared.fixed_bytes.FixedName.TheVariants.{FirstImplicit, LastImplicit, FirstTrail, LastTrail, FirstSpecial, LastSpecial, SecondaryCommon, LastSecondaryCommon, FirstIgnorableSecondary, TertiaryCommon, FirstIgnorableTertiary}

-- all of them
abbrev pub all_names : List FixedName
all_names = FirstImplicit ∷ LastImplicit ∷ FirstTrail ∷ LastTrail ∷ FirstSpecial ∷ LastSpecial ∷ SecondaryCommon ∷ LastSecondaryCommon ∷ FirstIgnorableSecondary ∷ TertiaryCommon ∷ FirstIgnorableTertiary ∷ []

-- what holds of each that is listed holds of each
pub each_name : (P : FixedName → Type 0) → ((k : ℕ) → k < 11 → (name : FixedName) → slice_get all_names k ≡ Some name → P name)
    → (name : FixedName) → P name
each_name P h FirstImplicit = h 0 (lit< tt) FirstImplicit refl
each_name P h LastImplicit = h 1 (lit< tt) LastImplicit refl
each_name P h FirstTrail = h 2 (lit< tt) FirstTrail refl
each_name P h LastTrail = h 3 (lit< tt) LastTrail refl
each_name P h FirstSpecial = h 4 (lit< tt) FirstSpecial refl
each_name P h LastSpecial = h 5 (lit< tt) LastSpecial refl
each_name P h SecondaryCommon = h 6 (lit< tt) SecondaryCommon refl
each_name P h LastSecondaryCommon = h 7 (lit< tt) LastSecondaryCommon refl
each_name P h FirstIgnorableSecondary = h 8 (lit< tt) FirstIgnorableSecondary refl
each_name P h TertiaryCommon = h 9 (lit< tt) TertiaryCommon refl
each_name P h FirstIgnorableTertiary = h 10 (lit< tt) FirstIgnorableTertiary refl
