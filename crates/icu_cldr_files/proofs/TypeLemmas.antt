-- Types that are asked for in turn.
use Rattle.std.proofs.Common.{◌≡◌, ℕ, List, [], ◌∷◌, Bool, true, false, Option, Some, None, sym, subst, codes, if◌then◌else◌}
use Rattle.icu_cldr_files.specs.CollationTypes.{FindsFirst, by_this, by_later, by_none, is_long_search, last_types, stand_ins}

-- what is found of the last type
pub finds_last : {A : Type 0} (finds : List ℕ → Option A → Type 0) (kind : List ℕ) (found : Option A) → finds kind found
    → FindsFirst finds (kind ∷ []) found
finds_last finds kind None there = by_later there by_none
finds_last finds kind (Some found) there = by_this there

-- the types that stand in, where `search` is one of them and where it isn't
pub with_search : {A : Type 0} (finds : List ℕ → Option A → Type 0) (kind default_type : List ℕ) (found : Option A)
    → is_long_search kind ≡ true → FindsFirst finds (codes "search" ∷ last_types default_type) found
    → FindsFirst finds (stand_ins kind default_type) found
with_search finds kind default_type found long first =
    subst (λ (test : Bool). FindsFirst finds (if test then codes "search" ∷ last_types default_type else last_types default_type) found) (sym long) first

pub without_search : {A : Type 0} (finds : List ℕ → Option A → Type 0) (kind default_type : List ℕ) (found : Option A)
    → is_long_search kind ≡ false → FindsFirst finds (last_types default_type) found
    → FindsFirst finds (stand_ins kind default_type) found
without_search finds kind default_type found short first =
    subst (λ (test : Bool). FindsFirst finds (if test then codes "search" ∷ last_types default_type else last_types default_type) found) (sym short) first
