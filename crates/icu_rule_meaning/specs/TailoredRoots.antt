-- What rules ask of the root (UTS #35 part 5, "Root Collation").
use Rattle.std.specs.Prelude.{ℕ, nat_lt, if◌then◌else◌, List, [], ◌∷◌, Option, Some, None}
use Rattle.icu_table_entries.specs.Elements.{Element}
use Rattle.icu_rule_meaning.specs.declared.symbolic.SymbolicWeight.{SymbolicWeight}
use Rattle.icu_rule_meaning.specs.declared.symbolic.SymbolicWeight.TheVariants.{Rooted, Tailored}
use Rattle.icu_rule_meaning.specs.SymbolicElements.{ends_with_zero}

-- the elements of a character behind a prefix, nearest character first, with the suffix after it
pub record RootMapping : Type 0 where
  pub prefix : List ℕ
  pub suffix : List ℕ
  pub elements : List Element

-- A root. Each character has a mapping without prefix and suffix, and maybe others.
pub record Root : Type 0 where
  pub mappings : ℕ → List RootMapping
  -- the weights of a level below those of the levels before, ascending: primaries below none, and so on
  pub weights : List ℕ → List ℕ
  -- the last primary weight that may be variable
  pub last_variable : ℕ
  -- the primary weights of `[last regular]` and `[first implicit]`
  pub last_regular : ℕ
  pub first_implicit : ℕ

-- the greatest of ascending weights that is less, or the one before them
unfoldable pub last_below : Option ℕ → List ℕ → ℕ → Option ℕ
last_below found [] w = found
last_below found (v ∷ vs) w = if nat_lt v w then last_below (Some v) vs w else found

-- the least of ascending weights that is greater
unfoldable pub first_above : List ℕ → ℕ → Option ℕ
first_above [] w = None
first_above (v ∷ vs) w = if nat_lt w v then Some v else first_above vs w

-- the weights of the root, where none is tailored
abbrev pub numbers_of : List SymbolicWeight → Option (List ℕ)
numbers_of [] = Some []
numbers_of (Tailored k ∷ ws) = None
numbers_of (Rooted w ∷ ws) = elim (numbers_of ws) [ None ↦ None | Some rest ↦ Some (w ∷ rest) ]

-- below all weights of a level
abbrev pub lowest : ℕ
lowest = 0x100

-- what stands below all weights of the root that are below these: nothing but 0 below 0
abbrev pub lowest_below : List SymbolicWeight → ℕ
lowest_below above = if ends_with_zero above then 0 else lowest

-- the next lesser weight of the root below the weights of the levels before, or what stands below all
unfoldable pub lesser_weight : Root → List SymbolicWeight → ℕ → ℕ
lesser_weight root above w =
    let least : ℕ = lowest_below above in
    elim (numbers_of above) [
      | None ↦ least
      | Some numbers ↦ (elim (last_below None (root.weights numbers) w) [ None ↦ least | Some v ↦ v ])
    ]
