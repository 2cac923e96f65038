-- The theorems on whole keys, as contracts name them.
use Rattle.std.specs.Prelude.{Bool, true, false, ◌≡◌, ◌↔◌, ℕ, List, ◌∷◌, ◌++◌, map, Option, Some, None}
use Rattle.std.specs.declared.cmp.Ordering.{Ordering}
use Rattle.std.specs.declared.cmp.Ordering.TheVariants.{Equal}
use Rattle.icu_order_levels.specs.ListOrder.{list_order}
use Rattle.icu_order_levels.specs.Primaries.{Compression}
use Rattle.icu_order_levels.specs.Keys.{parts_bytes, in_turn, Determines, TwoParts, DetermineInTurn, LevelLists, key_bytes, levels_order}
use Rattle.icu_order_levels.specs.KeyPremises.{ReachableWeights, AreWeights, AreLists, AreParallel}
use Rattle.icu_order_levels.specs.declared.forms.CaseForm.{CaseForm}
use Rattle.icu_order_levels.specs.declared.forms.KeyForm.{KeyForm}
use Rattle.icu_order_levels.specs.declared.forms.QuaternaryForm.{QuaternaryForm}
use Rattle.icu_order_levels.specs.declared.forms.SecondaryForm.{SecondaryForm}
use Rattle.icu_order_levels.specs.declared.forms.SecondaryForm.TheVariants.{Backward, Forward}
use Rattle.icu_order_levels.specs.declared.forms.TertiaryForm.{TertiaryForm}

-- A first level and any later ones, each absent, opened, or opened and closed: where each determines its order as long
-- as the earlier ones tie, the bytes of all have those orders in turn
abbrev pub LevelsDetermineInTurn : Type 0
LevelsDetermineInTurn =
    (ps qs : List ℕ) (o : Ordering) (parts : List TwoParts) → Determines ps qs o → (o ≡ Equal → DetermineInTurn parts)
    → list_order (ps ++ parts_bytes (map (λ p. p.left) parts)) (qs ++ parts_bytes (map (λ p. p.right) parts))
    ≡ in_turn (o ∷ map (λ p. p.order) parts)

-- keys order as the level lists in turn
abbrev pub KeysKeepOrder : ReachableWeights → Type 0
KeysKeepOrder reachable =
    (c : Compression) (f : KeyForm) (t u : LevelLists)
    → AreWeights c f reachable → AreLists f reachable t → AreLists f reachable u → AreParallel c f t u
    → list_order (key_bytes c f t) (key_bytes c f u) ≡ levels_order c f t u

-- two texts have the same secondaries, or segments of them, where the key has the level
abbrev pub SameSecondaries : Option SecondaryForm → LevelLists → LevelLists → Type 0
SameSecondaries None t u = Unit {0}
SameSecondaries (Some Forward) t u = t.secondaries ≡ u.secondaries
SameSecondaries (Some Backward) t u = t.segments ≡ u.segments

-- two texts have the same cases, where the key has the level
abbrev pub SameCases : Option CaseForm → LevelLists → LevelLists → Type 0
SameCases None t u = Unit {0}
SameCases (Some form) t u = t.cases ≡ u.cases

-- two texts have the same tertiaries, where the key has the level
abbrev pub SameTertiaries : Option TertiaryForm → LevelLists → LevelLists → Type 0
SameTertiaries None t u = Unit {0}
SameTertiaries (Some form) t u = t.tertiaries ≡ u.tertiaries

-- two texts have the same quaternaries, where the key has the level
abbrev pub SameQuaternaries : Option QuaternaryForm → LevelLists → LevelLists → Type 0
SameQuaternaries None t u = Unit {0}
SameQuaternaries (Some form) t u = t.quaternaries ≡ u.quaternaries

-- two texts have the same characters, where the key has the level
abbrev pub SameCharacters : Bool → LevelLists → LevelLists → Type 0
SameCharacters false t u = Unit {0}
SameCharacters true t u = t.characters ≡ u.characters

-- two texts have the same list at each level that the key has
pub record HaveSameLists (c : Compression) (f : KeyForm) (t u : LevelLists) : Type 0 where
  pub primaries : map c.reorder t.primaries ≡ map c.reorder u.primaries
  pub secondaries : SameSecondaries f.secondary t u
  pub cases : SameCases f.cases t u
  pub tertiaries : SameTertiaries f.tertiary t u
  pub quaternaries : SameQuaternaries f.quaternary t u
  pub characters : SameCharacters f.identical t u

-- two texts have one key exactly if each level that it has is the same
abbrev pub KeysDetermineLevels : ReachableWeights → Type 0
KeysDetermineLevels reachable =
    (c : Compression) (f : KeyForm) (t u : LevelLists)
    → AreWeights c f reachable → AreLists f reachable t → AreLists f reachable u → AreParallel c f t u
    → (key_bytes c f t ≡ key_bytes c f u) ↔ HaveSameLists c f t u
