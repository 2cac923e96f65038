-- What the order of whole keys asks of two texts.
use Rattle.std.specs.Prelude.{false, ◌≡◌, ℕ, ◌<◌, length, Option, Some, None}
use Rattle.std.specs.List.{AllByRecursion}
use Rattle.std.specs.declared.cmp.Ordering.TheVariants.{Equal}
use Rattle.icu_order_levels.specs.Primaries.{Compression}
use Rattle.icu_order_levels.specs.Premises.{AreSecondaries, forward_least, backward_least, AreTertiaries, AreShifted, IsUnshifted, IsQuaternary, IsRank, IsPrimaryList, ArePrimaries}
use Rattle.icu_order_levels.specs.Keys.{LevelLists, primaries_order, secondaries_order, cases_order, tertiaries_order}
use Rattle.icu_order_levels.specs.declared.forms.CaseForm.TheVariants.{LowerFirst}
use Rattle.icu_order_levels.specs.declared.forms.KeyForm.{KeyForm}
use Rattle.icu_order_levels.specs.declared.forms.QuaternaryForm.{QuaternaryForm}
use Rattle.icu_order_levels.specs.declared.forms.QuaternaryForm.TheVariants.{MayShift, Unshifted}
use Rattle.icu_order_levels.specs.declared.forms.SecondaryForm.{SecondaryForm}
use Rattle.icu_order_levels.specs.declared.forms.SecondaryForm.TheVariants.{Backward, Forward}
use Rattle.icu_order_levels.specs.declared.forms.TertiaryForm.{TertiaryForm}

-- Which weights may occur, and the lead of the weights of numbers. Primaries are as they are before reordering, shifted
-- ones as they are after it, tertiaries as the form of the key has them
pub record ReachableWeights : Type 1 where
  pub primary : ℕ → Type 0
  pub secondary : ℕ → Type 0
  pub tertiary : ℕ → Type 0
  pub shifted_primary : ℕ → Type 0
  pub numeric : ℕ

-- secondaries that may occur are as the level asks in its direction, where the key has it
abbrev pub SecondaryWeights : Option SecondaryForm → (ℕ → Type 0) → Type 0
SecondaryWeights None IsReachable = Unit {0}
SecondaryWeights (Some Forward) IsReachable = AreSecondaries forward_least IsReachable
SecondaryWeights (Some Backward) IsReachable = AreSecondaries backward_least IsReachable

-- tertiaries that may occur are as the level asks in its form, where the key has it
abbrev pub TertiaryWeights : Option TertiaryForm → (ℕ → Type 0) → Type 0
TertiaryWeights None IsReachable = Unit {0}
TertiaryWeights (Some form) IsReachable = AreTertiaries form IsReachable

-- shifted primaries that may occur are as the quaternary level asks in its form, where the key has it
abbrev pub QuaternaryWeights : Option QuaternaryForm → (ℕ → Type 0) → Type 0
QuaternaryWeights None IsReachable = Unit {0}
QuaternaryWeights (Some MayShift) IsReachable = AreShifted IsReachable
QuaternaryWeights (Some Unshifted) IsReachable = Unit {0}

-- the weights that may occur are as the levels of a key of this form ask
pub record AreWeights (c : Compression) (f : KeyForm) (reachable : ReachableWeights) : Type 0 where
  pub primaries : ArePrimaries c reachable.numeric reachable.primary
  pub secondaries : SecondaryWeights f.secondary reachable.secondary
  pub tertiaries : TertiaryWeights f.tertiary reachable.tertiary
  pub quaternaries : QuaternaryWeights f.quaternary reachable.shifted_primary

-- the secondaries of a text may occur, and a backward level has a segment at least
abbrev pub SecondaryMembers : Option SecondaryForm → (ℕ → Type 0) → LevelLists → Type 0
SecondaryMembers None IsReachable t = Unit {0}
SecondaryMembers (Some Forward) IsReachable t = AllByRecursion IsReachable t.secondaries
SecondaryMembers (Some Backward) IsReachable t = (0 < length t.segments) × AllByRecursion (AllByRecursion IsReachable) t.segments

-- the tertiaries of a text may occur
abbrev pub TertiaryMembers : Option TertiaryForm → (ℕ → Type 0) → LevelLists → Type 0
TertiaryMembers None IsReachable t = Unit {0}
TertiaryMembers (Some form) IsReachable t = AllByRecursion IsReachable t.tertiaries

-- the quaternaries of a text may occur, in the form of the level
abbrev pub QuaternaryMembers : Option QuaternaryForm → (ℕ → Type 0) → LevelLists → Type 0
QuaternaryMembers None IsReachable t = Unit {0}
QuaternaryMembers (Some MayShift) IsReachable t = AllByRecursion (IsQuaternary IsReachable) t.quaternaries
QuaternaryMembers (Some Unshifted) IsReachable t = AllByRecursion IsUnshifted t.quaternaries

-- the lists of a text have only weights that may occur, and a backward level has a segment at least
pub record AreLists (f : KeyForm) (reachable : ReachableWeights) (t : LevelLists) : Type 0 where
  pub primaries : IsPrimaryList reachable.numeric reachable.primary false t.primaries
  pub secondaries : SecondaryMembers f.secondary reachable.secondary t
  pub cases : AllByRecursion IsRank t.cases
  pub tertiaries : TertiaryMembers f.tertiary reachable.tertiary t
  pub quaternaries : QuaternaryMembers f.quaternary reachable.shifted_primary t
  pub characters : AllByRecursion (λ c. c < 0x110000) t.characters

-- What equal earlier lists give of two texts: lower case first as many cases, and where no element is shifted as many
-- quaternaries
pub record AreParallel (c : Compression) (f : KeyForm) (t u : LevelLists) : Type 0 where
  pub cases : f.cases ≡ Some LowerFirst → primaries_order c t u ≡ Equal → secondaries_order f.secondary t u ≡ Equal
      → length t.cases ≡ length u.cases
  pub quaternaries : f.quaternary ≡ Some Unshifted → primaries_order c t u ≡ Equal → secondaries_order f.secondary t u ≡ Equal
      → cases_order f.cases t u ≡ Equal → tertiaries_order f.tertiary t u ≡ Equal → length t.quaternaries ≡ length u.quaternaries
