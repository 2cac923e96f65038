-- Texts with a common beginning: the lists of each are those of the beginning, and then its own.
use Rattle.std.specs.Prelude.{◌≡◌, ◌++◌, Option, Some, None, ⊤}
use Rattle.icu_order_levels.specs.Keys.{LevelLists}
use Rattle.icu_order_levels.specs.declared.forms.SecondaryForm.{SecondaryForm}
use Rattle.icu_order_levels.specs.declared.forms.SecondaryForm.TheVariants.{Forward, Backward}

-- on each level the lists of the whole are those of the front, and then those of the rest; of segments nothing is said
pub record HasFront (front whole rest : LevelLists) : Type 0 where
  pub primaries : whole.primaries ≡ front.primaries ++ rest.primaries
  pub secondaries : whole.secondaries ≡ front.secondaries ++ rest.secondaries
  pub cases : whole.cases ≡ front.cases ++ rest.cases
  pub tertiaries : whole.tertiaries ≡ front.tertiaries ++ rest.tertiaries
  pub quaternaries : whole.quaternaries ≡ front.quaternaries ++ rest.quaternaries
  pub characters : whole.characters ≡ front.characters ++ rest.characters

-- secondaries aren't read backward
abbrev pub ReadsForward : Option SecondaryForm → Type 0
ReadsForward None = ⊤
ReadsForward (Some Forward) = ⊤
ReadsForward (Some Backward) = ⊥
