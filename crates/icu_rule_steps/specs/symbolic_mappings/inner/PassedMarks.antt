-- Marks of a text one after another, none of which has a class above another one.
use Rattle.std.specs.Prelude.{◌≡◌, ℕ, ◌-◌, ◌<◌, ◌≤◌, List, length, slice_get, Some}
use Rattle.ucd_normal.specs.CanonicalCombiningClass.{canonical_combining_class as class_of}
use Rattle.icu_rule_steps.specs.declared.symbolic_mappings.mark_runs.MarkRun.{MarkRun}

-- it is a mark of a class up to this one
pub record IsMarkTo (class m : ℕ) : Type 0 where
  pub mark : 0 < class_of m
  pub most : class_of m ≤ class

-- each character of a text from an offset on, up to before another one, is so
abbrev pub AreMarksTo : ℕ → List ℕ → ℕ → ℕ → Type 0
AreMarksTo class text start stop = (i m : ℕ) → start ≤ i → i < stop → slice_get text i ≡ Some m → IsMarkTo class m

-- each character of a run is so: how many are left of the text tells where it begins and where it ends
abbrev pub IsMarkRun : MarkRun → List ℕ → Type 0
IsMarkRun run text = (i m : ℕ) → run.last < length text - i → length text - i ≤ run.first → slice_get text i ≡ Some m → IsMarkTo run.class m
