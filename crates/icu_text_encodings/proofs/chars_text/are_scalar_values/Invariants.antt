use Rattle.std.proofs.Common.{length}
use Rattle.std.specs.Char.{IsScalar}
use Rattle.std.specs.List.{AllByRecursion}
use Rattle.icu_text_encodings.proofs.chars_text.are_scalar_values.Given as goal

-- all are if those that are left are
abbrev pub invariant-characters : goal.invariant-characters
invariant-characters l = AllByRecursion IsScalar l.rest → AllByRecursion IsScalar l.fn.characters

abbrev pub decreases-characters : goal.decreases-characters
decreases-characters l = length l.rest
