use Rattle.std.proofs.Common.{subst}
use Rattle.icu_text_decomposition.specs.inner.ClassNumbers.{IsUsedClass}
use Rattle.icu_text_decomposition.proofs.ClassNumberLemmas.{mark_class-is_used}
use Rattle.icu_text_decomposition.proofs.class_places.ClassPlaces.go_on.Goals as goal

pub set-requires : goal.set-requires
set-requires g c = λ _. subst IsUsedClass c.in-Some.ensures.own.1 (mark_class-is_used c.in-Some.found.mark c.in-Some.ensures.own.0)
