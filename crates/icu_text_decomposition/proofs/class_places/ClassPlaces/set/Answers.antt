use Rattle.std.proofs.Common.{◌<◌, ap, sym, ◌∙◌, arith}
use Rattle.icu_text_decomposition.specs.inner.ClassNumbers.{class_number}
use Rattle.icu_text_decomposition.proofs.ClassPlaceLemmas.{used_place, other_places}
use Rattle.icu_text_decomposition.proofs.class_places.ClassPlaces.set.Goals as goal

pub returns-then-number-lt-CLASS_COUNT-clause-others :
    goal.returns-then-number-lt-CLASS_COUNT-clause-others
returns-then-number-lt-CLASS_COUNT-clause-others g c = other_places _ _ c.args.class _ c.class_number-number.ensures c.if-number-lt-CLASS_COUNT.true c.set.ensures.others
