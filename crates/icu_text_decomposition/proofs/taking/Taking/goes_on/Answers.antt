use Rattle.std.proofs.Common.{◌+◌, refl, sym, subst}
use Rattle.icu_text_decomposition.specs.inner.BeginningMarks.{BeginsAbove}
use Rattle.icu_text_decomposition.proofs.BeginningMarkLemmas.{above-nil}
use Rattle.icu_text_decomposition.proofs.taking.Taking.goes_on.Goals as goal

pub returns-in-None : goal.returns-in-None
returns-in-None g c = λ _. subst (BeginsAbove (c.args.class + 1)) (sym (c.in-None.ensures.none refl)) (above-nil (c.args.class + 1))
