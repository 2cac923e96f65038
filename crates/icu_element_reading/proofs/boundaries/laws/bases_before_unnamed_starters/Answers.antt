use Rattle.icu_element_reading.proofs.boundaries.BaseLemmas.{base_alone}
use Rattle.icu_element_reading.proofs.boundaries.laws.bases_before_unnamed_starters.Goals as goal

pub returns : goal.returns
returns g = λ reading before c x more no_prefix starter unnamed no_number. base_alone reading before c x more no_prefix starter unnamed no_number
