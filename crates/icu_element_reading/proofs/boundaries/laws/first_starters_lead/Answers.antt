use Rattle.icu_element_reading.proofs.boundaries.AloneLemmas.{leading}
use Rattle.icu_element_reading.proofs.boundaries.laws.first_starters_lead.Goals as goal

pub returns : goal.returns
returns g = λ reading before c s ts cs split starter alone. leading reading before c s ts cs split starter alone
