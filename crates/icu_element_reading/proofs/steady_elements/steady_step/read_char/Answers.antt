use Rattle.std.proofs.Common.{refl}
use Rattle.icu_element_reading.proofs.steady_elements.SteadyStepLemmas.{match_shorter}
use Rattle.icu_element_reading.proofs.steady_elements.steady_step.read_char.Goals as goal

pub returns-clause-fewer : goal.returns-clause-fewer
returns-clause-fewer g c = match_shorter _ _ _ _ _ _ c.find_steady_match-found.ensures.value refl c.read_entry.ensures.fewer
