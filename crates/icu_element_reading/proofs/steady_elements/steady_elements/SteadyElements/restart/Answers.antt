use Rattle.std.proofs.Common.{refl}
use Rattle.icu_element_reading.specs.steady_elements.SteadyElements.{elements_left}
use Rattle.icu_element_reading.proofs.steady_elements.steady_elements.SteadyElements.restart.Goals as goal

pub returns : goal.returns
unfolding elements_left
returns g c = refl
