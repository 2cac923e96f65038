-- The elements of one step, and of what it leaves.
use Rattle.std.specs.Prelude.{◌≡◌, ℕ, List, [], ◌∷◌, ◌++◌, Option, Some, None, map, flat_map}
use Rattle.icu_table_entries.specs.Elements.{Element, element_of}
use Rattle.icu_table_entries.specs.Entries.{self_contained}
use Rattle.icu_element_reading.specs.TextElements.{Reading, Step, consumed, last_two, elements_after}
use Rattle.icu_element_reading.specs.declared.steady_elements.final_elements.FinalElements.{FinalElements}
use Rattle.icu_element_reading.specs.declared.steady_elements.final_elements.FinalElements.TheVariants.{Ended, Single, Entries, Elements}
use Rattle.icu_element_reading.specs.declared.steady_elements.step_elements.StepElements.{StepElements}
use Rattle.icu_element_reading.specs.declared.steady_elements.step_elements.StepKind.{StepKind}
use Rattle.icu_element_reading.specs.declared.steady_elements.step_elements.StepKind.TheVariants.{Final, Digit, Run}
use Rattle.icu_element_reading.specs.declared.steady_elements.step_elements.StepTaken.{StepTaken}
use Rattle.icu_element_reading.specs.declared.steady_elements.step_elements.StepTaken.TheVariants.{AtEnd, First, Kept}
use Rattle.icu_element_matches.specs.declared.steady_numbers.steady_number.SteadyNumber.{SteadyNumber}
use Rattle.icu_element_reading.specs.steady_elements.inner.RunDigits.{weights_given, run_elements}

-- the elements of a final entry that are still to be given
abbrev pub final_left : FinalElements → List Element
final_left Ended = []
final_left (Single e) = e ∷ []
final_left (Entries l) = flat_map self_contained l.entries.now
final_left (Elements bits) = map element_of bits.now

-- the elements of a step of this kind that are still to be given, of a run of digits those of one number
abbrev pub kind_left : StepKind → FinalElements → SteadyNumber → List Element
kind_left Final f n = final_left f
kind_left Digit f n = weights_given n
kind_left (Run lead) f n = weights_given n

-- those of a step
abbrev pub given_left : StepElements → List Element
given_left s = kind_left s.kind s.elements s.number

-- the lead byte of the numbers of a run of digits that goes on in the text
abbrev pub kind_lead : StepKind → Option ℕ
kind_lead Final = None
kind_lead Digit = None
kind_lead (Run lead) = Some lead

-- that of a step
abbrev pub run_lead : StepElements → Option ℕ
run_lead s = kind_lead s.kind

-- the element of a step that was given at once
abbrev pub first_given : StepTaken → Option Element
first_given AtEnd = None
first_given (First e) = Some e
first_given Kept = None

-- the elements of what is left of a text, where the digits that come next go on a run
abbrev pub elements_behind : Reading → Option ℕ → List ℕ → List ℕ → List Element
elements_behind reading None before text = elements_after reading before text
elements_behind reading (Some lead) before text = run_elements reading lead [] before text

-- the elements of a step that are still to be given, and then those of the text that is left after these characters
abbrev pub elements_to_give : Reading → StepElements → List ℕ → List ℕ → List Element
elements_to_give reading given before text = given_left given ++ elements_behind reading (run_lead given) before text

-- the elements of a step at a character after these characters, and of the text that it leaves
abbrev pub elements_from : Reading → List ℕ → ℕ → Step → List Element
elements_from reading before c s = s.elements ++ elements_after reading (last_two before (consumed c s)) s.rest

-- no element of a step is still to be given, and no run of digits goes on
pub record IsBetweenSteps (given : StepElements) : Type 0 where
  pub given_is : given_left given ≡ []
  pub lead_is : run_lead given ≡ None
