use Rattle.std.proofs.Common.{◌≡◌, [], ◌++◌, List, length, ap, ◌∙◌, arith}
use Rattle.icu_table_entries.specs.Elements.{Element}
use Rattle.icu_element_reading.specs.StepReaders.{elements_given}
use Rattle.icu_search_places.proofs.place_reader.GatheredLemmas.{ReadsStep-taken}
use Rattle.icu_search_places.proofs.place_reader.gathered_steps.GatheredSteps.take_step.Goals as goal

pub returns-in_default-clause-step : goal.returns-in_default-clause-step
returns-in_default-clause-step g c = λ text n h.
    let none : h.rest ≡ [] = rw c.in_default.is at (c.in_ok-count.ensures.step h.before h.rest h.left) in
    omega (arith, ap length none, h.length_is)

pub returns-clause-step : goal.returns-clause-step
returns-clause-step g c = λ text n h.
    let taken = rw c.in-Some.is at (c.in_ok-count.ensures.step h.before h.rest h.left) in
    let kept : c.extend_from_slice.new.self.items ≡ c.args.self.now.elements.items ++ elements_given c.next.new.self =
    c.in_ok-extend_from_slice.ensures.items ∙ ap (λ (es : List Element). c.args.self.now.elements.items ++ es) c.elements.ensures in
    ReadsStep-taken g.I.Iterator.next_gives c.args.self.now _ text n c.in-Some.count h taken c.next.ensures.reading kept
