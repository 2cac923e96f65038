use Rattle.std.proofs.Common.{◌≡◌, Some, None, refl, sym, ◌∙◌, rules}
use Rattle.icu_element_reading.specs.LastChars.{recent_chars}
use Rattle.icu_element_reading.specs.Reading.{reading_of}
use Rattle.icu_element_reading.specs.steady_elements.SteadyElements.{elements_left, text_left}
use Rattle.icu_element_reading.proofs.steady_elements.SteadyStepLemmas.{element_next, none_next, not_some, one_fewer}
use Rattle.icu_element_reading.proofs.steady_elements.steady_elements.SteadyElements.next.Goals as goal

pub returns-then-is_some-clause-next : goal.returns-then-is_some-clause-next
unfolding elements_left
returns-then-is_some-clause-next g c =
    sym c.steps.invariant
    ∙ element_next (reading_of c.steps.self.reading) c.steps.self.given (recent_chars c.steps.self.place.recent) (text_left g.X.TextForMatches.unread c.steps.self)
    c.next-next.result c.next-next.new.self c.next-next.ensures.next c.next-next.ensures.run

pub returns-then-is_some-clause-smaller : goal.returns-then-is_some-clause-smaller
returns-then-is_some-clause-smaller g c = one_fewer c.next-next.result _ _ (returns-then-is_some-clause-next g c)

pub returns-in-First-clause-next : goal.returns-in-First-clause-next
unfolding elements_left
returns-in-First-clause-next g c =
    let none : c.next-next.result ≡ None = not_some c.next-next.result (search rules) in
    sym c.steps.invariant
    ∙ none_next (reading_of c.steps.self.reading) c.steps.self.given (recent_chars c.steps.self.place.recent) (text_left g.X.TextForMatches.unread c.steps.self)
    c.next-next.result c.next-next.new.self none c.next-next.ensures.next c.next-next.ensures.run
    ∙ c.in-First.ensures.elements

pub returns-in-First-clause-smaller : goal.returns-in-First-clause-smaller
returns-in-First-clause-smaller g c = one_fewer (Some c.in-First.element) _ _ (returns-in-First-clause-next g c)

pub returns-in-AtEnd-clause-next : goal.returns-in-AtEnd-clause-next
unfolding elements_left
returns-in-AtEnd-clause-next g c =
    let none : c.next-next.result ≡ None = not_some c.next-next.result (search rules) in
    sym c.steps.invariant
    ∙ none_next (reading_of c.steps.self.reading) c.steps.self.given (recent_chars c.steps.self.place.recent) (text_left g.X.TextForMatches.unread c.steps.self)
    c.next-next.result c.next-next.new.self none c.next-next.ensures.next c.next-next.ensures.run
    ∙ c.in-AtEnd.ensures.elements

pub returns-in-AtEnd-clause-end : goal.returns-in-AtEnd-clause-end
unfolding elements_left
returns-in-AtEnd-clause-end g c = λ ended.
    let none : c.next-next.result ≡ None = not_some c.next-next.result (search rules) in
    sym c.steps.invariant
    ∙ none_next (reading_of c.steps.self.reading) c.steps.self.given (recent_chars c.steps.self.place.recent) (text_left g.X.TextForMatches.unread c.steps.self)
    c.next-next.result c.next-next.new.self none c.next-next.ensures.next c.next-next.ensures.run
    ∙ c.in-AtEnd.ensures.end refl

pub steps-preserved : goal.steps-preserved
unfolding elements_left
steps-preserved g c =
    let none : c.next-next.result ≡ None = not_some c.next-next.result (search rules) in
    sym c.in-Kept.ensures.elements
    ∙ sym (none_next (reading_of c.steps.self.reading) c.steps.self.given (recent_chars c.steps.self.place.recent) (text_left g.X.TextForMatches.unread c.steps.self)
    c.next-next.result c.next-next.new.self none c.next-next.ensures.next c.next-next.ensures.run)
    ∙ c.steps.invariant
