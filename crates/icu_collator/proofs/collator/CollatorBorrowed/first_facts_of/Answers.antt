-- What is known of the first character says it of the text.
use Rattle.std.proofs.Common.{◌≡◌, ◌⊎◌, ◌∷◌, ℕ, List, inl, inr, ⊎_elim, true}
use Rattle.unicode_normalization.specs.Forms.{nfd}
use Rattle.icu_element_reading.specs.TextElements.{elements_of}
use Rattle.icu_order_texts.specs.weighting.Forms.{last_variable_by}
use Rattle.icu_order_texts.specs.TextCuts.{begins_with_primary}
use Rattle.icu_order_texts.specs.TextOrder.{reading_by}
use Rattle.icu_collator.specs.Collators.{collation_borrowed}
use Rattle.icu_collator.proofs.FirstPrimaryLemmas.{begins_with_starter, first_has_primary, facts_lead, may_be_rest}
use Rattle.icu_collator.proofs.collator.CollatorBorrowed.first_facts_of.Goals as goal

pub returns-clause-rest : goal.returns-clause-rest
returns-clause-rest g c = λ first known is.
    let collation = collation_borrowed c.args.self.now in
    let rest : List ℕ = g.T.EncodedText.text c.args.rest in
    let leading : ℕ = c.args.facts.now.leading_primary in
    let begins = c.begins_rest-is_rest.ensures is in
    let handled : (last_variable_by collation ≡ 0) ⊎ (begins_with_primary (elements_of (reading_by collation) (nfd (first ∷ rest))) ≡ true) =
    ⊎_elim (λ nonzero. inr (first_has_primary collation (first ∷ rest) leading
    (begins_with_starter collation c.first_starters_lead.ensures first rest leading (known.leads nonzero)) nonzero))
    (λ zero. inl zero) begins.1 in
    may_be_rest collation first rest (known.boundary begins.0) handled

pub returns-clause-leads : goal.returns-clause-leads
returns-clause-leads g c = λ first known.
    facts_lead (collation_borrowed c.args.self.now) (first ∷ g.T.EncodedText.text c.args.rest) c.first_primary-first.result
    (c.first_primary-first.ensures first known) c.known_primary-primary.result c.known_primary-primary.ensures
