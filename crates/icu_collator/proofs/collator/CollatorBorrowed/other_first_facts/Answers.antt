-- What the first character says holds of the text.
use Rattle.std.proofs.Common.{◌≡◌, ◌∷◌, List, ℕ, IfSome, sym, subst, rules}
use Rattle.icu_order_texts.specs.TextCuts.{IsRest}
use Rattle.icu_collator.specs.Collators.{collation_borrowed}
use Rattle.icu_collator.specs.inner.FirstPrimaries.{LeadsWith}
use Rattle.icu_collator.proofs.FirstPrimaryLemmas.{nothing_leads}
use Rattle.icu_collator.proofs.collator.CollatorBorrowed.other_first_facts.Goals as goal

pub returns-in-Some-clause-rest : goal.returns-in-Some-clause-rest
returns-in-Some-clause-rest g c = λ is.
    let collation = collation_borrowed c.args.self.now in
    let text = g.T.EncodedText.text c.args.text in
    let by : (cs : List ℕ) → IsRest collation (c.in-Some.first ∷ cs) → text ≡ c.in-Some.first ∷ cs → IsRest collation text =
    λ cs rest same. subst (IsRest collation) (sym same) rest in
    by _ (c.first_facts_by.ensures.rest is) (search rules)

pub returns-in-Some-clause-leads : goal.returns-in-Some-clause-leads
returns-in-Some-clause-leads g c =
    let collation = collation_borrowed c.args.self.now in
    let text = g.T.EncodedText.text c.args.text in
    let leads : List ℕ → Type 0 = λ t. IfSome c.first_facts_by.result.primary (λ p. LeadsWith collation t p) in
    let by : (t : List ℕ) → leads t → text ≡ t → leads text = λ t does same. subst leads (sym same) does in
    by _ c.first_facts_by.ensures.leads (search rules)

pub returns-in-None-clause-leads : goal.returns-in-None-clause-leads
returns-in-None-clause-leads g c =
    let collation = collation_borrowed c.args.self.now in
    subst (λ (t : List ℕ). LeadsWith collation t 0) (sym c.in-None.ensures) (nothing_leads collation)
