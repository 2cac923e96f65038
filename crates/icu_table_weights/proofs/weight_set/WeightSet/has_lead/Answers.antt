use Rattle.std.proofs.Common.{◌≡◌, true, List, ℕ, [], ◌∷◌, nat_eq, length, refl, sym, ap, ◌∙◌, arith}
use Rattle.std.proofs.lemmas.Bool.Decides.{nat_tests}
use Rattle.icu_table_weights.specs.WeightSets.{page_of}
use Rattle.icu_table_weights.proofs.PageLemmas.{empty_lead}
use Rattle.icu_table_weights.proofs.weight_set.WeightSet.has_lead.Goals as goal

no_words : (ws : List ℕ) → nat_eq (length ws) 0 ≡ true → ws ≡ []
no_words [] h = refl
no_words (w ∷ ws) h = absurd (grind (arith, nat_tests, h))

pub returns-then-is_empty : goal.returns-then-is_empty
returns-then-is_empty c = λ h. empty_lead c.args.self.now c.args.lead (omega arith) (ap (page_of c.args.self.now.pages.items) (sym c.from.ensures) ∙ sym c.page.ensures ∙ no_words c.page.result.now (sym c.is_empty.ensures ∙ c.if-is_empty.true))
