-- What the entry of an own character shows is true of it.
use Rattle.std.proofs.Common.{refl}
use Rattle.icu_element_facts.proofs.OwnFactsLemmas.{own_true}
use Rattle.icu_element_facts.proofs.read_char.facts_of_one.Goals as goal

pub returns : goal.returns
returns c = λ reading ch own one. own_true reading ch _ c.args.element own one refl refl refl c.primary.ensures refl
