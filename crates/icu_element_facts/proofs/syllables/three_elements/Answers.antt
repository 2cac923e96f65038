-- Three characters by themselves.
use Rattle.std.proofs.Common.{[], ◌∷◌, refl}
use Rattle.icu_element_facts.specs.FewElements.{few_elements}
use Rattle.icu_element_facts.proofs.SyllableLemmas.{own_none, own_more}
use Rattle.icu_element_facts.proofs.syllables.three_elements.Goals as goal

pub returns : goal.returns
unfolding few_elements
returns c = λ reading l v t own other third.
    let one = own_more reading [] l c.args.leading.now [] c.only_element.result (own_none reading [] refl) own c.only_element.ensures in
    let two = own_more reading (l ∷ []) v c.args.vowel.now (c.only_element.result ∷ []) c.only_element-2.result one other c.only_element-2.ensures in
    own_more reading (l ∷ v ∷ []) t c.args.trailing.now (c.only_element.result ∷ c.only_element-2.result ∷ []) c.only_element-3.result two third c.only_element-3.ensures
