use Rattle.std.proofs.Common.{refl, rules}
use Rattle.unicode_normalization.specs.Forms.{nfd}
use Rattle.icu_element_reading.specs.CollationElements.{CanGive}
use Rattle.icu_element_reading.proofs.CollationElementsLemmas.{StillGives-source}
use Rattle.icu_element_reading.proofs.StreamLemmas.{fresh_by}
use Rattle.icu_element_reading.proofs.collation_elements.CollationElements.new.Goals as goal

pub returns-clause-text : goal.returns-clause-text
returns-clause-text g c = λ cs h. StillGives-source _ _ _ refl (record {
  left = nfd cs;
  source = c.new.ensures.text cs h;
  elements = fresh_by c.at_start.result _ (nfd cs) c.at_start.ensures.reading c.at_start.ensures.ready c.at_start.ensures.before (search rules);
})

pub returns-clause-ready : goal.returns-clause-ready
unfolding CanGive
returns-clause-ready g c = c.new.ensures.ready
