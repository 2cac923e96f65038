-- What is known of its first jamo and its elements are all that is known of it.
use Rattle.std.proofs.Common.{List, sym, subst}
use Rattle.icu_table_entries.specs.Elements.{Element}
use Rattle.ucd_normal.specs.declared.forms.Form.TheVariants.{Nfd}
use Rattle.unicode_normalization.specs.Decompose.{decompose}
use Rattle.icu_element_facts.specs.KeptFacts.{StandByThemselves}
use Rattle.icu_element_facts.proofs.SyllableLemmas.{starter_facts}
use Rattle.icu_element_facts.proofs.facts_table.KeptFacts.syllable.Goals as goal

pub returns : goal.returns
returns c = λ reading are.
    let made = c.with_elements.ensures in
    starter_facts reading c.args.c c.in_ok-leading.leading.now c.with_elements.result (c.in_ok-leading.ensures reading are)
    (subst (λ (es : List Element). StandByThemselves reading (decompose Nfd c.args.c) es) (sym made.elements) (c.in_ok-few.ensures reading are))
    made.kind.0 made.digit made.boundary made.begins made.leads made.head
