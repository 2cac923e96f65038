-- The elements of a syllable stand before each text.
use Rattle.std.proofs.Common.{ℕ, List}
use Rattle.ucd_normal.specs.declared.forms.Form.TheVariants.{Nfd}
use Rattle.unicode_normalization.specs.Decompose.{decompose}
use Rattle.icu_element_facts.specs.declared.few_elements.FewElements.{FewElements}
use Rattle.icu_element_facts.specs.FewElements.{few_elements}
use Rattle.icu_element_facts.specs.KeptFacts.{StandByThemselves}
use Rattle.icu_element_cursor.specs.Cursors.{cursor_reading}
use Rattle.icu_element_cursor.specs.inner.Standing.{StandsBefore}
use Rattle.icu_element_cursor.proofs.StandLemmas.{themselves_stand, few_stand-prop, found}
use Rattle.icu_element_cursor.proofs.cursor_tables.CursorTables.syllable_elements.Goals as goal

pub returns : goal.returns
unfolding cursor_reading
returns c =
    let reading = cursor_reading c.args.self.now in
    let is : FewElements → Type 0 = λ few. StandByThemselves reading (decompose Nfd c.args.c) (few_elements few) in
    let does : FewElements → Type 0 = λ few. (text : List ℕ) → StandsBefore reading c.args.c (few_elements few) text in
    found c.args.self.now.facts_by c.syllable_elements.result is does (λ few. few_stand-prop reading c.args.c few)
    (λ few h text. themselves_stand reading c.args.c (few_elements few) text h) (c.syllable_elements.ensures reading)
