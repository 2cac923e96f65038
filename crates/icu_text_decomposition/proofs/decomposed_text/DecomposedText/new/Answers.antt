use Rattle.icu_text_encodings.proofs.SpellLemmas.{spells_text}
use Rattle.icu_text_decomposition.proofs.decomposed_text.DecomposedText.new.Goals as goal

pub returns-clause-text : goal.returns-clause-text
returns-clause-text g c = c.new.ensures.left

pub returns-clause-spells : goal.returns-clause-spells
returns-clause-spells g c = spells_text _ _ c.new.ensures.left
