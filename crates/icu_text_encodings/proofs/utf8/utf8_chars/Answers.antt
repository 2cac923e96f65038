use Rattle.icu_text_encodings.proofs.SpellLemmas.{spells_text}
use Rattle.icu_text_encodings.proofs.Utf8Lemmas.{utf8_scalars}
use Rattle.icu_text_encodings.proofs.utf8.utf8_chars.Goals as goal

pub returns-clause-spells : goal.returns-clause-spells
returns-clause-spells c = spells_text _ _ c.chars.ensures.value

pub returns-clause-scalars : goal.returns-clause-scalars
returns-clause-scalars c = utf8_scalars c.args.bytes.now
