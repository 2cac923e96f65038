use Rattle.std.proofs.Common.{refl}
use Rattle.icu_text_encodings.proofs.SpellLemmas.{spells_text}
use Rattle.icu_text_encodings.proofs.encoded_text.Characters.new.Goals as goal

pub returns-clause-spells : goal.returns-clause-spells
returns-clause-spells g c = spells_text _ _ refl
