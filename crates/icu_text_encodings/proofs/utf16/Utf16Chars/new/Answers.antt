use Rattle.std.proofs.Common.{refl, arith}
use Rattle.icu_text_encodings.proofs.SpellLemmas.{spells_text}
use Rattle.icu_text_encodings.proofs.Utf16Lemmas.{utf16_scalars, text_length}
use Rattle.icu_text_encodings.proofs.utf16.Utf16Chars.new.Goals as goal

pub returns-clause-spells : goal.returns-clause-spells
returns-clause-spells c = spells_text _ _ refl

pub returns-clause-scalars : goal.returns-clause-scalars
returns-clause-scalars c = utf16_scalars c.args.units.now (λ i. omega (arith, c.type_inv.units i))

pub returns-clause-len : goal.returns-clause-len
returns-clause-len c = text_length c.args.units.now
