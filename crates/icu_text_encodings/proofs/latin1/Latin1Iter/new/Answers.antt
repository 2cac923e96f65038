use Rattle.std.proofs.Common.{refl, arith}
use Rattle.icu_text_encodings.proofs.SpellLemmas.{spells_text}
use Rattle.icu_text_encodings.proofs.Latin1Lemmas.{latin1_scalars}
use Rattle.icu_text_encodings.proofs.latin1.Latin1Iter.new.Goals as goal

pub returns-clause-spells : goal.returns-clause-spells
returns-clause-spells c = spells_text _ _ refl

pub returns-clause-scalars : goal.returns-clause-scalars
returns-clause-scalars c = latin1_scalars c.args.bytes.now (λ i. omega (arith, c.type_inv.bytes i))
