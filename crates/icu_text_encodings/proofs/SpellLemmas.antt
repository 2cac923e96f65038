-- An iterator that is seen as the list of the characters that are left spells them.
use Rattle.std.proofs.Common.{◌≡◌, ℕ, List}
use Rattle.std.proofs.lemmas.Iterator.Consumers.{YieldsList-from_first}
use Rattle.icu_text_encodings.specs.DecodedTexts.{SpellsText}

pub spells_text : (it cs : List ℕ) → it ≡ cs → SpellsText it cs
spells_text it cs e = (YieldsList-from_first (λ c. c) (λ left. left) {s = it} cs e).runs
