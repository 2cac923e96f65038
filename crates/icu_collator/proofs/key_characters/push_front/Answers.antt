use Rattle.icu_collator.proofs.KeyCharacterLemmas.{none_left}
use Rattle.icu_collator.proofs.key_characters.push_front.Goals as goal

pub returns-clause-none : goal.returns-clause-none
returns-clause-none g c = λ is. none_left c.chars.list.items _ _ c.in_default.ensures c.chars.invariant
