-- The lowest lane that differs is the first.
use Rattle.std.proofs.Common.{refl}
use Rattle.icu_text_encodings.proofs.WordLemmas.{some_in_word, some_bound}
use Rattle.icu_text_encodings.proofs.common_units.common_in_word.Goals as goal

pub returns-clause-bound : goal.returns-clause-bound
returns-clause-bound c = some_bound c.args.left.now c.args.right.now _ c.told-left c.told-right refl c.if-mask-eq0.false

pub returns-clause-beginning : goal.returns-clause-beginning
returns-clause-beginning c = some_in_word c.args.left.now c.args.right.now _ c.told-left c.told-right refl c.if-mask-eq0.false
