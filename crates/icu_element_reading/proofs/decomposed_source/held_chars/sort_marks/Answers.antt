use Rattle.std.proofs.Common.{arith}
use Rattle.unicode_normalization.proofs.Steps.ReorderLemmas.{short_is_sorted}
use Rattle.icu_element_reading.proofs.decomposed_source.held_chars.sort_marks.Goals as goal

pub returns-then-len-from-le1-clause-ok : goal.returns-then-len-from-le1-clause-ok
returns-then-len-from-le1-clause-ok c =
    short_is_sorted _ c.args.from (omega (arith, c.args.chars.now.ok.0))
