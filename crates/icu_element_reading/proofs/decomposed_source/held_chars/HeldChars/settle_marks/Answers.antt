use Rattle.std.proofs.Common.{arith}
use Rattle.icu_element_reading.specs.inner.HeldChars.{held_before}
use Rattle.unicode_normalization.proofs.Steps.ReorderLemmas.{out-sorted}
use Rattle.icu_element_reading.proofs.decomposed_source.held_chars.HeldChars.settle_marks.Goals as goal

pub returns-clause-same : goal.returns-clause-same
unfolding held_before
returns-clause-same c =
    let b = c.args.self.now in
    out-sorted b.chars.items _ b.next b.ready _ b.taken (omega (arith, b.within, b.chars.ok.0)) c.in_ok-sort_marks.ensures.ok (omega (arith, c.sort_marks.new.chars.ok.0))
