use Rattle.std.proofs.Common.{◌+◌, ◌∷◌, sym, ap, ◌∙◌, arith}
use Rattle.unicode_normalization.proofs.Steps.ReorderLemmas.{out-pop, out-shift}
use Rattle.icu_element_reading.specs.inner.HeldChars.{held_before}
use Rattle.icu_element_reading.proofs.decomposed_source.held_chars.HeldChars.take_ready.Goals as goal

pub returns-else-next-self-clause-some : goal.returns-else-next-self-clause-some
unfolding held_before
returns-else-next-self-clause-some c =
    let h = c.args.self.now in
    let left = c.forget_ready.ensures in
    record {
      at = λ rest.
          out-pop h.chars.items h.next h.ready _ rest (omega arith) (omega (arith, h.within, h.chars.ok.0)) c.index-c.ensures
          ∙ ap (λ l. c.index-c.result.now ∷ l) (
          out-shift h.chars.items (h.next + 1) h.ready rest (omega arith) (omega (arith, h.within, h.chars.ok.0)) ∙ sym (rw (left.chars, left.next, left.ready))
          );
    }

pub returns-then-next-self-clause-some : goal.returns-then-next-self-clause-some
unfolding held_before
returns-then-next-self-clause-some c =
    let h = c.args.self.now in
    record { at = λ rest. out-pop h.chars.items h.next h.ready _ rest (omega arith) (omega (arith, h.within, h.chars.ok.0)) c.index-c.ensures }
