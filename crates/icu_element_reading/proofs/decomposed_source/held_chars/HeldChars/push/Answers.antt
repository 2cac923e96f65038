use Rattle.std.proofs.Common.{◌∷◌, ◌++◌, sym, ap, ◌∙◌, arith}
use Rattle.unicode_normalization.specs.Order.{canonical_order}
use Rattle.icu_element_reading.specs.inner.HeldChars.{held_before}
use Rattle.unicode_normalization.proofs.Steps.ReorderLemmas.{out, out-mark, out-before_starter, out-starter, marks-pushed}
use Rattle.icu_element_reading.proofs.decomposed_source.held_chars.HeldChars.push.Goals as goal

pub invariant_of-self-else-canonical_combining_class-eq0 : goal.invariant_of-self-else-canonical_combining_class-eq0
invariant_of-self-else-canonical_combining_class-eq0 c =
    let b = c.args.self.now in
    record {
      taken = b.taken;
      within = omega (arith, b.within);
      kept = b.kept;
      marks = marks-pushed _ _ b.ready c.args.c _ c.push-else-canonical_combining_class-eq0.ensures.items (omega (arith, b.within, b.chars.ok.0)) b.marks (omega arith);
    }

pub returns-in_ok-push-clause-ok : goal.returns-in_ok-push-clause-ok
unfolding held_before
returns-in_ok-push-clause-ok c =
    let b = c.args.self.now in
    let done = c.settle_marks.new.self in
    let all = c.in_ok-settle_marks.ensures.ready in
    record {
      at = λ rest.
          out-before_starter b.chars.items b.next b.ready c.args.c rest (omega arith)
          ∙ ap (λ l. l ++ c.args.c ∷ canonical_order rest) (sym c.in_ok-settle_marks.ensures.same)
          ∙ out-starter done.chars.items done.next done.ready c.len-self.result c.args.c rest (omega (arith, done.taken, done.within, done.chars.ok.0))
          (omega (arith, done.chars.ok.0)) (omega (arith, done.chars.ok.0, c.in_ok-push.ensures.len))
          ∙ ap (λ l. out l done.next c.len-self.result rest) (sym c.in_ok-push.ensures.items);
    }

pub returns-in_ok-push-2-clause-ok : goal.returns-in_ok-push-2-clause-ok
unfolding held_before
returns-in_ok-push-2-clause-ok c =
    let b = c.args.self.now in
    record {
      at = λ rest.
          out-mark b.chars.items b.next b.ready c.args.c rest (omega (arith, b.within, b.chars.ok.0))
          ∙ ap (λ l. out l b.next b.ready rest) (sym c.in_ok-push-2.ensures.items);
    }
