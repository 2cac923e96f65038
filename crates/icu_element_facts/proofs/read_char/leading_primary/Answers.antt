-- The first element is the first of those that are kept.
use Rattle.std.proofs.Common.{arith, eq-eqb, sym, ◌∙◌}
use Rattle.icu_element_facts.specs.FewElements.{few_elements}
use Rattle.icu_element_facts.proofs.FewLemmas.{first_taken}
use Rattle.icu_element_facts.proofs.read_char.leading_primary.Goals as goal

pub returns-then-few-gt0 : goal.returns-then-few-gt0
unfolding few_elements
returns-then-few-gt0 c = λ known.
    let taken = first_taken c.args.few.now.elements c.args.few.now.count c.index-few-0.result c.if-few-gt0.true (omega arith) in
    record {
      element = _;
      rest = taken.0;
      starter = eq-eqb _ _ (sym c.canonical_combining_class.ensures ∙ c.if-canonical_combining_class-eq0.true);
      alone = c.requires.alone;
      elements = sym c.requires.elements ∙ taken.1;
      leading = sym c.primary.ensures;
    }
