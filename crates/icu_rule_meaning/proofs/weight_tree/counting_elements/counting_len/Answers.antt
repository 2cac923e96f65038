-- The elements up to the last one that counts are so many.
use Rattle.std.proofs.Common.{[], sym, ◌∙◌, arith}
use Rattle.icu_rule_meaning.specs.declared.symbolic.SymbolicElement.{SymbolicElement}
use Rattle.icu_rule_meaning.proofs.weight_tree.CountingLemmas.{counting_further, counting_ended, counting_stopped}
use Rattle.icu_rule_meaning.proofs.weight_tree.counting_elements.counting_len.Goals as goal

abbrev nothing : SymbolicElement
nothing = record { weights = []; strength = 0; case_bits = 0 }

pub loop-kept-preserved : goal.loop-kept-preserved
loop-kept-preserved c = record {
  few = omega arith;
  counting =
      counting_further c.args.level c.args.elements.now c.loop-kept.kept nothing c.loop-kept-test.true
      c.loop-kept.invariant.few c.if-elements-kept.true
      ∙ c.loop-kept.invariant.counting;
}

pub returns-else-elements-kept-clause-taken : goal.returns-else-elements-kept-clause-taken
returns-else-elements-kept-clause-taken c =
    sym (counting_ended c.args.level c.args.elements.now c.loop-kept.kept nothing c.loop-kept-test.true
    c.loop-kept.invariant.few c.if-elements-kept.false)
    ∙ c.loop-kept.invariant.counting

pub returns-after-loop-kept-clause-taken : goal.returns-after-loop-kept-clause-taken
returns-after-loop-kept-clause-taken c =
    counting_stopped c.args.level c.args.elements.now c.loop-kept.kept (omega arith) ∙ c.loop-kept.invariant.counting
