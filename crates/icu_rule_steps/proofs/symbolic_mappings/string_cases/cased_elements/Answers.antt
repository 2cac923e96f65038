use Rattle.icu_rule_meaning.specs.TailoredCases.{cased_elements}
use Rattle.icu_rule_steps.specs.symbolic_mappings.inner.TakenCases.{case_bits_left}
use Rattle.icu_rule_steps.proofs.symbolic_mappings.StringCaseLemmas.{cased_turn, cased_end}
use Rattle.icu_rule_steps.proofs.symbolic_mappings.string_cases.cased_elements.Goals as goal

pub loop-element-preserved : goal.loop-element-preserved
loop-element-preserved c =
    cased_turn (case_bits_left c.loop-element.left) (case_bits_left c.take_case-case_bits.new.cases) c.args.elements.now c.loop-element.element-index _ c.take_case-case_bits.result
    c.loop-element.cased.items c.push.new.self.items (cased_elements c.args.of_string.now c.args.elements.now) c.loop-element-test.true
    c.take_case-case_bits.ensures c.in_ok-push.ensures.items c.loop-element.invariant

pub returns : goal.returns
returns c =
    cased_end (case_bits_left c.loop-element.left) c.args.elements.now c.loop-element.element-index c.loop-element.cased.items (cased_elements c.args.of_string.now c.args.elements.now)
    c.loop-element-test.false c.loop-element.invariant
