use Rattle.icu_rule_parser.specs.Statements.{prefix_tokens, extension_tokens}
use Rattle.icu_rule_parser.proofs.StatementLemmas.{take_parts}
use Rattle.std.proofs.Common.{rules}
use Rattle.icu_rule_parser.specs.declared.unplaced_error.UnplacedError.{UnplacedError}
use Rattle.std.proofs.Common.{inl}
use Rattle.icu_rule_parser.specs.TakenFaults.{IsSigned}
use Rattle.icu_rule_parser.proofs.FaultLemmas.{handed_on}
use Rattle.icu_rule_parser.proofs.FaultPlaceLemmas.{context_part}
use Rattle.icu_rule_parser.proofs.relations.read_relation.Goals as goal

pub returns-clause-taken : goal.returns-clause-taken
returns-clause-taken c =
    take_parts c.args.text.now c.in_ok-prefix.rest.now c.in_ok-extension.rest.now
    (prefix_tokens c.in_ok-prefix.prefix.items) (extension_tokens c.in_ok-extension.extension.items)
    c.in_ok-prefix.string.items c.in_ok-prefix.ensures.taken c.in_ok-extension.ensures.taken

pub returns-in_err-prefix-clause-fault : goal.returns-in_err-prefix-clause-fault
returns-in_err-prefix-clause-fault c =
    handed_on _ c.in_err-prefix.field-0.0 (λ (e : UnplacedError). IsSigned e c.args.sign.now c.args.text.now) (search rules)
    (inl c.in_err-prefix.ensures.fault)

pub returns-in_err-extension-clause-fault : goal.returns-in_err-extension-clause-fault
returns-in_err-extension-clause-fault c =
    handed_on _ c.in_err-extension.field-0.0 (λ (e : UnplacedError). IsSigned e c.args.sign.now c.args.text.now) (search rules)
    (inl (context_part c.in_err-extension.field-0.0 c.in_ok-prefix.prefix.items c.in_ok-prefix.string.items c.in_ok-prefix.ensures.taken c.in_err-extension.ensures.fault))
