use Rattle.icu_rule_meaning.proofs.ExtensionLemmas.{extended_hold}
use Rattle.icu_rule_meaning.proofs.RelationLemmas.{rules_hold, unmoved_strings}
use Rattle.icu_rule_meaning.proofs.relations_hold.Goals as goal

pub returns-clause-elements : goal.returns-clause-elements
returns-clause-elements c = rules_hold

pub returns-clause-strings : goal.returns-clause-strings
returns-clause-strings c = unmoved_strings

pub returns-clause-extended : goal.returns-clause-extended
returns-clause-extended c = extended_hold
