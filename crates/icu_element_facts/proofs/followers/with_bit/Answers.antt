use Rattle.icu_element_facts.proofs.FollowerLemmas.{still_unset, own_set}
use Rattle.icu_element_facts.proofs.followers.with_bit.Goals as goal

pub returns-clause-kept : goal.returns-clause-kept
returns-clause-kept c = λ d h. still_unset c.args.bits _ d h

pub returns-clause-own : goal.returns-clause-own
returns-clause-own c = own_set c.args.bits c.args.c
