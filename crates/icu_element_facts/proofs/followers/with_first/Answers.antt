use Rattle.icu_element_facts.proofs.FollowerLemmas.{all_set}
use Rattle.icu_element_facts.proofs.followers.with_first.Goals as goal

pub returns-in-empty-clause-kept : goal.returns-in-empty-clause-kept
returns-in-empty-clause-kept c = λ d h. absurd (all_set d h)

pub returns-in-empty-clause-first : goal.returns-in-empty-clause-first
returns-in-empty-clause-first c = λ d h. absurd (all_set d h)
