use Rattle.std.proofs.Common.{inl}
use Rattle.icu_element_facts.proofs.FollowerLemmas.{all_set}
use Rattle.icu_element_facts.proofs.followers.followers_of.Goals as goal

pub returns-then-is_some : goal.returns-then-is_some
returns-then-is_some c = inl all_set

pub returns-in-None : goal.returns-in-None
returns-in-None c = inl all_set
