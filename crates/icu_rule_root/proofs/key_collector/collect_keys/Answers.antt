-- Sorting keeps each key.
use Rattle.icu_rule_root.proofs.key_collector.collect_keys.Goals as goal

pub returns-clause-members : goal.returns-clause-members
returns-clause-members c k =
    let sorted = c.in_ok-sort_and_dedup.ensures.members k in
    let all = c.in_ok-keys.ensures k in
    (λ h. all.0 (sorted.0 h), λ h. sorted.1 (all.1 h))
