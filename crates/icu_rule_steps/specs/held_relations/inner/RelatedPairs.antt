-- Two strings as they are read.
use Rattle.icu_rule_steps.specs.held_relations.HeldRelations.{RelatedStrings}
use Rattle.icu_rule_steps.specs.declared.held_relations.related.RelatedPair.{RelatedPair}

-- the strings
abbrev pub related_pair : RelatedPair → RelatedStrings
related_pair p = record { other = p.other.now; string = p.string.now }
