use Rattle.std.proofs.Common.{◌∙◌}
use Rattle.icu_index_keys.proofs.LeafLemmas.{entries_shortened}
use Rattle.icu_index_keys.proofs.leaves.cut.Goals as goal

pub returns-clause-entries : goal.returns-clause-entries
returns-clause-entries c =
    entries_shortened c.args.leaves.now.items c.args.at c.args.len c.index_mut-leaf.result.now c.index_mut-leaf.result.now c.shrink_to.new.self
    c.requires.within c.index_mut-leaf.ensures.value (c.shrink_to.ensures.items ∙ c.truncate.ensures.items)
