use Rattle.std.proofs.Common.{◌*◌, ◌+◌}
use Rattle.icu_table_data.specs.StoredData.{data_of}
use Rattle.icu_table_data.specs.declared.character_walk.Part.TheVariants.{Counted}
use Rattle.icu_table_data.proofs.BlockWalkLemmas.{block_scalar, later_states}
use Rattle.icu_table_data.proofs.SpentLemmas.{held_gap}
use Rattle.icu_table_data.proofs.block_walk.visit_index.Goals as goal

pub returns-in-None-clause-visits : goal.returns-in-None-clause-visits
returns-in-None-clause-visits g c = λ start.
    held_gap g.V.Visit.after c.args.falls_back (data_of c.args.home) _ _ (64 * c.args.index) (64 * c.args.index + 64)
    (λ d low high is. c.in-None.ensures.value (block_scalar c.args.index d is low high)) start

pub returns-in-None-clause-states : goal.returns-in-None-clause-states
returns-in-None-clause-states g c = later_states Counted c.args.home c.args.index _ c.requires.states
