use Rattle.std.proofs.Common.{◌*◌, ◌+◌, subst}
use Rattle.icu_table_data.specs.StoredData.{data_of}
use Rattle.icu_table_data.specs.inner.BlockWalks.{IsState}
use Rattle.icu_table_data.proofs.BlockWalkLemmas.{block_scalar}
use Rattle.icu_table_data.proofs.CharacterWalkLemmas.{walked_gap, walked_clear}
use Rattle.icu_table_data.proofs.character_walk.visit_index.Goals as goal

pub returns-in_default-clause-visits : goal.returns-in_default-clause-visits
returns-in_default-clause-visits g c =
    walked_gap g.V.Visit.after c.args.falls_back (data_of c.args.home) c.args.part _ (64 * c.args.index) (64 * c.args.index + 64)
    (λ d low high is. c.in_default.ensures.value (block_scalar c.args.index d is low high))

pub returns-in-Shared-clause-visits : goal.returns-in-Shared-clause-visits
returns-in-Shared-clause-visits g c =
    walked_clear g.V.Visit.after c.args.falls_back (data_of c.args.home) c.args.part _ (64 * c.args.index)
    (subst (IsState c.args.part (data_of c.args.home) (64 * c.args.index)) c.in-Shared.is c.known_state.ensures.state)
