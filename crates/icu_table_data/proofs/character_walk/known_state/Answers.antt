use Rattle.std.proofs.Common.{◌∙◌, sym, subst}
use Rattle.std.specs.Prelude.{◌<◌}
use Rattle.icu_table_data.specs.declared.block_walk.BlockState.TheVariants.{Shared}
use Rattle.icu_table_data.proofs.BlockWalkLemmas.{state_at, shared_twins}
use Rattle.icu_table_data.proofs.character_walk.known_state.Goals as goal

pub returns-in-Shared-clause-state : goal.returns-in-Shared-clause-state
returns-in-Shared-clause-state c =
    shared_twins c.args.part c.args.home c.args.index c.requires.index c.requires.scalar
    (state_at c.args.part c.args.home c.args.index c.from-block.result Shared c.args.states.now c.requires.states (c.from-block.ensures ∙ c.block.ensures)
    (subst (λ n. n < 65536) (sym c.from-block.ensures) c.block.type_inv) c.in-Shared.is)
