use Rattle.std.proofs.Common.{◌*◌, ◌∙◌, sym, subst, arith}
use Rattle.std.specs.Prelude.{◌<◌}
use Rattle.icu_table_data.specs.StoredData.{data_of}
use Rattle.icu_table_data.specs.declared.character_walk.Part.TheVariants.{Counted}
use Rattle.icu_table_data.specs.declared.block_walk.BlockState.TheVariants.{Visited, Shared}
use Rattle.icu_table_data.proofs.BlockWalkLemmas.{state_at, twins}
use Rattle.icu_table_data.proofs.SpentLemmas.{held_on, held_twins}
use Rattle.icu_table_data.proofs.block_walk.visit_block.Goals as goal

pub returns-in_ok-visit_new_codes-in-Unread-clause-visits : goal.returns-in_ok-visit_new_codes-in-Unread-clause-visits
returns-in_ok-visit_new_codes-in-Unread-clause-visits g c =
    held_on g.V.Visit.after c.args.falls_back (data_of c.args.home) _ _ _ _ _ _ c.in_ok-visit_new_codes-in-Unread.ensures

pub returns-in-Visited-clause-visits : goal.returns-in-Visited-clause-visits
returns-in-Visited-clause-visits g c =
    let read = state_at Counted c.args.home c.args.index c.from-block.result Visited c.args.states.now c.requires.states (c.from-block.ensures ∙ c.block.ensures)
    (subst (λ n. n < 65536) (sym c.from-block.ensures) c.block.type_inv) c.in-Visited.is in
    held_twins g.V.Visit.after c.args.falls_back (data_of c.args.home) _ _ (64 * c.args.index) (64 * read.index) (omega (arith, read.below))
    (twins c.args.home c.args.index read.index read.below c.requires.index read.scalar read.reads)

pub returns-in-Shared-clause-visits : goal.returns-in-Shared-clause-visits
returns-in-Shared-clause-visits g c =
    let read = state_at Counted c.args.home c.args.index c.from-block.result Shared c.args.states.now c.requires.states (c.from-block.ensures ∙ c.block.ensures)
    (subst (λ n. n < 65536) (sym c.from-block.ensures) c.block.type_inv) c.in-Shared.is in
    held_twins g.V.Visit.after c.args.falls_back (data_of c.args.home) _ _ (64 * c.args.index) (64 * read.index) (omega (arith, read.below))
    (twins c.args.home c.args.index read.index read.below c.requires.index read.scalar read.reads)
