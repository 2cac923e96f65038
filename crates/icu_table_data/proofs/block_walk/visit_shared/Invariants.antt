use Rattle.std.proofs.Common.{◌*◌}
use Rattle.icu_table_data.specs.StoredData.{data_of}
use Rattle.icu_table_data.specs.declared.character_walk.Part.TheVariants.{Counted}
use Rattle.icu_table_data.specs.inner.BlockWalks.{HasWalked, AreStates}
use Rattle.icu_table_data.proofs.block_walk.visit_shared.Given as goal

-- the blocks so far were walked, and their states say so
abbrev pub invariant-loop-index : goal.invariant-loop-index
invariant-loop-index g l = record {
  walked : HasWalked g.V.Visit.after l.falls_back (data_of l.home) l.seen (g.V.Visit.seen l.fn.visitor) (g.V.Visit.seen l.visitor) (64 * l.index);
  states : AreStates Counted l.home l.index l.states;
}
