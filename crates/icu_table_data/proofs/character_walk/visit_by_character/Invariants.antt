use Rattle.std.proofs.Common.{◌*◌}
use Rattle.icu_table_data.specs.StoredData.{data_of}
use Rattle.icu_table_data.specs.inner.BlockWalks.{WalkedTo, AreClear, AreKept, AreStates}
use Rattle.icu_table_data.proofs.character_walk.visit_by_character.Given as goal

-- the blocks so far were walked, and their states say so
abbrev pub invariant-loop-index : goal.invariant-loop-index
invariant-loop-index g l = record {
  known : AreKept l.part (data_of l.home) l.known.places;
  clear : AreClear l.part (data_of l.home) l.clear;
  walked : WalkedTo g.V.Visit.after l.falls_back l.part (data_of l.home) (g.V.Visit.seen l.fn.visitor) (g.V.Visit.seen l.visitor) 0 (64 * l.index);
  states : AreStates l.part l.home l.index l.states;
}
