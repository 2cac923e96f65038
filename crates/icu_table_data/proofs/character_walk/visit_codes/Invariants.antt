use Rattle.icu_table_data.specs.StoredData.{data_of}
use Rattle.icu_table_data.specs.inner.BlockWalks.{WalkedTo, AreClear, AreKept}
use Rattle.icu_table_data.proofs.character_walk.visit_codes.Given as goal

-- the code points so far were walked
abbrev pub invariant-loop-code : goal.invariant-loop-code
invariant-loop-code g l = record {
  clear : AreClear l.part (data_of l.home) l.clear;
  known : AreKept l.part (data_of l.home) l.known.places;
  walked : WalkedTo g.V.Visit.after l.falls_back l.part (data_of l.home) (g.V.Visit.seen l.fn.visitor) (g.V.Visit.seen l.visitor) l.first l.code;
}
