use Rattle.icu_cldr_files.proofs.xml.document.take_in.Goals as goal
use Rattle.std.proofs.Common.{rules}

pub returns-clause-taken : goal.returns-clause-taken
returns-clause-taken c = record {
  piece = c.in_ok-piece.piece;
  begins = c.in_ok-piece.ensures.piece;
  said = search rules;
  nests = search rules;
}
