use Rattle.std.proofs.Common.{arith}
use Rattle.icu_table_provider.specs.StoredTables.{reordering_of, special_of}
use Rattle.icu_table_weights.specs.Alike.{compressed_at, other_at}
use Rattle.icu_table_weights.proofs.AlikeLemmas.{no_marks}
use Rattle.icu_table_weights.proofs.alike.lead_marks.Goals as goal

pub loop-primary-init : goal.loop-primary-init
loop-primary-init c = record {
  compressed = no_marks (compressed_at (special_of c.args.special) (reordering_of c.args.reordering));
  bytes = λ k below. absurd (omega arith);
  other = no_marks (other_at (special_of c.args.special) (reordering_of c.args.reordering));
}
