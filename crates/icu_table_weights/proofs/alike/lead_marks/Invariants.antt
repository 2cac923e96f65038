use Rattle.std.proofs.Common.{ℕ, ◌<◌, take, get_or}
use Rattle.icu_table_provider.specs.StoredTables.{reordering_of, special_of}
use Rattle.icu_table_provider.specs.well_formed.Leads.{reordered_lead}
use Rattle.icu_table_weights.specs.Alike.{Marks, compressed_at, other_at}
use Rattle.icu_table_weights.proofs.alike.lead_marks.Given as goal

-- the marks are those of the weights passed, and those come to lead bytes
abbrev pub invariant-loop-primary : goal.invariant-loop-primary
invariant-loop-primary l = record {
  compressed : Marks (compressed_at (special_of l.special) (reordering_of l.reordering)) (take l.primary-index l.primaries) l.compressed;
  bytes : (k : ℕ) → k < l.primary-index → reordered_lead (reordering_of l.reordering) (get_or l.primaries k 0) < 256;
  other : Marks (other_at (special_of l.special) (reordering_of l.reordering)) (take l.primary-index l.primaries) l.other;
}
