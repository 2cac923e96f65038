use Rattle.std.proofs.Common.{ℕ, List, ◌++◌, replicate}
use Rattle.icu_order_levels.specs.Runs.{level_bytes}
use Rattle.icu_key_writers.specs.Writes.{Brings}
use Rattle.icu_key_writers.proofs.run.Run.write_full_counts.Given as goal

-- middle bytes of full counts were written, and the others are left
abbrev pub invariant-loop-left : goal.invariant-loop-left
invariant-loop-left g l = record {
  sound : g.S.CollationKeySink.is_sound l.sink l.state;
  brings : (spell : ℕ → List ℕ) → Brings g.S.CollationKeySink.effects l.fn.sink l.fn.state (λ ws. level_bytes l.runs spell l.self.length (replicate l.more l.runs.common ++ ws)) (level_bytes l.runs spell l.left) l.sink l.state;
}

abbrev pub decreases-loop-left : goal.decreases-loop-left
decreases-loop-left g l = l.left
