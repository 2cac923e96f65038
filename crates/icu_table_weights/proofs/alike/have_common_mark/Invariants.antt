use Rattle.std.proofs.Common.{◌≡◌, ℕ, ◌<◌, false}
use Rattle.std.specs.Prelude.{◌&&◌}
use Rattle.icu_table_weights.specs.Alike.{mark_of}
use Rattle.icu_table_weights.proofs.alike.have_common_mark.Given as goal

-- no place passed has both marks
abbrev pub invariant-loop-lead : goal.invariant-loop-lead
invariant-loop-lead l = (k : ℕ) → k < l.lead → (mark_of l.one k && mark_of l.other k) ≡ false
