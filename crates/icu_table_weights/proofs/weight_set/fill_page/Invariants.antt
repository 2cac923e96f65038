use Rattle.std.proofs.Common.{◌≡◌, ℕ, length, get_or}
use Rattle.icu_table_weights.proofs.weight_set.fill_page.Given as goal

-- there are as many words as were gone through, and the new ones have no bits
abbrev pub invariant-loop-index : goal.invariant-loop-index
invariant-loop-index l = record {
  len : length l.page.items ≡ l._index;
  same : (k : ℕ) → get_or l.page.items k 0 ≡ get_or l.fn.page.items k 0;
}
