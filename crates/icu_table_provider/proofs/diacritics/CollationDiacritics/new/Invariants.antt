use Rattle.std.proofs.Common.{ℕ, ◌<◌, true, get_or, IsTrue}
use Rattle.std.specs.Prelude.{◌||◌}
use Rattle.icu_table_provider.specs.Diacritics.{is_replaced_index, is_diacritic_weight}
use Rattle.icu_table_provider.proofs.diacritics.CollationDiacritics.new.Given as goal

abbrev pub invariant-loop-index : goal.invariant-loop-index
invariant-loop-index l =
    (i : ℕ) → i < l.index → IsTrue (is_replaced_index i || is_diacritic_weight true (get_or l.secondaries i 0))
