-- The order of lines is that of their keys.
use Rattle.std.proofs.Common.{◌≡◌, ℕ, List, sym, subst}
use Rattle.icu_table_provider.specs.well_formed.WellFormedTables.{IsWellFormedTables}
use Rattle.icu_collator.specs.Collators.{collation_borrowed, tables_borrowed}
use Rattle.icu_collator.specs.declared.collator.CollatorBorrowed.{CollatorBorrowed}
use Rattle.icu_collator.proofs.NameOrderLemmas.{names_keep}
use Rattle.icu_collator.specs.NameOrders.{IsStablySorted, name_order}
use Rattle.icu_order_levels.specs.ListOrder.{list_order}
use Rattle.line_sorts.specs.InputLines.{lines_of}
use Rattle.line_sorts.specs.SortedTexts.{SortsByKey}
use Rattle.collate_commands.specs.Answers.{SortsLines}
use Rattle.collate_commands.specs.LineKeys.{key_of_line}
use Rattle.collate_commands.specs.inner.Sorting.{all_ascending}

-- the order of names, as a function, is that of the keys of lines
pub orders_by_keys : (c : CollatorBorrowed) → IsWellFormedTables (tables_borrowed c)
    → (λ x y. list_order (key_of_line (collation_borrowed c) x) (key_of_line (collation_borrowed c) y)) ≡ name_order (collation_borrowed c)
orders_by_keys c well_formed = λ i x y. (sym (names_keep c well_formed x y)) i

-- lines that are sorted by their keys are the lines of the input, sorted
pub sorts_lines : (c : CollatorBorrowed) → IsWellFormedTables (tables_borrowed c) → (input text : List ℕ)
    → SortsByKey (key_of_line (collation_borrowed c)) all_ascending (lines_of input) text → SortsLines (name_order (collation_borrowed c)) input text
sorts_lines c well_formed input text h =
    record {
      lines = h.sorted;
      sorted =
          subst (λ f. IsStablySorted f (lines_of input) h.sorted) (orders_by_keys c well_formed)
          (record { permutation = h.permutation; ascends = h.ascends; stable = h.stable });
      written = h.written;
    }
