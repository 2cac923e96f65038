-- Lines that are sorted by their keys are sorted by the order of names.
use Rattle.std.proofs.Common.{ℕ, List, ap, ◌∙◌, subst}
use Rattle.std.specs.Ordering.{is_eq}
use Rattle.icu_table_provider.specs.well_formed.WellFormedTables.{IsWellFormedTables}
use Rattle.icu_collator.specs.Collators.{collation_borrowed, tables_borrowed}
use Rattle.icu_collator.specs.declared.collator.CollatorBorrowed.{CollatorBorrowed}
use Rattle.collate_commands.proofs.LineOrderByKeys.{orders_by_keys}
use Rattle.icu_collator.specs.NameOrders.{IsStablySorted, name_order}
use Rattle.icu_order_levels.specs.ListOrder.{list_order}
use Rattle.line_sorts.specs.FirstLines.{printed}
use Rattle.line_sorts.specs.InputLines.{ended_lines, lines_by}
use Rattle.line_sorts.specs.KeyedOrders.{ordered_as}
use Rattle.line_sorts.specs.SortedTexts.{SortsByKey}
use Rattle.line_sorts.specs.declared.sort_request.SortRequest.{SortRequest}
use Rattle.collate_commands.specs.LineKeys.{key_of_line}
use Rattle.line_commands.specs.SortedInputs.{SortsInput}

-- lines that are sorted by their keys are sorted by the collator
pub sorts_input : (c : CollatorBorrowed) → IsWellFormedTables (tables_borrowed c) → (r : SortRequest) (input text : List ℕ)
    → SortsByKey (key_of_line (collation_borrowed c)) r (lines_by r.separator input) text → SortsInput (collation_borrowed c) r input text
sorts_input c well_formed r input text h =
    let same = orders_by_keys c well_formed in
    record {
      lines = h.sorted;
      sorted =
          subst (λ f. IsStablySorted (ordered_as r.order f list_order) (lines_by r.separator input) h.sorted) same
          (record { permutation = h.permutation; ascends = h.ascends; stable = h.stable });
      written = h.written ∙ ap (λ f. ended_lines r.separator (printed r.repeats (λ x y. is_eq (f x y)) h.sorted)) same;
    }
