-- Lines that are sorted by their keys are sorted by the collator.
use Rattle.std.proofs.Common.{◌≡◌, ℕ, List, subst}
use Rattle.icu_table_provider.specs.well_formed.WellFormedTables.{IsWellFormedTables}
use Rattle.icu_collator.specs.Collators.{collation_borrowed, tables_borrowed}
use Rattle.icu_collator.specs.declared.collator.CollatorBorrowed.{CollatorBorrowed}
use Rattle.icu_order_texts.specs.Collations.{Collation}
use Rattle.line_sorts.specs.InputLines.{lines_by}
use Rattle.line_sorts.specs.SortedTexts.{SortsByKey}
use Rattle.line_sorts.specs.declared.sort_request.SortRequest.{SortRequest}
use Rattle.line_commands.proofs.LineNameLemmas.{sorts_input}
use Rattle.collate_commands.specs.LineKeys.{key_of_line}
use Rattle.line_commands.specs.SortedInputs.{SortsInput}

pub cut_sorts : (c : CollatorBorrowed) → IsWellFormedTables (tables_borrowed c) → (r : SortRequest) (input text : List ℕ) (lines : List (List ℕ)) (k : Collation)
    → lines ≡ lines_by r.separator input → collation_borrowed c ≡ k → SortsByKey (key_of_line (collation_borrowed c)) r lines text
    → SortsInput k r input text
cut_sorts c well_formed r input text lines k cut is sorts =
    let key : List ℕ → List ℕ = key_of_line (collation_borrowed c) in
    subst (λ k. SortsInput k r input text) is (sorts_input c well_formed r input text (subst (λ ls. SortsByKey key r ls text) cut sorts))
