-- Lines that are sorted by the keys of their fields are sorted by the fields.
use Rattle.std.proofs.Common.{◌≡◌, ℕ, List, subst}
use Rattle.icu_collator.specs.NameOrders.{IsStablySorted}
use Rattle.icu_order_texts.specs.weighting.Collations.{Collation}
use Rattle.line_sorts.specs.InputLines.{lines_by}
use Rattle.line_sorts.specs.SortedTexts.{SortsByKey}
use Rattle.line_sorts.specs.declared.sort_request.SortRequest.{SortRequest}
use Rattle.line_sorts.specs.declared.fields.field_key.FieldEnds.{FieldEnds}
use Rattle.line_commands.specs.field_sorts.FieldOrders.{fields_order, line_key}
use Rattle.line_commands.specs.field_sorts.FieldSortedInputs.{SortsByFields}
use Rattle.line_commands.specs.declared.field_sorts.field_sort.FieldSort.{FieldSort}

pub sorts_fields : (c : Collation) (ends : FieldEnds) (sorts : List FieldSort) (r : SortRequest) (input text : List ℕ) (lines : List (List ℕ))
    → lines ≡ lines_by r.separator input → SortsByKey (line_key c ends sorts) r lines text → SortsByFields c ends sorts r input text
sorts_fields c ends sorts r input text lines cut h = record {
  lines = h.sorted;
  sorted =
      subst (λ ls. IsStablySorted (fields_order c ends sorts r.order) ls h.sorted) cut
      (record { permutation = h.permutation; ascends = h.ascends; stable = h.stable });
  written = h.written;
}
