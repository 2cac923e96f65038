-- Records that are sorted by the keys of their columns, behind a mark and a header.
use Rattle.std.proofs.Common.{◌≡◌, ◌++◌, ℕ, Bool, List, ap, ◌∙◌, subst}
use Rattle.std.specs.List.{AllByRecursion}
use Rattle.std.specs.Ordering.{is_eq}
use Rattle.csv.specs.Reading.{strip_bom}
use Rattle.line_sorts.specs.csv_records.CsvCuts.{HasRecords}
use Rattle.icu_collator.specs.NameOrders.{IsStablySorted}
use Rattle.icu_order_levels.specs.ListOrder.{list_order}
use Rattle.icu_order_texts.specs.weighting.Collations.{Collation}
use Rattle.line_sorts.specs.FirstLines.{printed}
use Rattle.line_sorts.specs.InputLines.{ended_lines}
use Rattle.line_sorts.specs.KeyedOrders.{ordered_as}
use Rattle.line_sorts.specs.SortedTexts.{SortsByKey}
use Rattle.line_sorts.specs.declared.sort_request.SortRequest.{SortRequest}
use Rattle.line_commands.specs.csv_sorts.ColumnOrders.{HasColumns, as_they_came, body_of, columns_key, columns_order, header_of}
use Rattle.line_commands.specs.csv_sorts.SortedRecords.{SortsCsv, front_mark}
use Rattle.line_commands.specs.declared.csv_sorts.csv_request.CsvRequest.{CsvRequest}

-- how the records are sorted and written
pub record IsWrittenAs (r : CsvRequest) (w : SortRequest) : Type 0 where
  pub separator : w.separator ≡ 10
  pub repeats : w.repeats ≡ r.repeats
  pub order : w.order ≡ as_they_came r.direction

pub sorts_csv : (c : Collation) (r : CsvRequest) (w : SortRequest) (input output text : List ℕ) (records header body : List (List ℕ))
    → IsWrittenAs r w → HasRecords r.delimiter (strip_bom input) records → header ≡ header_of r.has_header records → body ≡ body_of r.has_header records
    → AllByRecursion (HasColumns r.delimiter r.columns.now) body → SortsByKey (columns_key c r.delimiter r.columns.now) w body text
    → output ≡ front_mark input ++ (ended_lines 10 header ++ text) → SortsCsv c r input output
sorts_csv c r w input output text records header body way cut head behind complete by_key joined =
    let d = r.delimiter in
    let columns = r.columns.now in
    let key : List ℕ → List ℕ = columns_key c d columns in
    let same : List ℕ → List ℕ → Bool = (λ x y. is_eq (list_order (key x) (key y))) in
    let last =
    by_key.written
    ∙ (ap (λ s. ended_lines s (printed w.repeats same by_key.sorted)) way.separator ∙ ap (λ p. ended_lines 10 (printed p same by_key.sorted)) way.repeats) in
    record {
      records = records;
      cut = cut;
      complete = subst (λ rs. AllByRecursion (HasColumns d columns) rs) behind complete;
      lines = by_key.sorted;
      sorted =
          subst (λ ls. IsStablySorted (columns_order c d columns r.direction) ls by_key.sorted) behind
          (subst (λ o. IsStablySorted (ordered_as o (λ x y. list_order (key x) (key y)) list_order) body by_key.sorted) way.order
          (record { permutation = by_key.permutation; ascends = by_key.ascends; stable = by_key.stable }));
      written =
          joined
          ∙ (ap (λ hs. front_mark input ++ (ended_lines 10 hs ++ text)) head
          ∙ ap (λ (e : List ℕ). front_mark input ++ (ended_lines 10 (header_of r.has_header records) ++ e)) last);
    }
