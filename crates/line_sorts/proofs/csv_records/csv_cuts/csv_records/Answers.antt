-- A record more was cut.
use Rattle.std.proofs.Common.{◌≡◌, ◌<◌, ◌++◌, [], ◌∷◌, length, ap, ◌∙◌, rules, subst, sym}
use Rattle.std.proofs.lemmas.List.{map-append}
use Rattle.line_sorts.specs.ShownLines.{shown_lines}
use Rattle.line_sorts.proofs.csv_records.RecordCutLemmas.{GoesOn, one_more_cut, passed_once}
use Rattle.line_sorts.specs.csv_records.CsvCuts.{past_line_ends, record_from}
use Rattle.line_sorts.specs.declared.csv_records.record_place.RecordPlace.TheVariants.{FieldStart}
use Rattle.line_sorts.proofs.csv_records.csv_cuts.csv_records.Goals as goal

pub cutting-preserved : goal.cutting-preserved
cutting-preserved c =
    let d = c.args.delimiter in
    let left = c.cutting.left.now in
    let so_far = shown_lines c.cutting.records.items in
    let behind = c.behind_record.result.now in
    let is = c.past_line_ends-left-in-cutting.ensures in
    let next = is ∙ ap past_line_ends c.behind_record.ensures in
    let some : 0 < length left = search rules in
    let shown : shown_lines c.push.new.self.items ≡ so_far ++ record_from d FieldStart left ∷ [] =
    ap shown_lines c.in_ok-push.ensures.items
    ∙ map-append (λ line. line.now) c.cutting.records.items (c.record_of.result ∷ [])
    ∙ ap (λ r. so_far ++ r ∷ []) c.record_of.ensures in
    record {
      passed = ap past_line_ends is ∙ passed_once behind ∙ sym is;
      goes_on =
          subst (λ rs. GoesOn d c.args.text.now rs c.past_line_ends-left-in-cutting.result.now) (sym shown)
          (subst (λ l. GoesOn d c.args.text.now (so_far ++ record_from d FieldStart left ∷ []) l) (sym next)
          (one_more_cut d c.args.text.now so_far left c.cutting.invariant.passed some c.cutting.invariant.goes_on));
    }
