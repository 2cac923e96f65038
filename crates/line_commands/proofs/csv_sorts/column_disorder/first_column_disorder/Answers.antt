-- A record without a key is one of those behind the header.
use Rattle.std.proofs.Common.{◌≡◌, ◌∙◌, ap}
use Rattle.line_sorts.specs.ShownLines.{shown_lines}
use Rattle.line_commands.proofs.csv_sorts.ErrorLemmas.{none_found}
use Rattle.line_commands.proofs.csv_sorts.HeadLemmas.{shown_body}
use Rattle.line_commands.specs.csv_sorts.ColumnOrders.{body_of}
use Rattle.line_commands.proofs.csv_sorts.column_disorder.first_column_disorder.Goals as goal

pub returns-clause-explains : goal.returns-clause-explains
returns-clause-explains c =
    let r = c.args.request in
    let records = shown_lines c.in_ok-records.records.items in
    let behind : shown_lines c.body_of-body.result.now ≡ body_of r.has_header records =
    ap shown_lines c.body_of-body.ensures
    ∙ (shown_body r.has_header c.as_slice.result.now ∙ ap (λ rs. body_of r.has_header (shown_lines rs)) c.as_slice.ensures.value) in
    none_found r c.args.text.now records (shown_lines c.body_of-body.result.now) c.first_wrong.result c.in_ok-records.ensures.cut behind c.first_wrong.ensures.explains
