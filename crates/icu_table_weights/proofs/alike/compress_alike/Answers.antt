use Rattle.std.proofs.Common.{◌≡◌, true, arith}
use Rattle.std.proofs.lemmas.Grind.{common_steps}
use Rattle.icu_table_provider.specs.StoredTables.{reordering_of, special_of}
use Rattle.icu_table_weights.proofs.AlikeLemmas.{apart_from, decided}
use Rattle.icu_table_weights.proofs.alike.compress_alike.Goals as goal

pub returns-clause-alike : goal.returns-clause-alike
returns-clause-alike c =
    let marks = c.lead_marks-marks in
    let met = c.have_common_mark in
    decided c.args.primaries.now (special_of c.args.special) (reordering_of c.args.reordering) marks.result.compressed marks.result.other
    marks.ensures.compressed marks.ensures.other marks.ensures.bytes met.result met.ensures.common met.ensures.apart

pub returns-clause-apart : goal.returns-clause-apart
returns-clause-apart c = λ fails.
    let marks = c.lead_marks-marks in
    let common : c.have_common_mark.result ≡ true = grind (arith, common_steps) in
    apart_from c.args.primaries.now (special_of c.args.special) (reordering_of c.args.reordering) marks.result.compressed marks.result.other
    marks.ensures.compressed marks.ensures.other (c.have_common_mark.ensures.common common)
