use Rattle.std.proofs.Common.{inl, inr}
use Rattle.std.specs.Prelude.{codes}
use Rattle.icu_cldr_files.proofs.xml.ContentLemmas.{quoted_in}
use Rattle.icu_cldr_files.proofs.xml.attributes.quoted.Goals as goal

pub returns-in-Some-cut_around-clause-quoted : goal.returns-in-Some-cut_around-clause-quoted
returns-in-Some-cut_around-clause-quoted c =
    let q = quoted_in (codes "\"") c.args.text.now c.in-Some.inside.now c.in-Some-cut_around.written.now c.in-Some-cut_around.rest.now c.in-Some.ensures c.in-Some-cut_around.ensures in
    (q.0, q.1, inl q.2)

pub returns-in-Some-cut_around-2-clause-quoted : goal.returns-in-Some-cut_around-2-clause-quoted
returns-in-Some-cut_around-2-clause-quoted c =
    let q = quoted_in (codes "'") c.args.text.now c.in-Some-behind.inside.now c.in-Some-cut_around-2.written.now c.in-Some-cut_around-2.rest.now c.in-Some-behind.ensures c.in-Some-cut_around-2.ensures in
    (q.0, q.1, inr q.2)
