use Rattle.std.proofs.Common.{rules, ◌≡◌, ◌≤◌, arith, ap, ◌∙◌}
use Rattle.std.proofs.lemmas.Bool.Decides.{nat_tests}
use Rattle.icu_table_entries.specs.Elements.{Element}
use Rattle.icu_table_entries.specs.Weights.{offset_weight}
use Rattle.icu_table_data.specs.StoredData.{data_of}
use Rattle.icu_table_data.proofs.RunLemmas.{run_passes}
use Rattle.icu_table_data.proofs.reachable_condition.EntryJudgeJudge.passes_run.Goals as goal

pub returns-in-Some : goal.returns-in-Some
returns-in-Some c passes char low below =
    let d : Element = c.in-Some.data in
    let weight : c.primary.result ≡ offset_weight d c.args.first = c.primary.ensures ∙ ap (λ (x : Element). x.primary) c.offset_element.ensures.value in
    let enough : 0x03000000 ≤ c.primary.result = grind (arith, nat_tests) in
    let high : 0x03000000 ≤ offset_weight d c.args.first = omega (arith, enough, weight) in
    run_passes (data_of c.args.home) c.args.first c.args.entry d (search rules) high char low below
