use Rattle.std.proofs.Common.{rules, ◌≡◌, ◌≤◌, ◌+◌, true, None, arith, sym, subst}
use Rattle.icu_table_entries.specs.declared.entry.EntryKind.TheVariants.{Offset, Implicit}
use Rattle.icu_table_entries.specs.Elements.{of_primary}
use Rattle.icu_table_entries.specs.Entries.{kind_of}
use Rattle.icu_table_data.specs.Data.{Data}
use Rattle.icu_table_data.specs.StoredData.{data_of}
use Rattle.icu_table_data.specs.declared.reachable_condition.ReachableCondition.TheVariants.{Indices, Offsets}
use Rattle.icu_table_data.specs.ReachableConditions.{first_failing}
use Rattle.icu_table_data.proofs.ViolationLemmas.{passes_meets}
use Rattle.icu_table_provider.specs.CollatorTables.{CollatorTables}
use Rattle.icu_table_provider.specs.TableSets.{tables_in}
use Rattle.icu_table_check.specs.inner.EntryViolations.{first_condition_failed}
use Rattle.icu_table_check.proofs.ImplicitLemmas.{implicit_no_violation}
use Rattle.icu_table_check.proofs.RunLemmas.{GivesBetween, gives_between, offset_no_violation}
use Rattle.icu_table_check.proofs.check.entry_judge.TablesJudgeJudge.passes_run.Goals as goal

pub returns-then-eq : goal.returns-then-eq
returns-then-eq c passes char low below =
    let is : kind_of c.args.entry ≡ Implicit = search rules in
    implicit_no_violation (tables_in c.args.self.now.tables) c.args.self.now.table (data_of c.args.home) char c.args.entry is (c.implicit_run_passes.ensures passes char low below)

pub ce_from_offset_ce32-requires-clause-inside : goal.ce_from_offset_ce32-requires-clause-inside
ce_from_offset_ce32-requires-clause-inside c =
    let ran : c.passes_run.result ≡ true = search rules in
    passes_meets (data_of c.args.home) c.args.first c.args.entry (c.passes_run.ensures ran c.args.first (omega arith) (omega arith)) Indices

pub ce_from_offset_ce32-requires-clause-fits : goal.ce_from_offset_ce32-requires-clause-fits
ce_from_offset_ce32-requires-clause-fits c =
    let ran : c.passes_run.result ≡ true = search rules in
    passes_meets (data_of c.args.home) c.args.first c.args.entry (c.passes_run.ensures ran c.args.first (omega arith) (omega arith)) Offsets

pub ce_from_offset_ce32-requires-in-Offset-Some-clause-inside : goal.ce_from_offset_ce32-requires-in-Offset-Some-clause-inside
ce_from_offset_ce32-requires-in-Offset-Some-clause-inside c =
    let ran : c.passes_run.result ≡ true = search rules in
    passes_meets (data_of c.args.home) c.args.first c.args.entry (c.passes_run.ensures ran c.args.first (omega arith) (omega arith)) Indices

pub ce_from_offset_ce32-requires-in-Offset-Some-clause-fits : goal.ce_from_offset_ce32-requires-in-Offset-Some-clause-fits
ce_from_offset_ce32-requires-in-Offset-Some-clause-fits c =
    let ran : c.passes_run.result ≡ true = search rules in
    let last : c.in-Offset-Some.last ≡ c.args.first + 63 = search rules in
    passes_meets (data_of c.args.home) c.in-Offset-Some.last c.args.entry (c.passes_run.ensures ran c.in-Offset-Some.last (omega arith) (omega arith)) Offsets

pub returns-in-Offset-Some : goal.returns-in-Offset-Some
returns-in-Offset-Some c passes char low below =
    let all : CollatorTables = tables_in c.args.self.now.tables in
    let home : Data = data_of c.args.home in
    let is : kind_of c.args.entry ≡ Offset = search rules in
    let ran : c.passes_run.result ≡ true = search rules in
    let last : c.in-Offset-Some.last ≡ c.args.first + 63 = search rules in
    let own : first_failing home char c.args.entry ≡ None = c.passes_run.ensures ran char low below in
    let gives : GivesBetween home c.args.entry char c.ce_from_offset_ce32.result.primary c.ce_from_offset_ce32-in-Offset-Some.result.primary =
    gives_between home c.args.entry c.args.first c.in-Offset-Some.last char _ _ is (λ other from to. passes_meets home other c.args.entry (c.passes_run.ensures ran other from (omega arith)) Offsets) c.ce_from_offset_ce32.ensures.value c.ce_from_offset_ce32-in-Offset-Some.ensures.value low (omega arith) in
    let above : c.primary-least.result ≤ gives.weight = subst (λ n. n ≤ gives.weight) (sym c.primary-least.ensures) gives.low in
    let under : gives.weight ≤ c.primary-greatest.result = subst (λ n. gives.weight ≤ n) (sym c.primary-greatest.ensures) gives.high in
    let none : first_condition_failed all (of_primary gives.weight) ≡ None = c.passes_between.ensures passes gives.weight above under in
    offset_no_violation all c.args.self.now.table home char c.args.entry gives.weight is own gives.given none
