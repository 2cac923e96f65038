use Rattle.std.proofs.Common.{ap, subst, sym, ◌∙◌}
use Rattle.std.proofs.lemmas.Result.{IfOk-weaker}
use Rattle.icu_cldr_root.specs.Roots.{IsRoot}
use Rattle.icu_table_provider.specs.well_formed.Checked.{checked_tables}
use Rattle.icu_table_files.specs.FileContents.{FileContents}
use Rattle.cldr_collators.proofs.compiled_tables.compiled.compiled_tables.Goals as goal

pub returns : goal.returns
returns g c =
    IfOk-weaker c.written_by_rules.result _ _
    (λ v w. record {
      says = w.0;
      is = w.1;
      tag_is = ap (λ (s : FileContents). s.tag) w.2 ∙ c.tag_of.ensures;
      cldr_is = ap (λ (s : FileContents). s.cldr) w.2;
      over = checked_tables c.in_ok-tables.tables;
      is_root = subst IsRoot (sym c.in_ok-tables.ensures) c.in_ok-root.ensures.root;
      statements = c.in_ok-rules.rules.rules.statements.items;
      with_rules = w.3;
    })
    c.written_by_rules.ensures
