use Rattle.std.proofs.Common.{sym, subst}
use Rattle.icu_element_matches.specs.Texts.{unread}
use Rattle.icu_rule_steps.specs.symbolic_mappings.inner.PassedMarks.{IsMarkRun}
use Rattle.icu_rule_steps.proofs.symbolic_mappings.MarkRunLemmas.{run_dropped}
use Rattle.icu_rule_steps.proofs.symbolic_mappings.matching.match_by.Goals as goal

pub join_marks-requires : goal.join_marks-requires
join_marks-requires c = record {
  run = subst (IsMarkRun c.args.run.now) (sym c.skip.ensures) (run_dropped c.args.run.now c.len.result (unread c.args.text.now) c.requires.run);
}
