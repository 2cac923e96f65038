use Rattle.std.proofs.Common.{◌-◌, false, arith, sym, ◌∙◌}
use Rattle.icu_table_data.specs.StoredData.{data_of}
use Rattle.icu_table_data.proofs.CharacterWalkLemmas.{same_run, run_none, run_more}
use Rattle.icu_table_data.proofs.character_walk.visit_run.Goals as goal

pub returns-then-passes_run : goal.returns-then-passes_run
returns-then-passes_run g c = sym (same_run g.V.Visit.after false (data_of c.args.home) _ c.args.first c.args.entry 64 (c.passes_run.ensures c.if-passes_run.true) (omega arith))

pub loop-code-init : goal.loop-code-init
loop-code-init g c =
    c.in_ok-visit_run.ensures.leaves c.if-branch.false ∙ run_none g.V.Visit.after false (data_of c.args.home) _ c.args.first c.args.entry _ (omega arith)

pub loop-code-preserved : goal.loop-code-preserved
loop-code-preserved g c =
    run_more g.V.Visit.after false (data_of c.args.home) _ _ _ c.args.first c.args.entry (c.loop-code.code - c.args.first) _ c.loop-code.code (omega arith) (omega arith) c.loop-code.invariant c.in_ok-visit_with.ensures
