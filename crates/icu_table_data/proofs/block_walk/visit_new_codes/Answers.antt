use Rattle.icu_table_data.specs.StoredData.{data_of}
use Rattle.icu_table_data.proofs.SpentLemmas.{none_in, next_in}
use Rattle.icu_table_data.proofs.block_walk.visit_new_codes.Goals as goal

pub loop-code-init : goal.loop-code-init
loop-code-init g c = none_in g.V.Visit.after c.args.falls_back (data_of c.args.home) _ _ c.args.first

pub loop-code-preserved : goal.loop-code-preserved
loop-code-preserved g c =
    next_in g.V.Visit.after c.args.falls_back (data_of c.args.home) _ _ _ _ _ _ c.args.first _ _ c.loop-code.invariant c.in_ok-visit_new_code.ensures
