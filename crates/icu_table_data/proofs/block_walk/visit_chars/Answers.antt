use Rattle.icu_table_data.specs.StoredData.{data_of}
use Rattle.icu_table_data.proofs.BlockWalkLemmas.{walked_but_implicit, walked_all}
use Rattle.icu_table_data.proofs.WalkLemmas.{on_ok}
use Rattle.icu_table_data.proofs.block_walk.visit_chars.Goals as goal

pub returns-then-passes_implicit : goal.returns-then-passes_implicit
returns-then-passes_implicit g c =
    walked_but_implicit g.V.Visit.after c.args.falls_back (data_of c.args.home) _ _ _ c.in_ok-visit_shared.ensures c.in_ok-visit_by_character.ensures (c.passes_implicit.ensures c.if-passes_implicit.true)

pub returns : goal.returns
returns g c =
    on_ok _ _ (walked_all g.V.Visit.after c.args.falls_back (data_of c.args.home) _ _ _ _ c.in_ok-visit_shared.ensures c.in_ok-visit_by_character.ensures) _ c.visit_by_character-2.ensures
