use Rattle.icu_table_data.specs.StoredData.{data_of}
use Rattle.icu_table_data.proofs.CharacterWalkLemmas.{walked_none, walked_on}
use Rattle.icu_table_data.proofs.character_walk.visit_codes.Goals as goal

pub loop-code-init : goal.loop-code-init
loop-code-init g c = record {
  clear = c.requires.clear;
  known = c.requires.known;
  walked = walked_none g.V.Visit.after c.args.falls_back (data_of c.args.home) c.args.part _ c.args.first;
}

pub loop-code-preserved : goal.loop-code-preserved
loop-code-preserved g c = record {
  clear = c.in_ok-visit_code.ensures.clear;
  known = c.in_ok-visit_code.ensures.known;
  walked =
      walked_on g.V.Visit.after c.args.falls_back (data_of c.args.home) c.args.part _ _ _ c.args.first _ _ c.loop-code.invariant.walked c.in_ok-visit_code.ensures.visits;
}
