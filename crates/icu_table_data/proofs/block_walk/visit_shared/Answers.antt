use Rattle.std.proofs.Common.{◌≡◌, ◌*◌, ◌+◌, subst, arith}
use Rattle.icu_table_data.specs.StoredData.{data_of}
use Rattle.icu_table_data.specs.declared.character_walk.Part.TheVariants.{Counted}
use Rattle.icu_table_data.specs.inner.BlockWalks.{HasWalked}
use Rattle.icu_table_data.proofs.BlockWalkLemmas.{no_states}
use Rattle.icu_table_data.proofs.SpentLemmas.{held_none, held_all}
use Rattle.icu_table_data.proofs.block_walk.visit_shared.Goals as goal

pub loop-index-init : goal.loop-index-init
loop-index-init g c = record {
  walked = held_none g.V.Visit.after c.args.falls_back (data_of c.args.home) _ _ c.new-seen.ensures;
  states = no_states Counted c.args.home 0x10000;
}

pub loop-index-preserved : goal.loop-index-preserved
loop-index-preserved g c =
    let next : 64 * c.loop-index.index + 64 ≡ 64 * (c.loop-index.index + 1) = omega arith in
    record {
      walked = subst (HasWalked g.V.Visit.after c.args.falls_back (data_of c.args.home) _ _ _) next (c.in_ok-visit_index.ensures.visits _ c.loop-index.invariant.walked);
      states = c.in_ok-visit_index.ensures.states;
    }

pub returns : goal.returns
returns g c =
    let last : 64 * c.loop-index.index ≡ 0x110000 = omega arith in
    held_all g.V.Visit.after c.args.falls_back (data_of c.args.home) _ _ _
    (subst (HasWalked g.V.Visit.after c.args.falls_back (data_of c.args.home) _ _ _) last c.loop-index.invariant.walked)
