use Rattle.std.proofs.Common.{◌≡◌, ℕ, ◌*◌, ◌+◌, ◌∙◌, sym, Some, None, subst, arith}
use Rattle.icu_table_data.specs.StoredData.{data_of}
use Rattle.icu_table_data.specs.inner.BlockWalks.{WalkedTo}
use Rattle.icu_table_data.proofs.BlockWalkLemmas.{no_states}
use Rattle.icu_table_data.proofs.CharacterWalkLemmas.{walked_none, walked_on}
use Rattle.icu_table_data.proofs.character_walk.visit_by_character.Goals as goal

differ : (e : ℕ) → None ≡ Some e → ⊥
differ e h = cc

pub loop-index-init : goal.loop-index-init
loop-index-init g c = record {
  known = λ kept has e is. absurd (differ e (sym (c.new-known.ensures kept has) ∙ is));
  clear = λ e has. absurd (c.new-clear.ensures e has);
  walked = walked_none g.V.Visit.after c.args.falls_back (data_of c.args.home) c.args.part _ 0;
  states = no_states c.args.part c.args.home 0x10000;
}

pub loop-index-preserved : goal.loop-index-preserved
loop-index-preserved g c =
    let next : 64 * c.loop-index.index + 64 ≡ 64 * (c.loop-index.index + 1) = omega arith in
    record {
      known = c.in_ok-visit_index.ensures.known;
      clear = c.in_ok-visit_index.ensures.clear;
      walked =
          subst (WalkedTo g.V.Visit.after c.args.falls_back c.args.part (data_of c.args.home) _ _ 0) next
          (walked_on g.V.Visit.after c.args.falls_back (data_of c.args.home) c.args.part _ _ _ 0 _ _ c.loop-index.invariant.walked c.in_ok-visit_index.ensures.visits);
      states = c.in_ok-visit_index.ensures.states;
    }
