use Rattle.icu_table_provider.specs.builder.Building.{built_data}
use Rattle.icu_table_mappings.proofs.GrownListLemmas.{lists_further, lists_itself}
use Rattle.icu_cldr_root.proofs.IdeographValueLemmas.{few_none, few_turn}
use Rattle.icu_cldr_root.proofs.ideograph_entries.set_few.Goals as goal

pub loop-code-init : goal.loop-code-init
loop-code-init c = record {
  lists = lists_itself (built_data c.args.builder.now);
  sets = few_none (built_data c.args.builder.now) c.args.weighted;
}

pub loop-code-preserved : goal.loop-code-preserved
loop-code-preserved c = record {
  lists = lists_further _ _ _ c.loop-code.invariant.lists c.in_ok-set_one.ensures.lists;
  sets = few_turn (built_data c.args.builder.now) (built_data c.loop-code.builder) (built_data c.set_one.new.builder) c.args.weighted
      c.loop-code.code c.loop-code.auto.code c.loop-code.invariant.sets c.in_ok-set_one.ensures.lists c.in_ok-set_one.ensures.here
      c.in_ok-set_one.ensures.others;
}
