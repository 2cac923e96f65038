use Rattle.std.proofs.Common.{◌∙◌, ap}
use Rattle.icu_table_data.specs.Data.{Data}
use Rattle.icu_table_provider.specs.builder.Building.{built_data}
use Rattle.icu_cldr_root.proofs.RootValueLemmas.{given_turn, given_all}
use Rattle.icu_cldr_root.proofs.assembly.set_all.Goals as goal

pub loop-c-preserved : goal.loop-c-preserved
loop-c-preserved c =
    let sets = c.set_entry.ensures in
    let same = c.loop-c.invariant.lists in
    record {
      lists = record {
        elements = ap (λ (d : Data). d.elements) sets ∙ same.elements;
        entries = ap (λ (d : Data). d.entries) sets ∙ same.entries;
        contexts = ap (λ (d : Data). d.contexts) sets ∙ same.contexts;
      };
      entries = λ x. given_turn x c.loop-c.c-iterator c.next.new.self c.in-Some.c.now c.in-Some.entry.now (built_data c.loop-c.builder)
          (built_data c.set_entry.new.self) _ c.in-Some.ensures.steps sets (c.loop-c.invariant.entries x);
    }

pub returns-clause-entries : goal.returns-clause-entries
returns-clause-entries c = λ x.
    given_all x c.loop-c.c-iterator c.args.entries.now ((built_data c.loop-c.builder).value x) ((built_data c.args.builder.now).value x)
    c.in-None.ensures.steps.0 c.iter-c-items.ensures.ordered (c.loop-c.invariant.entries x)
