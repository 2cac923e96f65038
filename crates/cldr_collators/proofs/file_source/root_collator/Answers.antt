-- The collator has the tables of the root, and the chosen settings.
use Rattle.std.proofs.Common.{subst, sym}
use Rattle.icu_cldr_root.specs.Roots.{IsRoot}
use Rattle.icu_collator.specs.Collators.{collation_kept}
use Rattle.cldr_collators.proofs.RootLemmas.{chosen_merged}
use Rattle.cldr_collators.proofs.file_source.root_collator.Goals as goal

pub returns-in-Ok-clause-compares : goal.returns-in-Ok-clause-compares
returns-in-Ok-clause-compares c =
    let kept = collation_kept c.in-Ok.collator in
    let is = subst IsRoot (sym c.in-Ok.ensures.keeps) c.requires in
    record {
      root = is;
      settings = chosen_merged c.args.chosen c.args.strength kept c.options.result c.preferences.result is
          c.options.ensures c.preferences.ensures.case_first c.preferences.ensures.numeric c.in-Ok.ensures.settings;
    }
