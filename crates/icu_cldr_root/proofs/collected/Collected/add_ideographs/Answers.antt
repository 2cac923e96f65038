use Rattle.std.proofs.Common.{◌≡◌, None, rules}
use Rattle.icu_cldr_root.specs.Ideographs.{primary_in, HasNoIdeographs}
use Rattle.icu_table_provider.specs.builder.Building.{built_data}
use Rattle.icu_cldr_root.proofs.IdeographLemmas.{no_primary}
use Rattle.icu_cldr_root.proofs.IdeographValueLemmas.{ideographs_left}
use Rattle.icu_cldr_root.proofs.collected.Collected.add_ideographs.Goals as goal

pub returns-clause-grows : goal.returns-clause-grows
returns-clause-grows c =
    let none : HasNoIdeographs c.args.self.now.ideographs = search rules in
    record {
      builder = c.in_ok-set_ideographs.ensures.lists;
      entries = record { alone = λ x e h. h; between = λ x b a e h. h; no_empty = λ x h. h };
      ideographs = λ x p h. let no : primary_in c.args.self.now.ideographs x ≡ None = no_primary c.args.self.now.ideographs x none in cc;
    }

pub returns-clause-unmapped : goal.returns-clause-unmapped
returns-clause-unmapped c = λ has x scalar.
    let none : HasNoIdeographs c.args.self.now.ideographs = search rules in
    ideographs_left (built_data c.args.self.now.builder) (built_data c.set_ideographs.new.builder) c.args.self.now.ideographs c.in_ok-ideographs.ideographs
    c.ranges-2.result.now x none c.ranges-2.ensures (c.in_ok-set_ideographs.ensures.gives x scalar) (has x scalar)
