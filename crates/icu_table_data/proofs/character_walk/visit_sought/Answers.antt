use Rattle.std.proofs.Common.{subst, take}
use Rattle.icu_table_data.specs.StoredData.{data_of}
use Rattle.icu_table_data.specs.inner.BlockWalks.{AreSought}
use Rattle.icu_table_data.proofs.CharacterWalkLemmas.{walked_runs, walked_wanted}
use Rattle.icu_table_data.proofs.WalkLemmas.{on_ok}
use Rattle.icu_table_data.proofs.character_walk.visit_sought.Goals as goal

pub returns-then-sought : goal.returns-then-sought
returns-then-sought g c =
    let found = c.args.sought.now in
    on_ok _ _ (walked_runs g.V.Visit.after c.args.falls_back (data_of c.args.home) c.args.part _ _ c.args.first c.args.entry (take found.count found.entries) c.requires.run c.requires.scalars
    c.requires.fallback (subst (AreSought c.args.part (data_of c.args.home) c.args.entry (take found.count found.entries)) c.if-sought.true c.requires.sought)) _ c.visit_runs.ensures

pub returns : goal.returns
returns g c =
    on_ok _ _ (walked_wanted g.V.Visit.after c.args.falls_back (data_of c.args.home) c.args.part _ _ c.args.first c.args.entry c.requires.run c.requires.scalars c.requires.fallback) _ c.visit_wanted_from.ensures
