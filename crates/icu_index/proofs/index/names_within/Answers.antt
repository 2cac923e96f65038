use Rattle.std.proofs.Common.{◌∙◌, refl}
use Rattle.icu_index_keys.specs.KeyedLists.{keyed_names}
use Rattle.icu_index.proofs.NameLemmas.{stand_behind, stand_between}
use Rattle.icu_index.proofs.index.names_within.Goals as goal

pub returns-in-Some : goal.returns-in-Some
returns-in-Some c = c.between.ensures ∙ stand_between _ _ c.args.bounds refl c.in-Some.is (keyed_names c.args.names.now)

pub returns-in-None : goal.returns-in-None
returns-in-None c = c.behind.ensures ∙ stand_behind _ c.args.bounds refl c.in-None.is (keyed_names c.args.names.now)
