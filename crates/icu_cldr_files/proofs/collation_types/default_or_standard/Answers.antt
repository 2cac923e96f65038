use Rattle.std.proofs.Common.{codes}
use Rattle.icu_cldr_files.specs.CollationTypes.{by_this, by_later, FindsType}
use Rattle.icu_cldr_files.proofs.TypeLemmas.{finds_last}
use Rattle.icu_cldr_files.proofs.collation_types.default_or_standard.Goals as goal

pub returns-in-Some : goal.returns-in-Some
returns-in-Some c = by_this c.in-Some.ensures

pub returns-in-None : goal.returns-in-None
returns-in-None c =
    by_later c.in-None.ensures
    (finds_last (FindsType c.args.files.now c.args.locale.now) (codes "standard") _ c.collation_of-in-None.ensures)
