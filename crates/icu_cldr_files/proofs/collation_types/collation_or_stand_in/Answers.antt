use Rattle.icu_cldr_files.specs.CollationTypes.{by_this, by_later}
use Rattle.icu_cldr_files.proofs.collation_types.collation_or_stand_in.Goals as goal

pub returns-in-Some : goal.returns-in-Some
returns-in-Some c = (c.default_type_of-default_type.result.now, c.default_type_of-default_type.ensures, by_this c.in-Some.ensures)

pub returns-in-None : goal.returns-in-None
returns-in-None c =
    (c.default_type_of-default_type.result.now, c.default_type_of-default_type.ensures, by_later c.in-None.ensures c.stand_in.ensures)
