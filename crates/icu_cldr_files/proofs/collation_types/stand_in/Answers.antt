use Rattle.std.proofs.Common.{◌≡◌, rules, true}
use Rattle.icu_cldr_files.specs.CollationTypes.{by_this, by_later, FindsType, is_long_search}
use Rattle.icu_cldr_files.proofs.TypeLemmas.{with_search}
use Rattle.icu_cldr_files.proofs.collation_types.stand_in.Goals as goal

pub returns-in-Some : goal.returns-in-Some
returns-in-Some c =
    let long : is_long_search c.args.collation_type.now ≡ true = search rules in
    with_search (FindsType c.args.files.now c.args.locale.now) c.args.collation_type.now c.args.default_type.now _ long (by_this c.in-Some.ensures)

pub returns-in-None : goal.returns-in-None
returns-in-None c =
    let long : is_long_search c.args.collation_type.now ≡ true = search rules in
    with_search (FindsType c.args.files.now c.args.locale.now) c.args.collation_type.now c.args.default_type.now _ long
    (by_later c.in-None.ensures c.default_or_standard-in-None.ensures)
