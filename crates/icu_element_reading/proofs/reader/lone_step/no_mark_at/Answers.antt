use Rattle.std.proofs.Common.{◌≡◌, true, rules}
use Rattle.std.specs.Prelude.{slice_get, Some}
use Rattle.unicode_normalization.specs.Order.{is_starter}
use Rattle.icu_element_matches.specs.Texts.{still_unread}
use Rattle.icu_element_reading.proofs.LoneStepLemmas.{no_mark-at, starter-at}
use Rattle.icu_element_reading.proofs.reader.lone_step.no_mark_at.Goals as goal

pub returns-in-Some : goal.returns-in-Some
returns-in-Some c = λ is.
    let there : slice_get (still_unread c.args.text.now) c.args.index ≡ Some c.in-Some.d = search rules in
    let starter : is_starter c.in-Some.d ≡ true = search rules in
    starter-at (still_unread c.args.text.now) c.args.index c.in-Some.d there starter

pub returns-in-None : goal.returns-in-None
returns-in-None c = λ is. no_mark-at (still_unread c.args.text.now) c.args.index (search rules)
