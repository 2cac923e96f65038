use Rattle.std.proofs.Common.{◌≡◌, ◌++◌, take, string_bytes}
use Rattle.icu_cldr_locales.specs.Keywords.{followed}
use Rattle.icu_cldr_locales.proofs.keywords.push_each.Given as goal

abbrev pub invariant-loop-subtag : goal.invariant-loop-subtag
invariant-loop-subtag l =
    string_bytes l.text ≡ string_bytes l.initial.text ++ followed l.separator (take l.subtag-index l.subtags)
