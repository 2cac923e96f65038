use Rattle.std.proofs.Common.{◌≡◌, length}
use Rattle.icu_cldr_locales.specs.Keywords.{type_of}
use Rattle.icu_cldr_locales.proofs.keywords.type_of.Given as goal

abbrev pub invariant-reading : goal.invariant-reading
invariant-reading l = type_of l.key l.unread ≡ type_of l.key l.subtags

abbrev pub decreases-reading : goal.decreases-reading
decreases-reading l = length l.unread
