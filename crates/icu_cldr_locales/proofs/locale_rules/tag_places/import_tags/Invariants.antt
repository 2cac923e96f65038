use Rattle.std.proofs.Common.{length}
use Rattle.icu_cldr_locales.proofs.locale_rules.tag_places.import_tags.Given as goal

abbrev pub decreases-reading : goal.decreases-reading
decreases-reading l = length l.unread
