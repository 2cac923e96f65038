use Rattle.std.proofs.Common.{◌≡◌, map, length, string_bytes}
use Rattle.icu_cldr_files.specs.LocaleFiles.{collation_at}
use Rattle.icu_cldr_locales.specs.resolution.Resolutions.{first_by}
use Rattle.icu_cldr_locales.proofs.resolution.first_found.collation_among.Given as goal

abbrev pub invariant-reading : goal.invariant-reading
invariant-reading l =
    first_by (collation_at l.files l.collation_type) (map string_bytes l.unread) ≡ first_by (collation_at l.files l.collation_type) (map string_bytes l.names)

abbrev pub decreases-reading : goal.decreases-reading
decreases-reading l = length l.unread
