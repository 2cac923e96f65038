use Rattle.std.proofs.Common.{◌≡◌, map, length, string_bytes}
use Rattle.icu_cldr_files.specs.LocaleFiles.{default_at}
use Rattle.icu_cldr_locales.specs.resolution.Resolutions.{first_by}
use Rattle.icu_cldr_locales.proofs.resolution.first_found.default_named.Given as goal

abbrev pub invariant-reading : goal.invariant-reading
invariant-reading l = first_by (default_at l.files) (map string_bytes l.unread) ≡ first_by (default_at l.files) (map string_bytes l.names)

abbrev pub decreases-reading : goal.decreases-reading
decreases-reading l = length l.unread
