use Rattle.std.proofs.Common.{Option}
use Rattle.std.specs.Str.{IsUtf8}
use Rattle.icu_cldr_files.specs.declared.collation.Collation.{Collation}
use Rattle.icu_cldr_files.specs.declared.locale_files.LocaleFile.{LocaleFile}
use Rattle.icu_cldr_files.specs.LocaleFiles.{FindsUp, collation_at}
use Rattle.icu_cldr_files.proofs.ParentLemmas.{rank}
use Rattle.icu_cldr_files.proofs.locale_files.collation_of.Given as goal

abbrev pub invariant-rising : goal.invariant-rising
invariant-rising l = record {
  rises : (found : Option (LocaleFile × Collation)) → FindsUp (collation_at l.files l.collation_type) l.at found → FindsUp (collation_at l.files l.collation_type) l.locale found;
  utf8 : IsUtf8 l.at;
}

abbrev pub decreases-rising : goal.decreases-rising
decreases-rising l = rank l.at
