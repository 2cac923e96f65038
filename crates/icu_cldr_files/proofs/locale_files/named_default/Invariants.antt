use Rattle.std.proofs.Common.{ℕ, List, Option}
use Rattle.std.specs.Str.{IsUtf8}
use Rattle.icu_cldr_files.specs.LocaleFiles.{FindsUp, default_at}
use Rattle.icu_cldr_files.proofs.ParentLemmas.{rank}
use Rattle.icu_cldr_files.proofs.locale_files.named_default.Given as goal

abbrev pub invariant-rising : goal.invariant-rising
invariant-rising l = record {
  rises : (found : Option (List ℕ)) → FindsUp (default_at l.files) l.at found → FindsUp (default_at l.files) l.locale found;
  utf8 : IsUtf8 l.at;
}

abbrev pub decreases-rising : goal.decreases-rising
decreases-rising l = rank l.at
