use Rattle.std.proofs.Common.{◌≤◌, length}
use Rattle.std.specs.Str.{IsUtf8}
use Rattle.icu_cldr_files.proofs.tag_lines.left_at_tag.Given as goal

abbrev pub invariant-seeking : goal.invariant-seeking
invariant-seeking l = record {
  within : length l.rest ≤ length l.text;
  utf8 : IsUtf8 l.rest;
}

abbrev pub decreases-seeking : goal.decreases-seeking
decreases-seeking l = length l.rest
