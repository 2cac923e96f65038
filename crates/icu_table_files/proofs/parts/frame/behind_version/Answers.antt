use Rattle.std.proofs.Common.{◌++◌, ◌∙◌, ap, arith}
use Rattle.std.specs.Int.{w64, to_be_bytes}
use Rattle.icu_table_files.specs.parts.Frames.{magic_word}
use Rattle.icu_table_files.proofs.parts.frame.behind_version.Goals as goal

pub returns-then-version-ne-VERSION : goal.returns-then-version-ne-VERSION
returns-then-version-ne-VERSION c = record {
  rest = c.in-Some.after.now;
  is = ap (λ r. to_be_bytes w64 magic_word ++ r) c.in-Some.ensures.cases ∙ c.requires;
  small = c.in-Some.ensures.range;
  other = λ e. omega (arith, e);
}
