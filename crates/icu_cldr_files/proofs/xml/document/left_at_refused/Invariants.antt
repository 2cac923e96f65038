use Rattle.std.proofs.Common.{◌≤◌, length}
use Rattle.icu_cldr_files.proofs.xml.document.left_at_refused.Given as goal

abbrev pub invariant-loop-c : goal.invariant-loop-c
invariant-loop-c l = l.left ≤ length l.text
