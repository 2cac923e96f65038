use Rattle.std.proofs.Common.{length}
use denote.Text.{Utf8}
use denote.Shadow.{shadow}
use Rattle.cldr_languages.proofs.rule_places.line_at.Given as goal

-- what a loop changes is text
abbrev pub invariant-seeking : goal.invariant-seeking
invariant-seeking l = shadow (Utf8 l.unread) × shadow (Utf8 l.before)

abbrev pub decreases-seeking : goal.decreases-seeking
decreases-seeking l = length l.unread
