-- What was appended, and then what is left, is the whole.
use Rattle.std.proofs.Common.{◌≡◌, ◌++◌, drop}
use Rattle.text_reasons.specs.ShownElements.{more_code_points}
use Rattle.text_reasons.proofs.shown_numbers.push_more_code_points.Given as goal

abbrev pub invariant-loop-character : goal.invariant-loop-character
invariant-loop-character l =
    l.text.items ++ more_code_points (drop l.character-index l.characters) ≡ l.initial.text.items ++ more_code_points l.characters
