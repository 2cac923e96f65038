use Rattle.std.proofs.Common.{◌≡◌, ◌≤◌, length, take}
use Rattle.icu_element_matches.specs.Texts.{still_unread}
use Rattle.icu_element_matches.proofs.text_front.extend.Given as goal

-- those so far are those of the text
abbrev pub invariant-loop-index : goal.invariant-loop-index
invariant-loop-index l = record {
  so_far : l.front.items ≡ take l.index (still_unread l.text);
  inside : l.index ≤ length (still_unread l.text);
}
