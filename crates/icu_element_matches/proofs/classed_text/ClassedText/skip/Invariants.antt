use Rattle.std.proofs.Common.{◌≡◌, drop}
use Rattle.icu_element_matches.specs.Texts.{still_unread}
use Rattle.icu_element_matches.proofs.classed_text.ClassedText.skip.Given as goal

-- so many were read
abbrev pub invariant-loop-index : goal.invariant-loop-index
invariant-loop-index l = still_unread l.self ≡ drop l.index (still_unread l.fn.self)
