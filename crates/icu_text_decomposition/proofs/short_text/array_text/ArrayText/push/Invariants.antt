use Rattle.std.proofs.Common.{◌≡◌, ◌++◌, take}
use Rattle.icu_text_decomposition.specs.short_text.ArrayTexts.{array_unread}
use Rattle.icu_text_decomposition.proofs.short_text.array_text.ArrayText.push.Given as goal

abbrev pub invariant-loop-part : goal.invariant-loop-part
invariant-loop-part g l = array_unread l.self ≡ array_unread l.initial.self ++ take l.part-index l.part-items
