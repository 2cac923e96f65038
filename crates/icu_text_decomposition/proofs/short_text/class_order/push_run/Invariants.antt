use Rattle.std.proofs.Common.{◌≡◌, ◌<◌, ◌-◌, ◌++◌}
use Rattle.unicode_normalization.specs.Order.{canonical_order}
use Rattle.icu_text_decomposition.specs.inner.MarksLeft.{left_of_pass}
use Rattle.icu_text_decomposition.specs.short_text.ArrayTexts.{array_unread}
use Rattle.icu_text_decomposition.proofs.short_text.class_order.push_run.Given as goal

-- the marks of the classes below this one are appended
abbrev pub invariant-classes : goal.invariant-classes
invariant-classes g l = l.class < 256 → array_unread l.text ++ left_of_pass l.chars l.chars l.class ≡ array_unread l.fn.text ++ canonical_order l.chars

abbrev pub decreases-classes : goal.decreases-classes
decreases-classes g l = 256 - l.class
