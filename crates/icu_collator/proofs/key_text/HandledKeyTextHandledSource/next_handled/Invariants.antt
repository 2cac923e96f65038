use Rattle.std.proofs.Common.{◌≡◌, length}
use Rattle.icu_collator.specs.inner.KeyElements.{handled_for_key, key_elements_left}
use Rattle.icu_collator.proofs.key_text.HandledKeyTextHandledSource.next_handled.Given as goal

abbrev pub invariant-passing : goal.invariant-passing
invariant-passing g l = handled_for_key g.T.EncodedText.text l.fn.self ≡ handled_for_key g.T.EncodedText.text l.self

abbrev pub decreases-passing : goal.decreases-passing
decreases-passing g l = length (key_elements_left g.T.EncodedText.text l.self.elements)
