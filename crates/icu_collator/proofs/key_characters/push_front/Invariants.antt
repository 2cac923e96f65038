use Rattle.std.specs.Prelude.{◌≡◌, ◌++◌, length}
use Rattle.unicode_normalization.specs.Forms.{nfd}
use Rattle.icu_collator.proofs.key_characters.push_front.Given as goal

-- what is in the list and what is left are the whole
abbrev pub invariant-chars : goal.invariant-chars
invariant-chars g l =
    l.list.items ++ nfd (g.T.EncodedText.text l.rest) ≡ l.fn.list.items ++ nfd (g.T.EncodedText.text l.fn.text)

abbrev pub decreases-chars : goal.decreases-chars
decreases-chars g l = length (g.T.EncodedText.text l.rest)
