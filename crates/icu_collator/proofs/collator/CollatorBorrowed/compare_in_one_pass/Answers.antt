-- The sources give the elements of the texts.
use Rattle.unicode_normalization.specs.Forms.{nfd}
use Rattle.icu_collator.proofs.collator.CollatorBorrowed.compare_in_one_pass.Goals as goal

pub returns-then-last_variable-eq0 : goal.returns-then-last_variable-eq0
returns-then-last_variable-eq0 g c =
    c.compare_sources.ensures (nfd (g.L.EncodedText.text c.args.left)) (nfd (g.R.EncodedText.text c.args.right))
    c.plain_text-left.ensures c.plain_text-right.ensures

pub returns : goal.returns
returns g c =
    c.compare_sources-2.ensures (nfd (g.L.EncodedText.text c.args.left)) (nfd (g.R.EncodedText.text c.args.right))
    c.handled_text-left.ensures c.handled_text-right.ensures
