use Rattle.std.proofs.Common.{◌≡◌, ℕ, Some, sym, ◌∙◌}
use Rattle.icu_table_check.proofs.CollectLemmas.{loaded_of_jamo}
use Rattle.icu_table_check.proofs.check.collecting.collect_of_jamo.Goals as goal

same_some : (a b : ℕ) → Some a ≡ Some b → a ≡ b
same_some a b h = cc

pub returns-in-Some : goal.returns-in-Some
returns-in-Some g c =
    loaded_of_jamo c.args.tables c.args.list c.args.place c.args.entry c.in-Some.c c.requires.entry
    (same_some _ _ (sym c.in-Some.is ∙ c.jamo_char.ensures)) _ _ _ c.collect_weights_from.ensures
