-- A search finds what a list in ascending order has, where the block of the character is marked.
use Rattle.std.proofs.Common.{◌≡◌, ◌∙◌, ◌/◌, slice_index_or, sym, subst, false, List, ℕ, refl, rules}
use Rattle.icu_table_provider.specs.well_formed.Named.{may_name}
use Rattle.icu_table_provider.specs.well_formed.MappingCharacters.{has_character, Ascends}
use Rattle.icu_table_provider.proofs.well_formed.NamedLemmas.{absent_by_search, absent_in_block}
use Rattle.icu_table_provider.proofs.well_formed.named_characters.NamedCharacters.has.Goals as goal

pub returns-then-index : goal.returns-then-index
unfolding may_name
returns-then-index c = λ no.
    let same = c.deref.ensures.value in
    subst (λ (xs : List ℕ). has_character c.args.c xs ≡ false) same
    (absent_by_search c.deref.result.now c.args.c c.binary_search.result c.binary_search.ensures.position
    (subst Ascends (sym same) c.args.self.now.ascending) (sym c.is_ok.ensures.value ∙ no))

pub returns-else-index : goal.returns-else-index
unfolding may_name
returns-else-index c = λ _.
    let off : slice_index_or c.args.self.now.blocks.items (c.args.c / 64) false ≡ false = search rules in
    absent_in_block c.args.self.now.chars.items c.args.self.now.blocks.items (c.args.c / 64) c.args.c c.args.self.now.in_blocks off refl
