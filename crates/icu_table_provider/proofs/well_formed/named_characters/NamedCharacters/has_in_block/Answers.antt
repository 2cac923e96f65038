-- A block that isn't marked has none of the characters.
use Rattle.std.proofs.Common.{◌≡◌, ◌*◌, ◌+◌, ◌/◌, slice_index_or, false, arith, rules}
use Rattle.icu_table_provider.specs.well_formed.Named.{may_name}
use Rattle.icu_table_provider.proofs.well_formed.NamedLemmas.{absent_in_block}
use Rattle.icu_table_provider.proofs.well_formed.named_characters.NamedCharacters.has_in_block.Goals as goal

pub returns : goal.returns
unfolding may_name
returns c = λ off k small.
    let at : (64 * c.args.index + k) / 64 ≡ c.args.index = omega (arith, small) in
    let none : slice_index_or c.args.self.now.blocks.items c.args.index false ≡ false = search rules in
    absent_in_block c.args.self.now.chars.items c.args.self.now.blocks.items c.args.index (64 * c.args.index + k) c.args.self.now.in_blocks none at
