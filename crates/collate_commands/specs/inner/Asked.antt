-- What commands that were read ask for.
use Rattle.collate_commands.specs.declared.command.Command.{Command}
use Rattle.collate_commands.specs.declared.command.Command.TheVariants.{Compare, Key, Sort}
use Rattle.collate_commands.specs.declared.command.Comparison.{Comparison}
use Rattle.collate_commands.specs.declared.command.KeyOf.{KeyOf}
use Rattle.collate_commands.specs.Commands.{Asked, Comparing, ShowingKey, for_order, for_key, for_sorting}

-- the comparison that the command `compare` asks for
abbrev pub comparing : Comparison → Comparing
comparing c = record { strength = c.strength; left = c.left.now; right = c.right.now }

-- the key that the command `key` asks for
abbrev pub showing_key : KeyOf → ShowingKey
showing_key k = record { strength = k.strength; text = k.text.now }

-- what a command asks for
abbrev pub asked : Command → Asked
asked (Compare c) = for_order (comparing c)
asked (Key k) = for_key (showing_key k)
asked (Sort strength) = for_sorting strength
