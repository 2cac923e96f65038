use Rattle.std.proofs.Common.{◌++◌, take, drop, ◌+◌, ◌∙◌, ap, rules}
use Rattle.std.proofs.lemmas.Slice.{between_is}
use Rattle.icu_text_decomposition.proofs.short_text.CharRoomLemmas.{part_written}
use Rattle.icu_text_decomposition.proofs.short_text.char_room.CharRoom.move_to_front.Goals as goal

pub returns : goal.returns
returns g c =
    part_written c.args.self.now.chars c.move_to_front.new.chars c.args.from c.args.to c.requires.order (search rules) c.move_to_front.ensures.len 1
    ∙ c.move_to_front.ensures.rest
    ∙ ap (λ l. take c.args.index l ++ drop (c.args.index + 1) l) (between_is c.args.self.now.chars c.args.from c.args.to)
