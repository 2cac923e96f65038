use Rattle.icu_element_cursor.proofs.ReadCharacterLemmas.{recent_read}
use Rattle.icu_element_cursor.proofs.last_characters.LastCharacters.recent.Goals as goal

pub returns : goal.returns
returns c = recent_read c.args.self _ _ _ c.if-is_none.ensures c.new-recent.ensures c.push_decomposed.ensures c.push_decomposed-2.ensures
