use Rattle.std.proofs.Common.{drop}
use Rattle.icu_order_levels.specs.Identical.{identical_level}
use Rattle.icu_key_writers.specs.WriterRests.{identical_rest}
use Rattle.icu_key_writers.proofs.Writing.{Owes}
use Rattle.icu_key_texts.proofs.written_levels.write_characters.Given as goal

-- what the characters that are left give is still owed
abbrev pub invariant-loop-character : goal.invariant-loop-character
invariant-loop-character g l = record {
  sound : g.S.CollationKeySink.is_sound l.sink l.state;
  owes : Owes g.S.CollationKeySink.effects l.fn.sink l.fn.state (identical_level l.characters) (identical_rest l.writer (drop l.character-index l.characters)) l.sink l.state;
}
