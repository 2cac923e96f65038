use Rattle.std.proofs.Common.{◌≡◌, length}
use Rattle.std.specs.List.{AllByRecursion}
use Rattle.icu_order_levels.specs.Keys.{key_bytes}
use Rattle.icu_key_writers.proofs.Writing.{Owes}
use Rattle.icu_order_texts.specs.weighting.HandledSources.{HasCase}
use Rattle.icu_order_texts.specs.weighting.Levels.{level_lists}
use Rattle.icu_key_texts.specs.CommonRests.{common_rest}
use Rattle.icu_key_texts.proofs.whole_key.write_three_levels.Given as goal

-- what the elements that are left give is still owed
abbrev pub invariant-counting : goal.invariant-counting
invariant-counting g l = record {
  known : g.C.PrimaryCompression.compression l.compression ≡ g.C.PrimaryCompression.compression l.fn.compression;
  sound : g.S.CollationKeySink.is_sound l.sink l.state;
  cases : AllByRecursion HasCase (g.H.HandledSource.handled_left l.elements);
  owes : Owes g.S.CollationKeySink.effects l.fn.sink l.fn.state
      (key_bytes (g.C.PrimaryCompression.compression l.fn.compression) (g.F.WrittenForm.form_written l.form) (level_lists (g.C.PrimaryCompression.compression l.fn.compression).reorder (g.F.WrittenForm.form_written l.form) (g.H.HandledSource.handled_left l.fn.elements) l.characters))
      (common_rest (g.C.PrimaryCompression.compression l.fn.compression) l.tertiary (g.F.WrittenForm.form_written l.form).identical l.commons l.characters (g.H.HandledSource.handled_left l.elements)) l.sink l.state;
}

abbrev pub decreases-counting : goal.decreases-counting
decreases-counting g l = length (g.H.HandledSource.handled_left l.elements)
