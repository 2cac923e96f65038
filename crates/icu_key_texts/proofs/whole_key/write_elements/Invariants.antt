use Rattle.std.proofs.Common.{◌≡◌, length}
use Rattle.std.specs.List.{AllByRecursion}
use Rattle.icu_key_writers.proofs.Writing.{Owes}
use Rattle.icu_order_texts.specs.weighting.HandledSources.{HasCase}
use Rattle.icu_key_texts.specs.KeyRests.{key_rest, HasForm}
use Rattle.icu_key_texts.proofs.whole_key.write_elements.Given as goal

-- what the elements that are left give is still owed
abbrev pub invariant-writing : goal.invariant-writing
invariant-writing g l = record {
  known : g.C.PrimaryCompression.compression l.compression ≡ g.C.PrimaryCompression.compression l.fn.compression;
  sound : g.S.CollationKeySink.is_sound l.sink l.state;
  form : HasForm (g.F.WrittenForm.form_written l.form) l.writer.levels;
  cases : AllByRecursion HasCase (g.H.HandledSource.handled_left l.elements);
  owes : Owes g.S.CollationKeySink.effects l.fn.sink l.fn.state (key_rest (g.C.PrimaryCompression.compression l.fn.compression) (g.F.WrittenForm.form_written l.form) l.fn.writer l.characters (g.H.HandledSource.handled_left l.fn.elements))
      (key_rest (g.C.PrimaryCompression.compression l.fn.compression) (g.F.WrittenForm.form_written l.form) l.writer l.characters (g.H.HandledSource.handled_left l.elements)) l.sink l.state;
}

abbrev pub decreases-writing : goal.decreases-writing
decreases-writing g l = length (g.H.HandledSource.handled_left l.elements)
