-- What is still to be written of a key.
use Rattle.std.specs.Prelude.{ℕ, List, ◌++◌}
use Rattle.icu_order_levels.specs.Primaries.{Compression}
use Rattle.icu_order_levels.specs.Keys.{parts_bytes}
use Rattle.icu_order_levels.specs.declared.forms.KeyForm.{KeyForm}
use Rattle.icu_key_writers.specs.WriterRests.{primary_rest}
use Rattle.icu_order_texts.specs.weighting.Handled.{HandledElement, stayed_elements}
use Rattle.icu_order_texts.specs.weighting.Levels.{primaries}
use Rattle.icu_key_texts.specs.LevelRests.{counted_left, HasLaterForm}
use Rattle.icu_key_texts.specs.declared.counted_levels.CountedLevels.{CountedLevels}
use Rattle.icu_key_texts.specs.declared.writer.KeyWriter.{KeyWriter}

-- how primaries are written, the key's form, all characters of the text, and its further elements, as they are handled
abbrev pub key_rest : Compression → KeyForm → KeyWriter → List ℕ → List HandledElement → List ℕ
key_rest c form w cs hs =
    primary_rest c w.primaries (primaries (stayed_elements hs)) ++ parts_bytes (counted_left c.reorder form w.levels cs hs)

-- tertiaries are held in the form of the key, where it has them
abbrev pub HasForm : KeyForm → CountedLevels → Type 0
HasForm form l = HasLaterForm form l.levels
