use Rattle.std.proofs.Common.{◌≡◌, take}
use Rattle.std.specs.Prelude.{chars, string_bytes}
use Rattle.icu_search_places.proofs.indexed_text.indexed_text.written.Given as goal

abbrev pub invariant-loop-c : goal.invariant-loop-c
invariant-loop-c l = chars (string_bytes l.text) ≡ take l.c-index l.characters
