-- The decomposed characters that a source holds.
use Rattle.std.specs.Prelude.{◌≡◌, ℕ, ◌-◌, List, ◌++◌, take, drop, vec_len}
use Rattle.unicode_normalization.specs.Order.{canonical_order}
use Rattle.icu_element_reading.specs.declared.decomposed_source.held_chars.HeldChars.{HeldChars}

-- what comes out, where these decomposed characters follow those that are held
unfoldable pub held_before : HeldChars → List ℕ → List ℕ
held_before h rest = drop h.next (take h.ready h.chars.items) ++ canonical_order (drop h.ready h.chars.items ++ rest)

-- how many are held
abbrev pub held_count : HeldChars → ℕ
held_count h = vec_len h.chars - h.next

-- how many of them are marks whose order is open
abbrev pub marks_count : HeldChars → ℕ
marks_count h = vec_len h.chars - h.ready

-- these decomposed characters went in, and those came out
pub record PassesOn (old : HeldChars) (read given : List ℕ) (new : HeldChars) : Type 0 where
  pub at : (rest : List ℕ) → held_before old (read ++ rest) ≡ given ++ held_before new rest
