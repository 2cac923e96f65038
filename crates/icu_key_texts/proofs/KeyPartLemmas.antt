-- Levels, one after another.
use Rattle.std.proofs.Common.{◌≡◌, List, [], ◌∷◌, ◌++◌, sym, ap, ◌∙◌, append_assoc}
use Rattle.std.proofs.lemmas.List.{append-nil}
use Rattle.icu_order_levels.specs.Keys.{LevelPart, part_bytes, parts_bytes}

-- the last one by itself
pub parts_end : (ps : List LevelPart) (q : LevelPart) → parts_bytes (ps ++ (q ∷ [])) ≡ parts_bytes ps ++ part_bytes q
parts_end [] q = append-nil (part_bytes q)
parts_end (p ∷ ps) q = ap (λ l. part_bytes p ++ l) (parts_end ps q) ∙ sym (append_assoc (part_bytes p) (parts_bytes ps) (part_bytes q))
