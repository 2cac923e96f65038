-- The header and the records behind it, as bytes.
use Rattle.std.proofs.Common.{◌≡◌, ℕ, Bool, true, false, List, [], ◌∷◌, refl}
use Rattle.std.specs.Borrow.{Bor}
use Rattle.line_sorts.specs.ShownLines.{shown_lines}
use Rattle.line_commands.specs.csv_sorts.ColumnOrders.{body_of, header_of}

pub shown_header : (has_header : Bool) (records : List (Bor (List ℕ))) → shown_lines (header_of has_header records) ≡ header_of has_header (shown_lines records)
shown_header false records = refl
shown_header true [] = refl
shown_header true (r ∷ records) = refl

-- the records that are sorted, as bytes
pub shown_body : (has_header : Bool) (records : List (Bor (List ℕ))) → shown_lines (body_of has_header records) ≡ body_of has_header (shown_lines records)
shown_body false records = refl
shown_body true [] = refl
shown_body true (r ∷ records) = refl
