-- The characters of damaged UTF-8 are scalar values.
use Rattle.std.proofs.Common.{◌≡◌, ℕ, zero, suc, List, [], ◌∷◌, map, drop, Option, Some, None, refl, length}
use Rattle.std.specs.Char.{IsScalar}
use Rattle.std.specs.List.{AllByRecursion}
use Rattle.bstr.specs.Utf8.{decoded, or_replacement, pieces_from}
use Rattle.bstr.proofs.lemmas.SoundLemmas.{SpellsChar-decoded}
use Rattle.icu_text_encodings.specs.DecodedTexts.{utf8_text}

piece_is_scalar : (bs : List ℕ) (found : Option ℕ) → (decoded bs).char ≡ found → IsScalar (or_replacement found)
piece_is_scalar bs None e = refl
piece_is_scalar bs (Some c) e = (SpellsChar-decoded bs c e).scalar

pieces_are_scalars : (n : ℕ) (bs : List ℕ) → AllByRecursion IsScalar (map (λ p. or_replacement p.char) (pieces_from n bs))
unfolding pieces_from
pieces_are_scalars zero bs = tt
pieces_are_scalars (suc n) [] = tt
pieces_are_scalars (suc n) (b ∷ rest) =
    (piece_is_scalar (b ∷ rest) _ refl, pieces_are_scalars n (drop (decoded (b ∷ rest)).size (b ∷ rest)))

pub utf8_scalars : (bs : List ℕ) → AllByRecursion IsScalar (utf8_text bs)
utf8_scalars bs = pieces_are_scalars (length bs) bs
