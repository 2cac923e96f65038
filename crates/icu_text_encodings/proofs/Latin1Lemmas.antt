-- The characters of Latin-1 are scalar values.
use Rattle.std.proofs.Common.{ℕ, suc, List, [], ◌∷◌, ◌<◌, ◌^◌, get_or, arith}
use Rattle.std.proofs.lemmas.Bool.Decides.{nat_tests}
use Rattle.std.specs.Char.{IsScalar}
use Rattle.std.specs.List.{AllByRecursion}
use Rattle.icu_text_encodings.specs.DecodedTexts.{latin1_text}

byte_is_scalar : (b : ℕ) → b < 2 ^ 8 → IsScalar b
byte_is_scalar b h = grind (arith, nat_tests)

pub latin1_scalars : (bs : List ℕ) → ((i : ℕ) → get_or bs i 0 < 2 ^ 8) → AllByRecursion IsScalar (latin1_text bs)
latin1_scalars [] h = tt
latin1_scalars (b ∷ bs) h = (byte_is_scalar b (h 0), latin1_scalars bs (λ i. h (suc i)))
