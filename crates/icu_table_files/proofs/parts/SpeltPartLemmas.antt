-- Parts behind their lengths: bytes tell them, and where no part stands there is none.
use Rattle.std.proofs.Common.{◌≡◌, ℕ, ◌+◌, ◌≤◌, ◌<◌, ◌^◌, List, [], ◌∷◌, ◌++◌, length, refl, sym, ap, subst, ◌∙◌, append_assoc, append-nil, arith}
use Rattle.std.proofs.lemmas.Grind.{flat_map-append}
use Rattle.std.proofs.lemmas.List.{length-append}
use Rattle.icu_table_files.proofs.fingerprint.WordForms.{cut}
use Rattle.std.specs.Int.{w64, to_be_bytes}
use Rattle.icu_table_files.specs.parts.SpeltParts.{bytes_of_part, bytes_of_parts}
use Rattle.icu_table_files.specs.parts.Refusals.{BeginsWithNoPart}
use Rattle.icu_table_files.proofs.parts.SpeltNumberLemmas.{number_tells, wide64}

-- a part with more behind it is shorter than both together
pub shorter : (x r : List ℕ) → length x + 8 + length r ≡ length (bytes_of_part x ++ r)
shorter x r = omega (arith, length-append (bytes_of_part x) r, length-append (to_be_bytes w64 (length x)) x)

pub part_tells : (x y r s : List ℕ) → length (bytes_of_part x ++ r) < 2 ^ 64 → bytes_of_part x ++ r ≡ bytes_of_part y ++ s → (x ≡ y) × (r ≡ s)
part_tells x y r s small e =
    let a = append_assoc (to_be_bytes w64 (length x)) x r in
    let b = append_assoc (to_be_bytes w64 (length y)) y s in
    let f : length x < 2 ^ 64 = omega (arith, shorter x r) in
    let g : length y < 2 ^ 64 = omega (arith, shorter y s, ap length e) in
    let h = number_tells w64 (2 ^ 64) wide64 (length x) (length y) (x ++ r) (y ++ s) f g (sym a ∙ (e ∙ b)) in
    cut x y r s h.0 h.1

pub parts_tell : (xs ys : List (List ℕ)) → length (bytes_of_parts xs) < 2 ^ 64 → bytes_of_parts xs ≡ bytes_of_parts ys → xs ≡ ys
parts_tell [] [] small e = refl
parts_tell [] (y ∷ ys) small e = absurd (omega (arith, ap length e, shorter y (bytes_of_parts ys)))
parts_tell (x ∷ xs) [] small e = absurd (omega (arith, ap length e, shorter x (bytes_of_parts xs)))
parts_tell (x ∷ xs) (y ∷ ys) small e =
    let h = part_tells x y (bytes_of_parts xs) (bytes_of_parts ys) small e in
    let more = parts_tell xs ys (omega (arith, shorter x (bytes_of_parts xs))) h.1 in
    λ i. h.0 i ∷ more i

-- what stands behind some of the parts are the others
others : (done xs : List (List ℕ)) (rest : List ℕ) → length (bytes_of_parts xs) < 2 ^ 64 → bytes_of_parts done ++ rest ≡ bytes_of_parts xs → (ys : List (List ℕ)) × (rest ≡ bytes_of_parts ys)
others [] xs rest small e = (xs, e)
others (d ∷ done) [] rest small e =
    absurd (omega (arith, ap length e, shorter d (bytes_of_parts done), length-append (bytes_of_part d ++ bytes_of_parts done) rest))
others (d ∷ done) (x ∷ xs) rest small e =
    let f = sym (append_assoc (bytes_of_part d) (bytes_of_parts done) rest) ∙ e in
    let h = part_tells d x (bytes_of_parts done ++ rest) (bytes_of_parts xs) (omega (arith, ap length f)) f in
    others done xs rest (omega (arith, shorter x (bytes_of_parts xs))) h.1

none_left : (ys : List (List ℕ)) (rest : List ℕ) → 0 < length rest → length rest < 2 ^ 64 → BeginsWithNoPart rest → rest ≡ bytes_of_parts ys → ⊥
none_left [] rest some small none e = omega (arith, ap length e)
none_left (y ∷ ys) rest some small none e = none y (bytes_of_parts ys) (omega (arith, ap length e, shorter y (bytes_of_parts ys))) (sym e)

-- no parts make bytes that go on with what is none
pub no_parts : (done xs : List (List ℕ)) (rest all : List ℕ) → length all < 2 ^ 64 → 0 < length rest → BeginsWithNoPart rest → bytes_of_parts done ++ rest ≡ all → bytes_of_parts xs ≡ all → ⊥
no_parts done xs rest all small some none e f =
    let h = others done xs rest (omega (arith, ap length f)) (e ∙ sym f) in
    none_left h.0 rest some (omega (arith, ap length e, length-append (bytes_of_parts done) rest)) none h.1

-- one part more is read
pub parts_more : (xs : List (List ℕ)) (x after rest all : List ℕ) → bytes_of_part x ++ after ≡ rest → bytes_of_parts xs ++ rest ≡ all → bytes_of_parts (xs ++ x ∷ []) ++ after ≡ all
parts_more xs x after rest all e f =
    ap (λ b. b ++ after) (flat_map-append bytes_of_part xs (x ∷ []) ∙ ap (λ b. bytes_of_parts xs ++ b) (append-nil (bytes_of_part x)))
    ∙ (append_assoc (bytes_of_parts xs) (bytes_of_part x) after ∙ (ap (λ r. bytes_of_parts xs ++ r) e ∙ f))

-- no part stands in less than a length
pub too_short : (bytes : List ℕ) → length bytes < 8 → BeginsWithNoPart bytes
too_short bytes short part rest fits e = omega (arith, ap length e, shorter part rest)

-- nor before less than its length
pub too_long : (n : ℕ) (bytes rest : List ℕ) → n < 2 ^ 64 → length rest < n → to_be_bytes w64 n ++ rest ≡ bytes → BeginsWithNoPart bytes
too_long n bytes rest fits long e part after small f =
    let a = append_assoc (to_be_bytes w64 (length part)) part after in
    let h = number_tells w64 (2 ^ 64) wide64 (length part) n (part ++ after) rest small fits (sym a ∙ (f ∙ sym e)) in
    omega (arith, h.0, ap length h.1, length-append part after)
