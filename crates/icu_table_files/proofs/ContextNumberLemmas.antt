-- Numbers of contexts and mappings: lists of them don't end within one, and tell them.
use Rattle.std.proofs.Common.{◌≡◌, ℕ, ◌*◌, ◌<◌, List, [], ◌∷◌, ◌++◌, length, refl, ap, arith}
use Rattle.std.proofs.lemmas.List.{length-append}
use Rattle.std.specs.List.{flat_map}
use Rattle.icu_table_data.specs.declared.context.Context.{Context}
use Rattle.icu_table_data.specs.declared.context.ContextMapping.{ContextMapping}
use Rattle.icu_table_files.specs.fingerprint.FingerprintForms.{context_words, mapping_words}

length_of_contexts : (xs : List Context) → length (flat_map context_words xs) ≡ 3 * length xs
length_of_contexts [] = refl
length_of_contexts (x ∷ xs) = omega (arith, length_of_contexts xs)

length_of_mappings : (xs : List ContextMapping) → length (flat_map mapping_words xs) ≡ 3 * length xs
length_of_mappings [] = refl
length_of_mappings (x ∷ xs) = omega (arith, length_of_mappings xs)

-- a list of contexts doesn't end within one
pub contexts_end_whole : (done xs : List Context) (rest all : List ℕ) → 0 < length rest → length rest < 3 → flat_map context_words done ++ rest ≡ all → flat_map context_words xs ≡ all → ⊥
contexts_end_whole done xs rest all some few e f =
    omega (arith, length_of_contexts done, length_of_contexts xs, length-append (flat_map context_words done) rest, ap length e, ap length f)

-- nor one of mappings
pub mappings_end_whole : (done xs : List ContextMapping) (rest all : List ℕ) → 0 < length rest → length rest < 3 → flat_map mapping_words done ++ rest ≡ all → flat_map mapping_words xs ≡ all → ⊥
mappings_end_whole done xs rest all some few e f =
    omega (arith, length_of_mappings done, length_of_mappings xs, length-append (flat_map mapping_words done) rest, ap length e, ap length f)

-- numbers tell the contexts that they are of
pub contexts_tell : (xs ys : List Context) → flat_map context_words xs ≡ flat_map context_words ys → xs ≡ ys
contexts_tell [] [] e = refl
contexts_tell [] (y ∷ ys) e = absurd (omega (arith, ap length e))
contexts_tell (x ∷ xs) [] e = absurd (omega (arith, ap length e))
contexts_tell (x ∷ xs) (y ∷ ys) e =
    let a : x.default ≡ y.default = cc in
    let b : x.mappings_start ≡ y.mappings_start = cc in
    let d : x.mappings_len ≡ y.mappings_len = cc in
    let rest : flat_map context_words xs ≡ flat_map context_words ys = cc in
    let more = contexts_tell xs ys rest in
    λ i. (record { default = a i; mappings_start = b i; mappings_len = d i }) ∷ more i

-- and the mappings
pub mappings_tell : (xs ys : List ContextMapping) → flat_map mapping_words xs ≡ flat_map mapping_words ys → xs ≡ ys
mappings_tell [] [] e = refl
mappings_tell [] (y ∷ ys) e = absurd (omega (arith, ap length e))
mappings_tell (x ∷ xs) [] e = absurd (omega (arith, ap length e))
mappings_tell (x ∷ xs) (y ∷ ys) e =
    let a : x.chars_start ≡ y.chars_start = cc in
    let b : x.chars_len ≡ y.chars_len = cc in
    let d : x.entry ≡ y.entry = cc in
    let rest : flat_map mapping_words xs ≡ flat_map mapping_words ys = cc in
    let more = mappings_tell xs ys rest in
    λ i. (record { chars_start = a i; chars_len = b i; entry = d i }) ∷ more i
