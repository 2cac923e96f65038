-- One character more gets its entry after those before it.
use Rattle.std.proofs.Common.{◌≡◌, ℕ, ◌+◌, ◌<◌, ◌++◌, ◌∷◌, [], List, length, take, get_or, refl, sym, ap, ◌∙◌, arith, ◌*◌}
use Rattle.std.proofs.lemmas.List.{take_more}
use Rattle.std.proofs.lemmas.List.FromFn.{map-range_with_len_more}
use Rattle.icu_table_data.specs.Data.{Data}
use Rattle.icu_table_provider.specs.builder.Building.{set_in, with_entries}
use Rattle.icu_table_mini.specs.Characters.{rising, with_characters, with_characters_in}

pub with_characters_none : (value : ℕ → ℕ) → with_characters [] value ≡ value
unfolding with_characters
with_characters_none value = refl

with_characters_last : (xs : List (ℕ × ℕ)) (x : ℕ × ℕ) (value : ℕ → ℕ)
    → with_characters (xs ++ x ∷ []) value ≡ with_entries x.0 x.0 x.1 (with_characters xs value)
unfolding with_characters
with_characters_last [] x value = refl
with_characters_last (y ∷ ys) x value = with_characters_last ys x (with_entries y.0 y.0 y.1 value)

pub with_characters_more : (xs : List (ℕ × ℕ)) (i : ℕ) (d : ℕ × ℕ) (value : ℕ → ℕ) → i < length xs
    → with_characters (take (i + 1) xs) value
    ≡ with_entries (get_or xs i d).0 (get_or xs i d).0 (get_or xs i d).1 (with_characters (take i xs) value)
with_characters_more xs i d value h =
    ap (λ ys. with_characters ys value) (take_more xs i d h) ∙ with_characters_last (take i xs) (get_or xs i d) value

-- one character more, by its own name
pub with_characters_item : (xs : List (ℕ × ℕ)) (i : ℕ) (x : ℕ × ℕ) (value : ℕ → ℕ) → i < length xs → x ≡ get_or xs i x
    → with_characters (take (i + 1) xs) value ≡ with_entries x.0 x.0 x.1 (with_characters (take i xs) value)
with_characters_item xs i x value h is =
    with_characters_more xs i x value h ∙ ap (λ (y : ℕ × ℕ). with_entries y.0 y.0 y.1 (with_characters (take i xs) value)) (sym is)

-- ---- characters that follow one another

pub rising_none : (d : Data) (first entry step : ℕ) → with_characters_in d (rising first entry step 0) ≡ d
unfolding with_characters
rising_none d first entry step = refl

pub rising_more : (d : Data) (first entry step count c e : ℕ) → c ≡ first + count → e ≡ entry + step * count
    → with_characters_in d (rising first entry step (count + 1)) ≡ set_in (with_characters_in d (rising first entry step count)) c c e
rising_more d first entry step count c e is_c is_e =
    let with_value : (ℕ → ℕ) → Data = λ v. record d { value = v } in
    let f : ℕ → ℕ × ℕ = λ i. (first + i, entry + step * i) in
    ap (λ xs. with_characters_in d xs) (map-range_with_len_more f 0 count count (omega arith))
    ∙ ap with_value (with_characters_last (rising first entry step count) (f count) d.value)
    ∙ ap (λ k. set_in (with_characters_in d (rising first entry step count)) k k (entry + step * count)) (sym is_c)
    ∙ ap (λ k. set_in (with_characters_in d (rising first entry step count)) c c k) (sym is_e)

-- ---- two lists of characters

with_characters_append : (xs ys : List (ℕ × ℕ)) (value : ℕ → ℕ) → with_characters (xs ++ ys) value ≡ with_characters ys (with_characters xs value)
unfolding with_characters
with_characters_append [] ys value = refl
with_characters_append (x ∷ xs) ys value = with_characters_append xs ys (with_entries x.0 x.0 x.1 value)

pub both_given : (d one two : Data) (xs ys : List (ℕ × ℕ)) → one ≡ with_characters_in d xs → two ≡ with_characters_in one ys
    → two ≡ with_characters_in d (xs ++ ys)
both_given d one two xs ys is_one is_two =
    let with_value : (ℕ → ℕ) → Data = λ v. record d { value = v } in
    is_two ∙ ap (λ x. with_characters_in x ys) is_one ∙ ap with_value (sym (with_characters_append xs ys d.value))
