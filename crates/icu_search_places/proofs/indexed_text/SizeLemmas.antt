-- The characters of a text take all of its units.
use Rattle.std.proofs.Common.{◌≡◌, ℕ, suc, ◌+◌, ◌-◌, ◌^◌, ◌<◌, ◌≤◌, ◌==◌, true, false, List, [], ◌∷◌, Some, None, if◌then◌else◌, length, map, take, drop, sum, get_or, slice_index, refl, sym, ap, ◌∙◌, subst, arith, inl, inr, length-append}
use Rattle.std.specs.Prelude.{chars, encode_utf8, encode_utf8_all, IsUtf8, slice_index_or}
use Rattle.std.specs.Char.{len_utf8}
use Rattle.std.specs.Char.Utf16.{surrogate_pair_char}
use Rattle.std.proofs.Math.Utf8.{scalars}
use Rattle.std.proofs.lemmas.Bool.{cases_Bool, and_parts, le-ltb, lt-ltb}
use Rattle.std.proofs.lemmas.Bool.Decides.{nat_tests}
use Rattle.std.proofs.lemmas.List.{length-map, drop_at, take_all}
use Rattle.std.proofs.lemmas.List.Sums.{sum_by-cons}
use Rattle.std.proofs.lemmas.Str.{encodes-chars, scalars-chars, length-encode, len_utf8_bounds}
use Rattle.bstr.specs.Utf8.{Decoded, code_of_2, continues, decoded, good, or_replacement, pieces, second}
use Rattle.bstr.proofs.lemmas.PieceLemmas.{sizes, pieces-nil, pieces-step, pieces-sizes, lossy_chars-step, value-1, value-6}
use Rattle.bstr.proofs.lemmas.EncodeLemmas.{decoded-encode}
use Rattle.icu_text_encodings.specs.DecodedTexts.{utf8_text, utf16_text}
use Rattle.icu_text_encodings.specs.inner.Utf16Units.{is_pair, pair_char, lone_char}
use Rattle.icu_text_encodings.proofs.Utf16Lemmas.{first_is_pair, first_is_lone, text_of_none}
use Rattle.icu_search_places.specs.indexed_text.UnitOffsets.{TakesFirst, latin1_sizes, size_in_utf16, utf16_sizes, utf8_sizes, str_sizes}

sum-cons : (x : ℕ) (xs : List ℕ) → sum (x ∷ xs) ≡ x + sum xs
sum-cons x xs = sum_by-cons (λ y. y) x xs

-- ---- Latin-1

pub latin1_all : (bs : List ℕ) → sum (latin1_sizes bs) ≡ length bs
latin1_all [] = refl
latin1_all (b ∷ bs) = sum-cons 1 (latin1_sizes bs) ∙ omega (arith, latin1_all bs)

-- ---- UTF-16

pub one_unit : (c : ℕ) → c < 0x1_0000 → size_in_utf16 c ≡ 1
one_unit c low = ap (λ b. if b then 1 else 2) (lt-ltb c 0x1_0000 low)

pub two_units : (c : ℕ) → 0x1_0000 ≤ c → size_in_utf16 c ≡ 2
two_units c high = ap (λ b. if b then 1 else 2) (le-ltb c 0x1_0000 high)

lone_is_low : (u : ℕ) → u < 2 ^ 16 → lone_char u < 0x1_0000
lone_is_low u low = grind (arith, nat_tests)

pair_is : (u v : ℕ) → is_pair u v ≡ true → pair_char u v ≡ Some (surrogate_pair_char u v)
pair_is u v is = ap (λ b. if b then Some (surrogate_pair_char u v) else None) is

first_size : (c : ℕ) (us rest : List ℕ) → utf16_text us ≡ c ∷ utf16_text rest → sum (utf16_sizes us) ≡ size_in_utf16 c + sum (utf16_sizes rest)
first_size c us rest is = ap (λ (l : List ℕ). sum (map size_in_utf16 l)) is ∙ sum-cons (size_in_utf16 c) (utf16_sizes rest)

pub utf16_all : (us : List ℕ) → ((i : ℕ) → get_or us i 0 < 2 ^ 16) → sum (utf16_sizes us) ≡ length us
utf16_all [] low = ap (λ (l : List ℕ). sum (map size_in_utf16 l)) text_of_none
utf16_all (u ∷ []) low =
    omega (arith, first_size (lone_char u) (u ∷ []) [] (first_is_lone u [] tt), one_unit (lone_char u) (lone_is_low u (low 0)), utf16_all [] (λ i. low (suc i)))
utf16_all (u ∷ v ∷ us) low =
    elim (cases_Bool (is_pair u v)) as (λ _. sum (utf16_sizes (u ∷ v ∷ us)) ≡ length (u ∷ v ∷ us)) [
      | inl pair ↦
          let c = surrogate_pair_char u v in
          omega (arith, first_size c (u ∷ v ∷ us) us (first_is_pair u v c us (pair_is u v pair)), two_units c (omega arith), utf16_all us (λ i. low (suc (suc i))))
      | inr apart ↦
          omega (arith, first_size (lone_char u) (u ∷ v ∷ us) (v ∷ us) (first_is_lone u (v ∷ us) apart), one_unit (lone_char u) (lone_is_low u (low 0)), utf16_all (v ∷ us) (λ i. low (suc i)))
    ]

pub utf16_takes : (c size : ℕ) (us rest : List ℕ) → utf16_text us ≡ c ∷ utf16_text rest → size ≡ size_in_utf16 c
    → TakesFirst c size (utf16_text us) (utf16_sizes us) (utf16_text rest) (utf16_sizes rest)
utf16_takes c size us rest is size_is = record {
  text = is;
  sizes = ap (λ (l : List ℕ). map size_in_utf16 l) is ∙ ap (λ n. n ∷ utf16_sizes rest) (sym size_is);
}

-- ---- UTF-8

summed : (ps : List Decoded) → sum (map (λ (p : Decoded). p.size) ps) ≡ sizes ps
unfolding sizes
summed [] = refl
summed (p ∷ ps) = sum-cons p.size (map (λ (p : Decoded). p.size) ps) ∙ ap (λ n. p.size + n) (summed ps)

pub utf8_all : (bs : List ℕ) → sum (utf8_sizes bs) ≡ length bs
utf8_all bs = summed (pieces bs) ∙ pieces-sizes (length bs) bs (omega arith)

pub utf8_count : (bs : List ℕ) → length (utf8_sizes bs) ≡ length (utf8_text bs)
utf8_count bs = length-map (pieces bs) (λ (p : Decoded). p.size) ∙ sym (length-map (pieces bs) (λ (p : Decoded). or_replacement p.char))

pub utf8_takes : (bs : List ℕ) → 0 < length bs
    → TakesFirst (or_replacement (decoded bs).char) (decoded bs).size (utf8_text bs) (utf8_sizes bs) (utf8_text (drop (decoded bs).size bs)) (utf8_sizes (drop (decoded bs).size bs))
utf8_takes bs some = record { text = lossy_chars-step bs some; sizes = ap (map (λ (p : Decoded). p.size)) (pieces-step bs some) }

pub utf8_takes_byte : (b : ℕ) (bs : List ℕ) → b < 0x80 → TakesFirst b 1 (utf8_text (b ∷ bs)) (utf8_sizes (b ∷ bs)) (utf8_text bs) (utf8_sizes bs)
utf8_takes_byte b bs low =
    let all = b ∷ bs in
    let value : decoded all ≡ good b 1 = value-1 (length all) b (slice_index all 1) (slice_index all 2) (slice_index all 3) (omega arith, low) in
    subst (λ (d : Decoded). TakesFirst (or_replacement d.char) d.size (utf8_text all) (utf8_sizes all) (utf8_text (drop d.size all)) (utf8_sizes (drop d.size all))) value
    (utf8_takes all (omega arith))

-- where the first byte is ASCII
pub utf8_takes_ascii : (bs : List ℕ) (c : ℕ) → 1 ≤ length bs → c ≡ slice_index_or bs 0 0 → c < 0x80
    → TakesFirst c 1 (utf8_text bs) (utf8_sizes bs) (utf8_text (take (length bs - 1) (drop 1 bs))) (utf8_sizes (take (length bs - 1) (drop 1 bs)))
utf8_takes_ascii [] c some is low = absurd (omega (arith, some))
utf8_takes_ascii (b ∷ bs) c some is low =
    let rest_is : take (length (b ∷ bs) - 1) bs ≡ bs = take_all (length (b ∷ bs) - 1) bs (omega arith) in
    subst (λ (l : List ℕ). TakesFirst c 1 (utf8_text (b ∷ bs)) (utf8_sizes (b ∷ bs)) (utf8_text l) (utf8_sizes l)) (sym rest_is)
    (subst (λ k. TakesFirst k 1 (utf8_text (b ∷ bs)) (utf8_sizes (b ∷ bs)) (utf8_text bs) (utf8_sizes bs)) (sym is) (utf8_takes_byte b bs (omega (arith, is, low))))

-- a well-formed character of two bytes
pub utf8_takes_two : (b c : ℕ) (bs : List ℕ) → 0xC2 ≤ b → b ≤ 0xDF → 0x80 ≤ c → c ≤ 0xBF
    → TakesFirst (code_of_2 b c) 2 (utf8_text (b ∷ c ∷ bs)) (utf8_sizes (b ∷ c ∷ bs)) (utf8_text bs) (utf8_sizes bs)
utf8_takes_two b c bs low high at_least at_most =
    let all = b ∷ c ∷ bs in
    let e0 : (b == 0xE0) ≡ false = grind (arith, nat_tests) in
    let ed : (b == 0xED) ≡ false = grind (arith, nat_tests) in
    let f0 : (b == 0xF0) ≡ false = grind (arith, nat_tests) in
    let f4 : (b == 0xF4) ≡ false = grind (arith, nat_tests) in
    let goes_on : continues c ≡ true = grind (arith, nat_tests) in
    let second_fits : second b c ≡ true = rw (e0, ed, f0, f4) goes_on in
    let value : decoded all ≡ good (code_of_2 b c) 2 =
    value-6 (length all) b c (slice_index all 2) (slice_index all 3) (omega arith, low, omega (arith, high), second_fits) in
    subst (λ (d : Decoded). TakesFirst (or_replacement d.char) d.size (utf8_text all) (utf8_sizes all) (utf8_text (drop d.size all)) (utf8_sizes (drop d.size all))) value
    (utf8_takes all (omega arith))

-- where the first two bytes are one
pub utf8_takes_pair : (bs : List ℕ) (b c d e x : ℕ) → 2 ≤ length bs → b ≡ get_or bs 0 d → c ≡ get_or bs 1 e → 0xC2 ≤ b → b ≤ 0xDF → 0x80 ≤ c → c ≤ 0xBF → x ≡ code_of_2 b c
    → TakesFirst x 2 (utf8_text bs) (utf8_sizes bs) (utf8_text (take (length bs - 2) (drop 2 bs))) (utf8_sizes (take (length bs - 2) (drop 2 bs)))
utf8_takes_pair [] b c d e x long f s low high at_least at_most is = absurd (omega arith)
utf8_takes_pair (y ∷ []) b c d e x long f s low high at_least at_most is = absurd (omega arith)
utf8_takes_pair (y ∷ z ∷ bs) b c d e x long f s low high at_least at_most is =
    let all = y ∷ z ∷ bs in
    let rest_is : take (length all - 2) bs ≡ bs = take_all (length all - 2) bs (omega arith) in
    let all_is : b ∷ c ∷ bs ≡ all = ap (λ k. k ∷ c ∷ bs) f ∙ ap (λ k. y ∷ k ∷ bs) s in
    subst (λ (l : List ℕ). TakesFirst x 2 (utf8_text all) (utf8_sizes all) (utf8_text l) (utf8_sizes l)) (sym rest_is)
    (subst (λ (l : List ℕ). TakesFirst x 2 (utf8_text l) (utf8_sizes l) (utf8_text bs) (utf8_sizes bs)) all_is
    (subst (λ k. TakesFirst k 2 (utf8_text (b ∷ c ∷ bs)) (utf8_sizes (b ∷ c ∷ bs)) (utf8_text bs) (utf8_sizes bs)) (sym is)
    (utf8_takes_two b c bs low high at_least at_most)))

-- of UTF-8 without damage
written_sizes : (cs : List ℕ) → scalars cs ≡ true → utf8_sizes (encode_utf8_all cs) ≡ str_sizes cs
written_sizes [] all = ap (map (λ (p : Decoded). p.size)) pieces-nil
written_sizes (c ∷ cs) all =
    let both = and_parts _ _ all in
    let first = encode_utf8 c in
    let bs = encode_utf8_all (c ∷ cs) in
    let wide : length first ≡ len_utf8 c = length-encode c in
    let some : 0 < length bs = omega (arith, wide, (len_utf8_bounds c).0, length-append first (encode_utf8_all cs)) in
    let size_is : (decoded bs).size ≡ length first = ap (λ (p : Decoded). p.size) (decoded-encode c (encode_utf8_all cs) both.0) in
    let rest_is : drop (decoded bs).size bs ≡ encode_utf8_all cs = ap (λ k. drop k bs) size_is ∙ drop_at first (encode_utf8_all cs) (length first) refl in
    ap (map (λ (p : Decoded). p.size)) (pieces-step bs some)
    ∙ ap (λ n. n ∷ utf8_sizes (drop (decoded bs).size bs)) (size_is ∙ wide)
    ∙ ap (λ (t : List ℕ). len_utf8 c ∷ utf8_sizes t) rest_is
    ∙ ap (λ (l : List ℕ). len_utf8 c ∷ l) (written_sizes cs both.1)

pub sound_sizes : (bs : List ℕ) → IsUtf8 bs → utf8_sizes bs ≡ str_sizes (chars bs)
sound_sizes bs sound = ap utf8_sizes (sym (encodes-chars bs sound)) ∙ written_sizes (chars bs) (scalars-chars bs sound)
