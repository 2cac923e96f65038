-- Where a text of an encoding may be cut.
use Rattle.std.proofs.Common.{◌≡◌, ℕ, zero, suc, ◌^◌, get_or, ◌<◌, ◌≤◌, Bool, true, false, ◌==◌, ◌&&◌, not, eqb, List, [], ◌∷◌, ◌++◌, length, take, drop, map, slice_index, slice_index_or, refl, ap, sym, ◌∙◌, arith, take-append-drop, ◌-◌, length-append, append_assoc, take_all}
use Rattle.std.proofs.lemmas.List.{map-append, take-take, take-append-le, drop_at}
use Rattle.std.specs.Char.{IsScalar}
use Rattle.std.specs.Char.Utf16.{is_high_surrogate}
use Rattle.std.proofs.lemmas.Bool.Decides.{nat_tests}
use Rattle.std.proofs.lemmas.Slice.Eq.{bytes_eq-Decides}
use Rattle.std.proofs.Math.Bool.{and-false}
use Rattle.std.proofs.lemmas.Bool.{not-false}
use Rattle.std.specs.Cmp.Lexicographic.{pointwise}
use Rattle.bstr.specs.Utf8.{decoded, good, or_replacement, continues, second, code_of_2, code_of_3}
use Rattle.bstr.proofs.lemmas.PieceLemmas.{StartsClean as StartsPiece, pieces-append, lossy_chars-step, lossy_chars-nil, piece-bounds, value-1, value-6, value-9}
use Rattle.icu_text_encodings.specs.inner.Utf16Units.{is_pair, lone_char}
use Rattle.icu_text_encodings.specs.inner.UnitCuts.{StartsClean, StartsNoTrail}
use Rattle.icu_text_encodings.specs.inner.ListBeginnings.{HaveBeginning}
use Rattle.icu_text_encodings.specs.DecodedTexts.{utf8_text, utf16_text}
use Rattle.icu_text_encodings.proofs.Utf16Lemmas.{IsApart, IsCut, text_parted, text_of_none, first_is_lone, apart_from_all}

starts_piece : (bs : List ℕ) → StartsClean bs → StartsPiece bs
starts_piece [] h = λ below. absurd (omega arith)
starts_piece (b ∷ bs) h = λ below. h

utf8_parted : (xs ys : List ℕ) → StartsClean ys → utf8_text (xs ++ ys) ≡ utf8_text xs ++ utf8_text ys
utf8_parted xs ys clean =
    ap (map (λ p. or_replacement p.char)) (pieces-append (length xs) xs ys (omega arith) (starts_piece ys clean)) ∙ map-append _ _ _

-- before a byte that continues nothing
pub utf8_cut : (at : ℕ) (bs : List ℕ) → StartsClean (drop at bs) → utf8_text bs ≡ utf8_text (take at bs) ++ utf8_text (drop at bs)
utf8_cut at bs clean = ap utf8_text (sym (take-append-drop at bs)) ∙ utf8_parted (take at bs) (drop at bs) clean

apart_from : (u : ℕ) (vs : List ℕ) → StartsNoTrail vs → IsApart u vs
apart_from u [] h = tt
apart_from u (v ∷ vs) h = ap (λ b. is_high_surrogate u && b) h ∙ and-false (is_high_surrogate u)

cut_before : (us vs : List ℕ) → StartsNoTrail vs → IsCut us vs
cut_before [] vs h = tt
cut_before (u ∷ []) vs h = apart_from u vs h
cut_before (u ∷ w ∷ us) vs h = cut_before (w ∷ us) vs h

pub utf16_cut : (at : ℕ) (us : List ℕ) → StartsNoTrail (drop at us) → utf16_text us ≡ utf16_text (take at us) ++ utf16_text (drop at us)
utf16_cut at us h =
    ap utf16_text (sym (take-append-drop at us)) ∙ text_parted (take at us) (drop at us) (cut_before (take at us) (drop at us) h)

-- ---- common beginnings

pub no_beginning : (xs ys : List ℕ) → HaveBeginning xs ys xs ys
no_beginning xs ys = ([], refl, refl)

pub longer_beginning : (xs ys xs_left ys_left word xs_rest ys_rest : List ℕ) → HaveBeginning xs ys xs_left ys_left
    → xs_left ≡ word ++ xs_rest → ys_left ≡ word ++ ys_rest → HaveBeginning xs ys xs_rest ys_rest
longer_beginning xs ys xs_left ys_left word xs_rest ys_rest h e f = (
  h.0 ++ word,
  h.1 ∙ ap (λ l. h.0 ++ l) e ∙ sym (append_assoc h.0 word xs_rest),
  h.2 ∙ ap (λ l. h.0 ++ l) f ∙ sym (append_assoc h.0 word ys_rest),
)

beginning_taken : (xs beginning xs_left : List ℕ) → xs ≡ beginning ++ xs_left → take (length xs - length xs_left) xs ≡ beginning
beginning_taken xs beginning xs_left e =
    let long = length-append beginning xs_left in
    let n : length xs - length xs_left ≡ length beginning = omega (arith, ap length e ∙ long) in
    ap (λ k. take k xs) n ∙ ap (take (length beginning)) e ∙ take-append-le (length beginning) beginning xs_left (omega arith) ∙ take_all (length beginning) beginning (omega arith)

-- as many first members as the one has more than what is left of it are the same
pub same_beginning : (xs ys xs_left ys_left : List ℕ) → HaveBeginning xs ys xs_left ys_left
    → take (length xs - length xs_left) xs ≡ take (length xs - length xs_left) ys
same_beginning xs ys xs_left ys_left h =
    let n : length xs - length xs_left ≡ length ys - length ys_left =
    omega (arith, ap length h.1 ∙ length-append h.0 xs_left, ap length h.2 ∙ length-append h.0 ys_left) in
    beginning_taken xs h.0 xs_left h.1 ∙ sym (ap (λ k. take k ys) n ∙ beginning_taken ys h.0 ys_left h.2)

-- where so many first units are the same, so are fewer
pub same_shorter : (n m : ℕ) (xs ys : List ℕ) → n ≤ m → take m xs ≡ take m ys → take n xs ≡ take n ys
same_shorter n m xs ys le e = sym (take-take n m xs le) ∙ ap (take n) e ∙ take-take n m ys le

-- words that an `!=` didn't tell apart are the same
pub same_words : (xs ys : List ℕ) → not (pointwise eqb xs ys) ≡ false → xs ≡ ys
same_words xs ys h = (bytes_eq-Decides xs ys).0 (not-false (pointwise eqb xs ys) h)

-- where the two lists are the same, so is what is left of them
pub rest_alike : (xs ys xs_left ys_left : List ℕ) → HaveBeginning xs ys xs_left ys_left → xs ≡ ys → xs_left ≡ ys_left
rest_alike xs ys xs_left ys_left h e =
    sym (drop_at h.0 xs_left (length h.0) refl) ∙ ap (drop (length h.0)) (sym h.1 ∙ e ∙ h.2) ∙ drop_at h.0 ys_left (length h.0) refl

pub none_left : (xs xs_left : List ℕ) → xs_left ≡ [] → length xs - length xs_left ≡ length xs
none_left xs xs_left e = omega (arith, ap length e)

-- ---- the first of a list that a pattern has taken apart

pub first_rest : (xs : List ℕ) → 1 ≤ length xs → xs ≡ slice_index_or xs 0 0 ∷ take (length xs - 1) (drop 1 xs)
first_rest [] h = absurd (omega arith)
first_rest (x ∷ xs) h = ap (λ l. x ∷ l) (sym (take_all (length (x ∷ xs) - 1) xs (omega arith)))

-- ---- the first character

pub utf8_first : (bs : List ℕ) → 0 < length bs → utf8_text bs ≡ or_replacement (decoded bs).char ∷ utf8_text (drop (decoded bs).size bs)
utf8_first bs some = lossy_chars-step bs some

pub piece_fits : (bs : List ℕ) → 0 < length bs → (decoded bs).size ≤ length bs
piece_fits bs some = (piece-bounds bs some).2

pub utf8_empty : utf8_text [] ≡ []
utf8_empty = lossy_chars-nil

pub utf8_first_byte : (b : ℕ) (bs : List ℕ) → b < 0x80 → utf8_text (b ∷ bs) ≡ b ∷ utf8_text bs
utf8_first_byte b bs h =
    let all = b ∷ bs in
    let value : decoded all ≡ good b 1 =
    value-1 (length all) b (slice_index all 1) (slice_index all 2) (slice_index all 3) (omega arith, h) in
    lossy_chars-step (b ∷ bs) (omega arith)
    ∙ ap (λ d. or_replacement d.char ∷ utf8_text (drop d.size (b ∷ bs))) value

-- a well-formed character of two bytes
pub utf8_first_two : (b c : ℕ) (bs : List ℕ) → 0xC2 ≤ b → b ≤ 0xDF → 0x80 ≤ c → c ≤ 0xBF → utf8_text (b ∷ c ∷ bs) ≡ code_of_2 b c ∷ utf8_text bs
utf8_first_two b c bs low high at_least at_most =
    let all = b ∷ c ∷ bs in
    let e0 : (b == 0xE0) ≡ false = grind (arith, nat_tests) in
    let ed : (b == 0xED) ≡ false = grind (arith, nat_tests) in
    let f0 : (b == 0xF0) ≡ false = grind (arith, nat_tests) in
    let f4 : (b == 0xF4) ≡ false = grind (arith, nat_tests) in
    let goes_on : continues c ≡ true = grind (arith, nat_tests) in
    let second_fits : second b c ≡ true = rw (e0, ed, f0, f4) goes_on in
    let value : decoded all ≡ good (code_of_2 b c) 2 =
    value-6 (length all) b c (slice_index all 2) (slice_index all 3) (omega arith, low, omega (arith, high), second_fits) in
    lossy_chars-step all (omega arith)
    ∙ ap (λ d. or_replacement d.char ∷ utf8_text (drop d.size all)) value

-- a character of three bytes, whose second byte may stand after the first
pub utf8_first_three : (b c d : ℕ) (bs : List ℕ) → 0xE0 ≤ b → b ≤ 0xEF → second b c ≡ true → 0x80 ≤ d → d ≤ 0xBF → utf8_text (b ∷ c ∷ d ∷ bs) ≡ code_of_3 b c d ∷ utf8_text bs
utf8_first_three b c d bs low high second_fits at_least at_most =
    let all = b ∷ c ∷ d ∷ bs in
    let goes_on : continues d ≡ true = grind (arith, nat_tests) in
    let value : decoded all ≡ good (code_of_3 b c d) 3 =
    value-9 (length all) b c d (slice_index all 3) (omega arith, low, omega (arith, high), second_fits, goes_on) in
    lossy_chars-step all (omega arith)
    ∙ ap (λ x. or_replacement x.char ∷ utf8_text (drop x.size all)) value

-- the second byte of three whose code is written in three bytes, by the first one
second_of_three : (b c d : ℕ) (e0 ed : Bool) → (b == 0xE0) ≡ e0 → (b == 0xED) ≡ ed → 0xE0 ≤ b → b ≤ 0xEF → 0x80 ≤ c → c ≤ 0xBF → 0x80 ≤ d → d ≤ 0xBF
    → 0x800 ≤ code_of_3 b c d → IsScalar (code_of_3 b c d) → second b c ≡ true
second_of_three b c d true ed is0 isd low high at_least at_most least most above scalar =
    let e : b ≡ 0xE0 = grind (arith, nat_tests) in
    let wide : 0xA0 ≤ c = omega (arith, e, above) in rw is0 (grind (arith, nat_tests))
second_of_three b c d false true is0 isd low high at_least at_most least most above scalar =
    let e : b ≡ 0xED = grind (arith, nat_tests) in
    let narrow : c ≤ 0x9F = grind (arith, nat_tests) in rw (is0, isd) (grind (arith, nat_tests))
second_of_three b c d false false is0 isd low high at_least at_most least most above scalar =
    let f0 : (b == 0xF0) ≡ false = grind (arith, nat_tests) in
    let f4 : (b == 0xF4) ≡ false = grind (arith, nat_tests) in
    let goes_on : continues c ≡ true = grind (arith, nat_tests) in rw (is0, isd, f0, f4) goes_on

-- three bytes of which two continue the first, and whose code is written in three bytes, are well-formed
pub second_of_code : (b c d : ℕ) → 0xE0 ≤ b → 0x80 ≤ c → c ≤ 0xBF → 0x80 ≤ d → d ≤ 0xBF → 0x800 ≤ code_of_3 b c d → code_of_3 b c d ≤ 0xFFFF
    → IsScalar (code_of_3 b c d) → (b ≤ 0xEF) × (second b c ≡ true)
second_of_code b c d low at_least at_most least most above below scalar =
    let high : b ≤ 0xEF = omega (arith, below) in
    (high, second_of_three b c d (b == 0xE0) (b == 0xED) refl refl low high at_least at_most least most above scalar)

whole_left : (n : ℕ) (bs : List ℕ) → n ≡ length bs → take n bs ≡ bs
whole_left n bs is = ap (λ k. take k bs) is ∙ take_all (length bs) bs (omega arith)

-- a list that begins with a character of two bytes
pub first_two : (bs : List ℕ) (b c d e x : ℕ) → 2 ≤ length bs → b ≡ get_or bs 0 d → c ≡ get_or bs 1 e → 0xC2 ≤ b → b ≤ 0xDF → 0x80 ≤ c → c ≤ 0xBF → x ≡ code_of_2 b c
    → utf8_text bs ≡ x ∷ utf8_text (take (length bs - 2) (drop 2 bs))
first_two [] b c d e x long f s low high at_least at_most is = absurd (omega arith)
first_two (y ∷ []) b c d e x long f s low high at_least at_most is = absurd (omega arith)
first_two (y ∷ z ∷ bs) b c d e x long f s low high at_least at_most is =
    ap (λ l. utf8_text l) (ap (λ k. k ∷ z ∷ bs) (sym f) ∙ ap (λ k. b ∷ k ∷ bs) (sym s))
    ∙ utf8_first_two b c bs low high at_least at_most
    ∙ ap (λ k. k ∷ utf8_text bs) (sym is)
    ∙ ap (λ l. x ∷ utf8_text l) (sym (whole_left (length (y ∷ z ∷ bs) - 2) bs (omega arith)))

pub first_three : (bs : List ℕ) (b c g d e h x : ℕ) → 3 ≤ length bs → b ≡ get_or bs 0 d → c ≡ get_or bs 1 e → g ≡ get_or bs 2 h → 0xE0 ≤ b → b ≤ 0xEF → second b c ≡ true → 0x80 ≤ g → g ≤ 0xBF
    → x ≡ code_of_3 b c g → utf8_text bs ≡ x ∷ utf8_text (take (length bs - 3) (drop 3 bs))
first_three [] b c g d e h x long f s t low high fits at_least at_most is = absurd (omega arith)
first_three (y ∷ []) b c g d e h x long f s t low high fits at_least at_most is = absurd (omega arith)
first_three (y ∷ z ∷ []) b c g d e h x long f s t low high fits at_least at_most is = absurd (omega arith)
first_three (y ∷ z ∷ u ∷ bs) b c g d e h x long f s t low high fits at_least at_most is =
    ap (λ l. utf8_text l) (ap (λ k. k ∷ z ∷ u ∷ bs) (sym f) ∙ ap (λ k. b ∷ k ∷ u ∷ bs) (sym s) ∙ ap (λ k. b ∷ c ∷ k ∷ bs) (sym t))
    ∙ utf8_first_three b c g bs low high fits at_least at_most
    ∙ ap (λ k. k ∷ utf8_text bs) (sym is)
    ∙ ap (λ l. x ∷ utf8_text l) (sym (whole_left (length (y ∷ z ∷ u ∷ bs) - 3) bs (omega arith)))

-- ---- Latin-1 and UTF-16

byte_is_alone : (b w : ℕ) → b < 2 ^ 8 → is_pair b w ≡ false
byte_is_alone b w h = grind (arith, nat_tests)

byte_is_itself : (b : ℕ) → b < 2 ^ 8 → lone_char b ≡ b
byte_is_itself b h = grind (arith, nat_tests)

-- units that are bytes are their characters
units_of_bytes : (n : ℕ) (bs : List ℕ) → ((i : ℕ) → get_or bs i 0 < 2 ^ 8) → utf16_text (take n bs) ≡ take n bs
units_of_bytes zero bs h = text_of_none
units_of_bytes (suc n) [] h = text_of_none
units_of_bytes (suc n) (b ∷ bs) h =
    first_is_lone b (take n bs) (apart_from_all b (take n bs) (λ w. byte_is_alone b w (h 0)))
    ∙ ap (λ c. c ∷ utf16_text (take n bs)) (byte_is_itself b (h 0))
    ∙ ap (λ cs. b ∷ cs) (units_of_bytes n bs (λ i. h (suc i)))

pub same_characters : (n m : ℕ) (bs us : List ℕ) → ((i : ℕ) → get_or bs i 0 < 2 ^ 8) → n ≤ m → take m bs ≡ take m us
    → take n bs ≡ utf16_text (take n us)
same_characters n m bs us h le e = sym (units_of_bytes n bs h) ∙ ap utf16_text (same_shorter n m bs us le e)

pub utf16_first_unit : (u : ℕ) (us : List ℕ) → u < 0x80 → utf16_text (u ∷ us) ≡ u ∷ utf16_text us
utf16_first_unit u us h =
    first_is_lone u us (apart_from_all u us (λ w. byte_is_alone u w (omega arith)))
    ∙ ap (λ c. c ∷ utf16_text us) (byte_is_itself u (omega arith))

-- ---- words

-- a longer common beginning goes on from a shorter one
pub beginning_goes_on : (xs ys xs_left ys_left xs_rest ys_rest : List ℕ) → HaveBeginning xs ys xs_left ys_left → HaveBeginning xs_left ys_left xs_rest ys_rest → HaveBeginning xs ys xs_rest ys_rest
beginning_goes_on xs ys xs_left ys_left xs_rest ys_rest h more = longer_beginning xs ys xs_left ys_left more.0 xs_rest ys_rest h more.1 more.2
