-- A text spells the words of a bracket in one way only.
use Rattle.std.proofs.Common.{ℕ, Bool, true, false, not, nat_eq, ◌≡◌, ◌≢◌, inl, inr, List, [], ◌∷◌, ◌++◌, ap, ◌∙◌, sym, refl, subst, append_assoc, arith}
use Rattle.std.specs.List.{list_all}
use Rattle.std.proofs.lemmas.Bool.{and_parts, not-true, cases_Bool}
use Rattle.std.proofs.lemmas.Bool.Decides.{nat_tests}
use Rattle.icu_rule_parser.specs.RuleCharacters.{is_white, is_syntax, is_plain, is_word_character, IsWhite}
use Rattle.icu_rule_parser.specs.Tokens.{IsNoWord, IsBracketWord, SpellsWords}
use Rattle.icu_rule_parser.proofs.StringOnce.{head_same, tail_same, not_both}

-- nothing, or a character of which this doesn't hold
abbrev pub StopsAt : (ℕ → Bool) → List ℕ → Type 0
StopsAt p [] = Unit {0}
StopsAt p (c ∷ text) = p c ≡ false

meets : (p : ℕ → Bool) {c : ℕ} (cs : List ℕ) → list_all p (c ∷ cs) ≡ true → p c ≡ true
meets p {c} cs h = (and_parts (p c) (list_all p cs) h).0

-- the characters of which this holds
pub span_once : (p : ℕ → Bool) (us bs : List ℕ) {xs ys : List ℕ} → list_all p us ≡ true → list_all p bs ≡ true → StopsAt p xs → StopsAt p ys → us ++ xs ≡ bs ++ ys → (us ≡ bs) × (xs ≡ ys)
span_once p [] [] h k m n e = (refl, e)
span_once p [] (b ∷ bs) {ys} h k m n e =
    let s : StopsAt p (b ∷ (bs ++ ys)) = subst (StopsAt p) e m in absurd (not_both (meets p bs k) s)
span_once p (a ∷ us) [] {xs} h k m n e =
    let s : StopsAt p (a ∷ (us ++ xs)) = subst (StopsAt p) (sym e) n in absurd (not_both (meets p us h) s)
span_once p (a ∷ us) (b ∷ bs) h k m n e =
    let r = span_once p us bs (and_parts (p a) (list_all p us) h).1 (and_parts (p b) (list_all p bs) k).1 m n (tail_same e) in
    (ap (λ t. a ∷ t) r.0 ∙ ap (λ i. i ∷ bs) (head_same e), r.1)

pub white_45 : is_white 45 ≡ false
unfolding is_white
white_45 = refl

pub white_92 : is_white 92 ≡ false
unfolding is_white
white_92 = refl

pub white_93 : is_white 93 ≡ false
unfolding is_white
white_93 = refl

white_95 : is_white 95 ≡ false
unfolding is_white
white_95 = refl

pub white_at : (k : ℕ) {c : ℕ} → is_white c ≡ true → is_white k ≡ false → c ≢ k
white_at k h n e = not_both (subst (λ i. is_white i ≡ true) e h) n

pub white_apart : (k c : ℕ) → is_white c ≡ true → is_white k ≡ false → nat_eq c k ≡ false
white_apart k c h n = let differs : c ≢ k = white_at k h n in grind (arith, nat_tests)

white_no_word : (c : ℕ) → is_white c ≡ true → is_word_character c ≡ false
unfolding is_word_character is_plain
white_no_word c h = rw (h, white_apart 45 c h white_45, white_apart 95 c h white_95) refl

-- a character of words is no white space
word_not_white : (c : ℕ) → is_word_character c ≡ true → is_white c ≡ false
word_not_white c h = elim (cases_Bool (is_white c)) [ inl w ↦ absurd (not_both h (white_no_word c w)) | inr n ↦ n ]

-- what a bracket's words end at
abbrev pub EndsWords : List ℕ → Type 0
EndsWords text = StopsAt is_white text × StopsAt is_word_character text

word_stops : (word r : List ℕ) → IsBracketWord word → StopsAt is_white (word ++ r)
word_stops [] r w = absurd (w.0 refl)
word_stops (c ∷ word) r w = word_not_white c (meets is_word_character word w.1)

no_word_joined : (rest xs : List ℕ) → IsNoWord rest → StopsAt is_word_character xs → StopsAt is_word_character (rest ++ xs)
no_word_joined [] xs n s = s
no_word_joined (c ∷ rest) xs n s = n

word_stands : (word r : List ℕ) {xs : List ℕ} → IsBracketWord word → EndsWords xs → xs ≡ word ++ r → ⊥
word_stands [] r w s e = w.0 refl
word_stands (c ∷ word) r w s e =
    let h : StopsAt is_word_character (c ∷ (word ++ r)) = subst (StopsAt is_word_character) e s.1 in
    not_both (meets is_word_character word w.1) h

pub three : (a b c x : List ℕ) {whole : List ℕ} → whole ≡ a ++ b ++ c → whole ++ x ≡ a ++ (b ++ (c ++ x))
three a b c x e = ap (λ t. t ++ x) e ∙ append_assoc (a ++ b) c x ∙ append_assoc a b (c ++ x)

none_or_one : (a : List ℕ) {n : List ℕ} (xs ys b : List ℕ) (bs : List (List ℕ)) → IsWhite a → SpellsWords (b ∷ bs) n → EndsWords xs → a ++ xs ≡ n ++ ys → ⊥
none_or_one a xs ys b bs h (white, rest, w, word, stops, more, same) s e =
    let p = span_once is_white a white h w s.0 (word_stops b (rest ++ ys) word) (e ∙ three white b rest ys same) in
    word_stands b (rest ++ ys) word s p.1

-- The words that a bracket begins with.
pub words_once : (us bs : List (List ℕ)) (m n : List ℕ) {xs ys : List ℕ} → SpellsWords us m → SpellsWords bs n → EndsWords xs → EndsWords ys → m ++ xs ≡ n ++ ys → (us ≡ bs) × (xs ≡ ys)
words_once [] [] m n h k s t e = (refl, (span_once is_white m n h k s.0 t.0 e).1)
words_once [] (b ∷ bs) m n {xs} {ys} h k s t e = absurd (none_or_one m xs ys b bs h k s e)
words_once (a ∷ us) [] m n {xs} {ys} h k s t e = absurd (none_or_one n ys xs a us k h t (sym e))
words_once (a ∷ us) (b ∷ bs) m n {xs} {ys} (wa, ra, ha, ka, na, ma, ea) (wb, rb, hb, kb, nb, mb, eb) s t e =
    let p = span_once is_white wa wb ha hb (word_stops a (ra ++ xs) ka) (word_stops b (rb ++ ys) kb)
    (sym (three wa a ra xs ea) ∙ e ∙ three wb b rb ys eb) in
    let q = span_once is_word_character a b ka.1 kb.1 (no_word_joined ra xs na s.1) (no_word_joined rb ys nb t.1) p.1 in
    let r = words_once us bs ra rb ma mb s t q.1 in
    (ap (λ w. w ∷ us) q.0 ∙ ap (λ ws. b ∷ ws) r.0, r.1)

pub plain_not_white : (c : ℕ) → is_plain c ≡ true → is_white c ≡ false
unfolding is_plain
plain_not_white c h = not-true (is_white c) (and_parts (not (is_white c)) (not (is_syntax c)) h).0
