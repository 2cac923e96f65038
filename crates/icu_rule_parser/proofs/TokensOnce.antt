-- A text spells its tokens in one way only, where no string follows a string, and a string each relation's sign.
use Rattle.std.proofs.Common.{ℕ, ◌+◌, Bool, true, false, not, cond, nat_eq, ◌||◌, ◌&&◌, ◌≡◌, ◌≢◌, ◌⊎◌, inl, inr, List, [], ◌∷◌, ◌++◌, ap, ◌∙◌, sym, refl, subst, append_assoc, arith}
use Rattle.std.specs.List.{list_all}
use Rattle.std.proofs.lemmas.Bool.{and_parts, cases_Bool}
use Rattle.std.proofs.lemmas.Bool.Decides.{nat_tests}
use Rattle.icu_options.specs.declared.settings.Strength.{Strength}
use Rattle.icu_options.specs.declared.settings.Strength.TheVariants.{Primary, Secondary, Tertiary, Quaternary, Identical}
use Rattle.icu_rule_parser.specs.declared.set_parts.SetPart.{SetPart}
use Rattle.icu_rule_parser.specs.RuleCharacters.{is_white, is_line_end, is_syntax, is_plain, is_word_character, is_blank, IsBlank, IsTrail}
use Rattle.icu_rule_parser.specs.RuleStrings.{SpellsCharacters, ends, plain, apostrophe, escaped, opens}
use Rattle.icu_rule_parser.specs.Tokens.{Token, reset_sign, relation_sign, prefix_sign, extension_sign, range_sign, vowel_sign, string, bracket, set_bracket, IsRelationSign, SpellsToken, SpellsTokens}
use Rattle.icu_rule_parser.proofs.StringOnce.{head_same, tail_same, not_both, EndsString, characters_once}
use Rattle.icu_rule_parser.proofs.WordsOnce.{StopsAt, white_at, white_apart, span_once, EndsWords, words_once, plain_not_white}
use Rattle.icu_rule_parser.proofs.SetsOnce.{BeginsSet, parts_once, set_begins}

-- ---- blanks

-- text that begins with what is no blank
abbrev pub IsVisible : List ℕ → Type 0
IsVisible [] = ⊥
IsVisible (c ∷ text) = (is_white c ≡ false) × (c ≢ 35)

-- whether a comment goes on behind a character, of a blank
abbrev in_comment : Bool → ℕ → Bool
in_comment true c = not (is_line_end c)
in_comment false c = nat_eq c 35

picked : (b w : Bool) (text : List ℕ) → cond b (is_blank true text) (w && is_blank false text) ≡ true → is_blank b text ≡ true
picked true w text h = h
picked false w text h = (and_parts w (is_blank false text) h).1

blank_next : (within : Bool) (c : ℕ) (text : List ℕ) → is_blank within (c ∷ text) ≡ true → is_blank (in_comment within c) text ≡ true
unfolding is_blank
blank_next true c text h = h
blank_next false c text h = picked (nat_eq c 35) (is_white c) text h

is_white_then : (b w : Bool) (text : List ℕ) → cond b (is_blank true text) (w && is_blank false text) ≡ true → b ≡ false → w ≡ true
is_white_then true w text h e = cc
is_white_then false w text h e = (and_parts w (is_blank false text) h).0

pub blank_head : (c : ℕ) (text : List ℕ) → is_blank false (c ∷ text) ≡ true → is_white c ≡ false → c ≢ 35 → ⊥
unfolding is_blank
blank_head c text h w n =
    let other : nat_eq c 35 ≡ false = grind (arith, nat_tests) in
    not_both (is_white_then (nat_eq c 35) (is_white c) text h other) w

no_end_open : is_blank true [] ≡ true → ⊥
unfolding is_blank
no_end_open h = not_both h refl

visible_same : {xs ys : List ℕ} → xs ≡ ys → IsVisible xs → IsVisible ys
visible_same e v = subst IsVisible e v

-- the blanks before what is visible
blank_once : (within : Bool) (us bs : List ℕ) {xs ys : List ℕ} → is_blank within us ≡ true → is_blank within bs ≡ true → IsVisible xs → IsVisible ys → us ++ xs ≡ bs ++ ys → xs ≡ ys
blank_once within [] [] h k v w e = e
blank_once true [] (b ∷ bs) h k v w e = absurd (no_end_open h)
blank_once false [] (b ∷ bs) {ys = ys} h k v w e =
    let s : IsVisible (b ∷ (bs ++ ys)) = visible_same e v in absurd (blank_head b bs k s.0 s.1)
blank_once true (a ∷ us) [] h k v w e = absurd (no_end_open k)
blank_once false (a ∷ us) [] {xs = xs} h k v w e =
    let s : IsVisible (a ∷ (us ++ xs)) = visible_same (sym e) w in absurd (blank_head a us h s.0 s.1)
blank_once within (a ∷ us) (b ∷ bs) h k v w e =
    let same : is_blank (in_comment within a) bs ≡ true =
    subst (λ c. is_blank (in_comment within c) bs ≡ true) (sym (head_same e)) (blank_next within b bs k) in
    blank_once (in_comment within a) us bs (blank_next within a us h) same v w (tail_same e)

-- what is visible ends a blank
blank_ends : (within : Bool) (bs ys : List ℕ) → is_blank within bs ≡ true → is_blank within (bs ++ ys) ≡ true → IsVisible ys → ⊥
blank_ends true [] ys h k v = no_end_open h
blank_ends false [] [] h k v = v
blank_ends false [] (y ∷ ys) h k v = blank_head y ys k v.0 v.1
blank_ends within (b ∷ bs) ys h k v =
    blank_ends (in_comment within b) bs ys (blank_next within b bs h) (blank_next within b (bs ++ ys) k) v

-- a comment without an end is no blank
comment_open : (inside bs ys : List ℕ) → list_all (λ c. not (is_line_end c)) inside ≡ true → inside ≡ bs ++ ys → is_blank true bs ≡ true → ⊥
comment_open inside [] ys h e k = no_end_open k
comment_open [] (b ∷ bs) ys h e k = cc
comment_open (i ∷ inside) (b ∷ bs) ys h e k =
    let p = and_parts (not (is_line_end i)) (list_all (λ c. not (is_line_end c)) inside) h in
    let on : in_comment true b ≡ true = ap (λ c. not (is_line_end c)) (sym (head_same e)) ∙ p.0 in
    comment_open inside bs ys p.1 (tail_same e) (subst (λ b. is_blank b bs ≡ true) on (blank_next true b bs k))

open_ends : (within : Bool) (us bs inside ys : List ℕ) → is_blank within us ≡ true → is_blank within bs ≡ true → list_all (λ c. not (is_line_end c)) inside ≡ true → IsVisible ys → us ++ 35 ∷ inside ≡ bs ++ ys → ⊥
open_ends true [] bs inside ys h k o v e = no_end_open h
open_ends false [] [] inside ys h k o v e = let s : IsVisible (35 ∷ inside) = visible_same (sym e) v in s.1 refl
open_ends false [] (b ∷ bs) inside ys h k o v e =
    let on : in_comment false b ≡ true = ap (λ c. nat_eq c 35) (sym (head_same e)) in
    comment_open inside bs ys o (tail_same e) (subst (λ b. is_blank b bs ≡ true) on (blank_next false b bs k))
open_ends true (a ∷ us) [] inside ys h k o v e = no_end_open k
open_ends false (a ∷ us) [] inside ys h k o v e =
    let s : IsVisible (a ∷ (us ++ 35 ∷ inside)) = visible_same (sym e) v in blank_head a us h s.0 s.1
open_ends within (a ∷ us) (b ∷ bs) inside ys h k o v e =
    let same : is_blank (in_comment within a) bs ≡ true =
    subst (λ c. is_blank (in_comment within c) bs ≡ true) (sym (head_same e)) (blank_next within b bs k) in
    open_ends (in_comment within a) us bs inside ys (blank_next within a us h) same o v (tail_same e)

-- what stands behind all that is said has nothing visible
trail_ends : {text : List ℕ} (bs ys : List ℕ) → IsTrail text → IsBlank bs → IsVisible ys → text ≡ bs ++ ys → ⊥
trail_ends bs ys (inl h) k v e = blank_ends false bs ys k (subst (λ t. is_blank false t ≡ true) e h) v
trail_ends bs ys (inr (blank, comment, h, (inside, same, o), f)) k v e =
    open_ends false blank bs inside ys h k o v (sym (f ∙ ap (λ t. blank ++ t) same) ∙ e)

-- ---- the first character of a token

pub data Kind : Type 0 where
  resets : Kind
  relates : Kind
  ends_prefix : Kind
  extends : Kind
  spans : Kind
  marks_vowels : Kind
  spells : Kind
  brackets : Kind

abbrev pub kind : Token → Kind
kind reset_sign = resets
kind (relation_sign strength starred) = relates
kind prefix_sign = ends_prefix
kind extension_sign = extends
kind range_sign = spans
kind vowel_sign = marks_vowels
kind (string cs) = spells
kind (bracket words) = brackets
kind (set_bracket word set) = brackets

-- the kind of what begins with a character
abbrev pub kind_at : ℕ → Kind
kind_at c =
    cond (nat_eq c 38) resets (cond (nat_eq c 60) relates (cond (nat_eq c 61) relates (cond (nat_eq c 59) relates
    (cond (nat_eq c 44) relates (cond (nat_eq c 124) ends_prefix (cond (nat_eq c 47) extends (cond (nat_eq c 45) spans
    (cond (nat_eq c 33) marks_vowels (cond (nat_eq c 91) brackets (cond (nat_eq c 64) brackets spells))))))))))

apart : (k c : ℕ) → is_plain c ≡ true → is_plain k ≡ false → nat_eq c k ≡ false
apart k c h n =
    let differs : c ≢ k = λ e. not_both (subst (λ i. is_plain i ≡ true) e h) n in grind (arith, nat_tests)

plain_kind : (c : ℕ) → is_plain c ≡ true → kind_at c ≡ spells
unfolding is_plain is_white is_syntax
plain_kind c h = rw (apart 38 c h refl, apart 60 c h refl, apart 61 c h refl, apart 59 c h refl, apart 44 c h refl, apart 124 c h refl, apart 47 c h refl, apart 45 c h refl, apart 33 c h refl, apart 91 c h refl, apart 64 c h refl) refl

-- what a token begins with
abbrev pub Begins : Token → List ℕ → Type 0
Begins token text = (c : ℕ) × (rest : List ℕ) × (kind_at c ≡ kind token) × (is_white c ≡ false) × (c ≢ 35) × (text ≡ c ∷ rest)

-- what a string begins with
abbrev pub BeginsString : List ℕ → Type 0
BeginsString text = (c : ℕ) × (rest : List ℕ) × ((is_plain c ≡ true) ⊎ (c ≡ 39) ⊎ (c ≡ 92)) × (text ≡ c ∷ rest)

pub string_begins : {cs text : List ℕ} → cs ≢ [] → SpellsCharacters false cs text → BeginsString text
string_begins n ends = absurd (n refl)
string_begins n (plain {c} {text} h s) = (c, text, inl h, refl)
string_begins n (apostrophe {text} s) = (39, 39 ∷ text, inr (inl refl), refl)
string_begins n (escaped escape {text} x s w) = (92, escape ++ text, inr (inr refl), w)
string_begins n (opens {text} q s) = (39, text, inr (inl refl), refl)

string_starts : (cs : List ℕ) {text : List ℕ} → BeginsString text → Begins (string cs) text
unfolding is_white is_plain is_syntax
string_starts cs (c, rest, inl h, e) =
    let n : c ≢ 35 = λ f. not_both (subst (λ i. is_plain i ≡ true) f h) refl in
    (c, rest, plain_kind c h, plain_not_white c h, n, e)
string_starts cs (c, rest, inr (inl h), e) = (39, rest, refl, refl, omega arith, e ∙ ap (λ k. k ∷ rest) h)
string_starts cs (c, rest, inr (inr h), e) = (92, rest, refl, refl, omega arith, e ∙ ap (λ k. k ∷ rest) h)

sign_starts : (strength : Strength) (starred : Bool) {text : List ℕ} → IsRelationSign strength starred text → Begins (relation_sign strength starred) text
unfolding is_white
sign_starts Primary false (inl e) = (60, [], refl, refl, omega arith, e)
sign_starts Secondary false (inl e) = (60, 60 ∷ [], refl, refl, omega arith, e)
sign_starts Tertiary false (inl e) = (60, 60 ∷ 60 ∷ [], refl, refl, omega arith, e)
sign_starts Quaternary false (inl e) = (60, 60 ∷ 60 ∷ 60 ∷ [], refl, refl, omega arith, e)
sign_starts Identical false (inl e) = (61, [], refl, refl, omega arith, e)
sign_starts Primary false (inr e) = absurd e
sign_starts Secondary false (inr e) = (59, [], refl, refl, omega arith, e)
sign_starts Tertiary false (inr e) = (44, [], refl, refl, omega arith, e)
sign_starts Quaternary false (inr e) = absurd e
sign_starts Identical false (inr e) = absurd e
sign_starts Primary true e = (60, 42 ∷ [], refl, refl, omega arith, e)
sign_starts Secondary true e = (60, 60 ∷ 42 ∷ [], refl, refl, omega arith, e)
sign_starts Tertiary true e = (60, 60 ∷ 60 ∷ 42 ∷ [], refl, refl, omega arith, e)
sign_starts Quaternary true e = (60, 60 ∷ 60 ∷ 60 ∷ 42 ∷ [], refl, refl, omega arith, e)
sign_starts Identical true e = (61, 42 ∷ [], refl, refl, omega arith, e)

pub starts : (token : Token) (text : List ℕ) → SpellsToken token text → Begins token text
unfolding is_white
starts reset_sign text e = (38, [], refl, refl, omega arith, e)
starts (relation_sign strength starred) text s = sign_starts strength starred s
starts prefix_sign text e = (124, [], refl, refl, omega arith, e)
starts extension_sign text e = (47, [], refl, refl, omega arith, e)
starts range_sign text e = (45, [], refl, refl, omega arith, e)
starts vowel_sign text e = (33, [], refl, refl, omega arith, e)
starts (string cs) text (n, s, a) = string_starts cs (string_begins n s)
starts (bracket words) text (inl (inside, s, e)) = (91, inside ++ 93 ∷ [], refl, refl, omega arith, e)
starts (bracket words) text (inr (e, w)) = (64, [], refl, refl, omega arith, e)
starts (set_bracket word set) text (named, inside, n, c, s, e) =
    (91, named ++ inside ++ 93 ∷ [], refl, refl, omega arith, e)

token_visible : (token : Token) (text rest : List ℕ) → SpellsToken token text → IsVisible (text ++ rest)
token_visible token text rest s =
    let p = starts token text s in subst (λ t. IsVisible (t ++ rest)) (sym p.5) (p.3, p.4)

-- ---- what follows a string, and the sign of a relation

abbrev pub NoString : List Token → Type 0
NoString [] = Unit {0}
NoString (string cs ∷ more) = ⊥
NoString (token ∷ more) = Unit {0}

abbrev pub SomeString : List Token → Type 0
SomeString (string cs ∷ more) = Unit {0}
SomeString tokens = ⊥

abbrev pub Follows : Token → List Token → Type 0
Follows (string cs) more = NoString more
Follows (relation_sign strength starred) more = SomeString more
Follows token more = Unit {0}

-- no string follows a string, and a string the sign of each relation
abbrev pub AreApart : List Token → Type 0
AreApart [] = Unit {0}
AreApart (token ∷ more) = Follows token more × AreApart more

abbrev EndsAt : ℕ → Type 0
EndsAt c = (is_plain c ≡ false) × (c ≢ 39) × (c ≢ 92)

white_not_plain : (c : ℕ) → is_white c ≡ true → is_plain c ≡ false
unfolding is_plain
white_not_plain c h = rw h refl

blank_start : (c : ℕ) (text : List ℕ) → is_blank false (c ∷ text) ≡ true → EndsAt c
unfolding is_blank is_plain is_white is_syntax
blank_start c text h = elim (cases_Bool (nat_eq c 35)) [
  | inl e ↦ let p : c ≡ 35 = grind (arith, nat_tests) in (subst (λ k. is_plain k ≡ false) (sym p) refl, omega (arith, p), omega (arith, p))
  | inr e ↦ let w = is_white_then (nat_eq c 35) (is_white c) text h e in (white_not_plain c w, white_at 39 w refl, white_at 92 w refl)
]

hash_ends : EndsAt 35
unfolding is_plain is_white is_syntax
hash_ends = (refl, omega arith, omega arith)

kind_ends : (c : ℕ) → (kind_at c ≡ spells → ⊥) → EndsAt c
kind_ends c n = (
  elim (cases_Bool (is_plain c)) [ inl h ↦ absurd (n (plain_kind c h)) | inr h ↦ h ],
  λ e. n (ap kind_at e),
  λ e. n (ap kind_at e),
)

ends_joined : {c : ℕ} {text whole : List ℕ} → whole ≡ c ∷ text → EndsAt c → EndsString whole
ends_joined e h = subst EndsString (sym e) h

no_string_kind : (token : Token) (c : ℕ) (more : List Token) → NoString (token ∷ more) → kind_at c ≡ kind token → kind_at c ≡ spells → ⊥
no_string_kind reset_sign c more n e f = let k = sym e ∙ f in cc
no_string_kind (relation_sign strength starred) c more n e f = let k = sym e ∙ f in cc
no_string_kind prefix_sign c more n e f = let k = sym e ∙ f in cc
no_string_kind extension_sign c more n e f = let k = sym e ∙ f in cc
no_string_kind range_sign c more n e f = let k = sym e ∙ f in cc
no_string_kind vowel_sign c more n e f = let k = sym e ∙ f in cc
no_string_kind (string cs) c more n e f = n
no_string_kind (bracket words) c more n e f = let k = sym e ∙ f in cc
no_string_kind (set_bracket word set) c more n e f = let k = sym e ∙ f in cc

-- what follows a string ends it
string_ended : (more : List Token) (text : List ℕ) → NoString more → SpellsTokens more text → EndsString text
string_ended [] [] n s = tt
string_ended [] (c ∷ text) n (inl h) = blank_start c text h
string_ended [] text n (inr ([], comment, h, (inside, same, o), e)) = ends_joined (e ∙ same) hash_ends
string_ended [] text n (inr (b ∷ blank, comment, h, o, e)) = ends_joined e (blank_start b blank h)
string_ended (token ∷ more) text n ([], mine, rest, b, s, m, e) =
    let p = starts token mine s in
    ends_joined (e ∙ ap (λ t. t ++ rest) p.5) (kind_ends p.0 (no_string_kind token p.0 more n p.2))
string_ended (token ∷ more) text n (b ∷ blank, mine, rest, h, s, m, e) = ends_joined e (blank_start b blank h)

-- ---- the sign of a relation

abbrev pub is_sign : ℕ → Bool
is_sign c = nat_eq c 60 || nat_eq c 61 || nat_eq c 59 || nat_eq c 44 || nat_eq c 42

abbrev angles : List ℕ → ℕ
angles [] = 0
angles (c ∷ text) = cond (nat_eq c 60) (angles text + 1) (angles text)

abbrev has_star : List ℕ → Bool
has_star [] = false
has_star (c ∷ text) = nat_eq c 42 || has_star text

abbrev level_at : ℕ → Strength
level_at n =
    cond (nat_eq n 0) Identical (cond (nat_eq n 1) Primary (cond (nat_eq n 2) Secondary (cond (nat_eq n 3) Tertiary Quaternary)))

abbrev sign_of : List ℕ → Strength × Bool
sign_of [] = (Identical, false)
sign_of (c ∷ text) =
    (cond (nat_eq c 59) Secondary (cond (nat_eq c 44) Tertiary (level_at (angles (c ∷ text)))), has_star (c ∷ text))

sign_is : (strength : Strength) (starred : Bool) (text : List ℕ) → IsRelationSign strength starred text → (sign_of text ≡ (strength, starred)) × (list_all is_sign text ≡ true)
sign_is Primary false text (inl e) = (ap sign_of e, ap (list_all is_sign) e)
sign_is Secondary false text (inl e) = (ap sign_of e, ap (list_all is_sign) e)
sign_is Tertiary false text (inl e) = (ap sign_of e, ap (list_all is_sign) e)
sign_is Quaternary false text (inl e) = (ap sign_of e, ap (list_all is_sign) e)
sign_is Identical false text (inl e) = (ap sign_of e, ap (list_all is_sign) e)
sign_is Primary false text (inr e) = absurd e
sign_is Secondary false text (inr e) = (ap sign_of e, ap (list_all is_sign) e)
sign_is Tertiary false text (inr e) = (ap sign_of e, ap (list_all is_sign) e)
sign_is Quaternary false text (inr e) = absurd e
sign_is Identical false text (inr e) = absurd e
sign_is Primary true text e = (ap sign_of e, ap (list_all is_sign) e)
sign_is Secondary true text e = (ap sign_of e, ap (list_all is_sign) e)
sign_is Tertiary true text e = (ap sign_of e, ap (list_all is_sign) e)
sign_is Quaternary true text e = (ap sign_of e, ap (list_all is_sign) e)
sign_is Identical true text e = (ap sign_of e, ap (list_all is_sign) e)

plain_no_sign : (c : ℕ) → is_plain c ≡ true → is_sign c ≡ false
unfolding is_plain is_white is_syntax
plain_no_sign c h = rw (apart 60 c h refl, apart 61 c h refl, apart 59 c h refl, apart 44 c h refl, apart 42 c h refl) refl

white_no_sign : (c : ℕ) → is_white c ≡ true → is_sign c ≡ false
unfolding is_white
white_no_sign c h = rw (white_apart 60 c h refl, white_apart 61 c h refl, white_apart 59 c h refl, white_apart 44 c h refl, white_apart 42 c h refl) refl

blank_no_sign : (c : ℕ) (text : List ℕ) → is_blank false (c ∷ text) ≡ true → is_sign c ≡ false
unfolding is_blank
blank_no_sign c text h = elim (cases_Bool (nat_eq c 35)) [
  | inl e ↦ let p : c ≡ 35 = grind (arith, nat_tests) in subst (λ k. is_sign k ≡ false) (sym p) refl
  | inr e ↦ white_no_sign c (is_white_then (nat_eq c 35) (is_white c) text h e)
]

pub string_no_sign : {text : List ℕ} → BeginsString text → (rest : List ℕ) → StopsAt is_sign (text ++ rest)
string_no_sign (c, t, inl h, e) rest = subst (λ u. StopsAt is_sign (u ++ rest)) (sym e) (plain_no_sign c h)
string_no_sign (c, t, inr (inl h), e) rest =
    subst (λ u. StopsAt is_sign (u ++ rest)) (sym e) (subst (λ k. is_sign k ≡ false) (sym h) refl)
string_no_sign (c, t, inr (inr h), e) rest =
    subst (λ u. StopsAt is_sign (u ++ rest)) (sym e) (subst (λ k. is_sign k ≡ false) (sym h) refl)

-- what follows the sign of a relation ends it
pub sign_ended : (more : List Token) (text : List ℕ) → SomeString more → SpellsTokens more text → StopsAt is_sign text
sign_ended [] text n s = absurd n
sign_ended (reset_sign ∷ more) text n s = absurd n
sign_ended (relation_sign strength starred ∷ more) text n s = absurd n
sign_ended (prefix_sign ∷ more) text n s = absurd n
sign_ended (extension_sign ∷ more) text n s = absurd n
sign_ended (range_sign ∷ more) text n s = absurd n
sign_ended (vowel_sign ∷ more) text n s = absurd n
sign_ended (bracket words ∷ more) text n s = absurd n
sign_ended (set_bracket word set ∷ more) text n s = absurd n
sign_ended (string cs ∷ more) text n ([], mine, rest, b, (full, s, a), m, e) =
    subst (StopsAt is_sign) (sym e) (string_no_sign (string_begins full s) rest)
sign_ended (string cs ∷ more) text n (b ∷ blank, mine, rest, h, s, m, e) =
    subst (StopsAt is_sign) (sym e) (blank_no_sign b blank h)

-- ---- one token

abbrev View : Kind → Token → Type 0
View resets token = token ≡ reset_sign
View relates token = (strength : Strength) × (starred : Bool) × (token ≡ relation_sign strength starred)
View ends_prefix token = token ≡ prefix_sign
View extends token = token ≡ extension_sign
View spans token = token ≡ range_sign
View marks_vowels token = token ≡ vowel_sign
View spells token = (cs : List ℕ) × (token ≡ string cs)
View brackets token = ((words : List (List ℕ)) × (token ≡ bracket words))
    ⊎ ((word : List ℕ) × (set : List SetPart) × (token ≡ set_bracket word set))

view : (token : Token) → View (kind token) token
view reset_sign = refl
view (relation_sign strength starred) = (strength, starred, refl)
view prefix_sign = refl
view extension_sign = refl
view range_sign = refl
view vowel_sign = refl
view (string cs) = (cs, refl)
view (bracket words) = inl (words, refl)
view (set_bracket word set) = inr (word, set, refl)

-- the token of a text that begins as this one does is of its kind
same_kind : (a b : Token) (m n xs ys : List ℕ) → SpellsToken a m → SpellsToken b n → m ++ xs ≡ n ++ ys → View (kind a) b
same_kind a b m n xs ys s t e =
    let p = starts a m s in
    let q = starts b n t in
    let h = head_same (ap (λ u. u ++ xs) (sym p.5) ∙ e ∙ ap (λ u. u ++ ys) q.5) in
    subst (λ k. View k b) (sym q.2 ∙ ap kind_at (sym h) ∙ p.2) (view b)

one_sign : (k : ℕ) {m n xs ys : List ℕ} → m ≡ k ∷ [] → n ≡ k ∷ [] → m ++ xs ≡ n ++ ys → xs ≡ ys
one_sign k {xs} {ys} e f g =
    tail_same (ap (λ t. t ++ xs) (sym e) ∙ g ∙ ap (λ t. t ++ ys) f)

at_token : (b c : Token) (n : List ℕ) → b ≡ c → SpellsToken b n → SpellsToken c n
at_token b c n e s = subst (λ t. SpellsToken t n) e s

bracket_opens : (inside x : List ℕ) {text : List ℕ} → text ≡ 91 ∷ inside ++ 93 ∷ [] → text ++ x ≡ 91 ∷ (inside ++ 93 ∷ x)
bracket_opens inside x e = ap (λ t. t ++ x) e ∙ append_assoc (91 ∷ inside) (93 ∷ []) x

set_opens : (named inside x : List ℕ) {text : List ℕ} → text ≡ 91 ∷ named ++ inside ++ 93 ∷ [] → text ++ x ≡ 91 ∷ (named ++ (inside ++ 93 ∷ x))
set_opens named inside x e =
    ap (λ t. t ++ x) e ∙ append_assoc (91 ∷ named ++ inside) (93 ∷ []) x ∙ append_assoc (91 ∷ named) inside (93 ∷ x)

set_ends_words : (text : List ℕ) → BeginsSet text → EndsWords text
unfolding is_white is_word_character is_plain is_syntax
set_ends_words text (inl (rest, e)) = subst EndsWords (sym e) (refl, refl)
set_ends_words text (inr (rest, e)) = subst EndsWords (sym e) (refl, refl)

no_set_closes : (text : List ℕ) {xs : List ℕ} → BeginsSet text → 93 ∷ xs ≡ text → ⊥
no_set_closes text (inl (rest, e)) f = let h = head_same (f ∙ e) in absurd (omega (arith, h))
no_set_closes text (inr (rest, e)) f = let h = head_same (f ∙ e) in absurd (omega (arith, h))

words_bracket : (us bs : List (List ℕ)) (m n : List ℕ) {xs ys : List ℕ} → SpellsToken (bracket us) m → SpellsToken (bracket bs) n → m ++ xs ≡ n ++ ys → (bracket us ≡ bracket bs) × (xs ≡ ys)
unfolding is_white is_word_character is_plain is_syntax
words_bracket us bs m n {xs} {ys} (inl (i, s, e)) (inl (j, t, f)) g =
    let p = words_once us bs i j s t (refl, refl) (refl, refl) (tail_same (sym (bracket_opens i xs e) ∙ g ∙ bracket_opens j ys f)) in
    (ap bracket p.0, tail_same p.1)
words_bracket us bs m n {xs} {ys} (inl (i, s, e)) (inr (f, w)) g =
    let h = head_same (sym (bracket_opens i xs e) ∙ g ∙ ap (λ t. t ++ ys) f) in absurd (omega (arith, h))
words_bracket us bs m n {xs} {ys} (inr (f, w)) (inl (i, s, e)) g =
    let h = head_same (ap (λ t. t ++ xs) (sym f) ∙ g ∙ bracket_opens i ys e) in absurd (omega (arith, h))
words_bracket us bs m n (inr (e, w)) (inr (f, v)) g = (ap bracket (w ∙ sym v), one_sign 64 e f g)

words_and_set : (us : List (List ℕ)) (word : List ℕ) (set : List SetPart) (m n xs ys : List ℕ) → SpellsToken (bracket us) m → SpellsToken (set_bracket word set) n → m ++ xs ≡ n ++ ys → ⊥
unfolding is_white is_word_character is_plain is_syntax
words_and_set us word set m n xs ys (inl (i, s, e)) (named, inside, k, c, t, f) g =
    let b = set_begins set c.0 inside (93 ∷ ys) c.1 t in
    let p = words_once us (word ∷ []) i named s k (refl, refl) (set_ends_words (inside ++ 93 ∷ ys) b)
    (tail_same (sym (bracket_opens i xs e) ∙ g ∙ set_opens named inside ys f)) in
    no_set_closes (inside ++ 93 ∷ ys) b p.1
words_and_set us word set m n xs ys (inr (e, v)) (named, inside, k, c, t, f) g =
    let h = head_same (ap (λ t. t ++ xs) (sym e) ∙ g ∙ set_opens named inside ys f) in omega (arith, h)

same_word : {a b : List ℕ} → a ∷ [] ≡ b ∷ [] → a ≡ b
same_word e = cc

set_and_set : (a b : List ℕ) (us bs : List SetPart) (m n : List ℕ) {xs ys : List ℕ} → SpellsToken (set_bracket a us) m → SpellsToken (set_bracket b bs) n → m ++ xs ≡ n ++ ys → (set_bracket a us ≡ set_bracket b bs) × (xs ≡ ys)
unfolding is_white is_word_character is_plain is_syntax
set_and_set a b us bs m n {xs} {ys} (na, ia, sa, ca, ta, ea) (nb, ib, sb, cb, tb, eb) g =
    let p = words_once (a ∷ []) (b ∷ []) na nb sa sb (set_ends_words (ia ++ 93 ∷ xs) (set_begins us ca.0 ia (93 ∷ xs) ca.1 ta))
    (set_ends_words (ib ++ 93 ∷ ys) (set_begins bs cb.0 ib (93 ∷ ys) cb.1 tb))
    (tail_same (sym (set_opens na ia xs ea) ∙ g ∙ set_opens nb ib ys eb)) in
    let q = parts_once [] us bs ca.0 cb.0 ia ib (93 ∷ xs) (93 ∷ ys) ca.1 cb.1 ta tb refl refl p.1 in
    (ap (λ w. set_bracket w us) (same_word p.0) ∙ ap (λ s. set_bracket b s) q.0, tail_same q.1)

back : {a b c : Token} {xs ys : List ℕ} → b ≡ c → (a ≡ c) × (xs ≡ ys) → (a ≡ b) × (xs ≡ ys)
back e p = (p.0 ∙ sym e, p.1)

of_kind : (a b : Token) (more others : List Token) (m n : List ℕ) {xs ys : List ℕ} → View (kind a) b → SpellsToken a m → SpellsToken b n → Follows a more → Follows b others → SpellsTokens more xs → SpellsTokens others ys → m ++ xs ≡ n ++ ys → (a ≡ b) × (xs ≡ ys)
of_kind reset_sign b more others m n {xs} {ys} v s t f g q r e = (sym v, one_sign 38 s (at_token b reset_sign n v t) e)
of_kind (relation_sign strength starred) b more others m n {xs} {ys} (level, star, v) s t f g q r e =
    let mine = sign_is strength starred m s in
    let theirs = sign_is level star n (at_token b (relation_sign level star) n v t) in
    let following : SomeString others = subst (λ k. Follows k others) v g in
    let p = span_once is_sign m n mine.1 theirs.1 (sign_ended more xs f q) (sign_ended others ys following r) e in
    let same : (strength, starred) ≡ (level, star) = sym mine.0 ∙ ap sign_of p.0 ∙ theirs.0 in
    back v (ap (λ k. relation_sign k.0 k.1) same, p.1)
of_kind prefix_sign b more others m n {xs} {ys} v s t f g q r e = (sym v, one_sign 124 s (at_token b prefix_sign n v t) e)
of_kind extension_sign b more others m n {xs} {ys} v s t f g q r e = (sym v, one_sign 47 s (at_token b extension_sign n v t) e)
of_kind range_sign b more others m n {xs} {ys} v s t f g q r e = (sym v, one_sign 45 s (at_token b range_sign n v t) e)
of_kind vowel_sign b more others m n {xs} {ys} v s t f g q r e = (sym v, one_sign 33 s (at_token b vowel_sign n v t) e)
of_kind (string cs) b more others m n {xs} {ys} (ds, v) s t f g q r e =
    let theirs = at_token b (string ds) n v t in
    let following : NoString others = subst (λ k. Follows k others) v g in
    let p = characters_once n s.1 theirs.1 (string_ended more xs f q) (string_ended others ys following r) e in
    back v (ap string p.0, p.1)
of_kind (bracket words) b more others m n {xs} {ys} (inl (ws, v)) s t f g q r e =
    back v (words_bracket words ws m n s (at_token b (bracket ws) n v t) e)
of_kind (bracket words) b more others m n {xs} {ys} (inr (word, set, v)) s t f g q r e =
    absurd (words_and_set words word set m n xs ys s (at_token b (set_bracket word set) n v t) e)
of_kind (set_bracket word set) b more others m n {xs} {ys} (inl (ws, v)) s t f g q r e =
    absurd (words_and_set ws word set n m ys xs (at_token b (bracket ws) n v t) s (sym e))
of_kind (set_bracket word set) b more others m n {xs} {ys} (inr (w, ranges, v)) s t f g q r e =
    back v (set_and_set word w set ranges m n s (at_token b (set_bracket w ranges) n v t) e)

-- Two lists of tokens that stand apart and are spelled by one text are the same.
pub tokens_once : (us bs : List Token) (text : List ℕ) → AreApart us → AreApart bs → SpellsTokens us text → SpellsTokens bs text → us ≡ bs
tokens_once [] [] text f g s t = refl
tokens_once [] (b ∷ bs) text f g s (blank, mine, rest, h, t, m, e) =
    absurd (trail_ends blank (mine ++ rest) s h (token_visible b mine rest t) (e ∙ append_assoc blank mine rest))
tokens_once (a ∷ us) [] text f g (blank, mine, rest, h, s, m, e) t =
    absurd (trail_ends blank (mine ++ rest) t h (token_visible a mine rest s) (e ∙ append_assoc blank mine rest))
tokens_once (a ∷ us) (b ∷ bs) text f g (ba, ma, ra, ha, sa, ta, ea) (bb, mb, rb, hb, sb, tb, eb) =
    let e = blank_once false ba bb ha hb (token_visible a ma ra sa) (token_visible b mb rb sb)
    (sym (ea ∙ append_assoc ba ma ra) ∙ eb ∙ append_assoc bb mb rb) in
    let p = of_kind a b us bs ma mb (same_kind a b ma mb ra rb sa sb e) sa sb f.0 g.0 ta tb e in
    let same : SpellsTokens bs ra = subst (SpellsTokens bs) (sym p.1) tb in
    ap (λ t. t ∷ us) p.0 ∙ ap (λ ts. b ∷ ts) (tokens_once us bs ra f.1 g.1 ta same)
