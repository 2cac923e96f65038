-- A text spells the parts of a set in one way only.
use Rattle.std.proofs.Common.{ℕ, Bool, true, false, not, cond, nat_eq, ◌==◌, ◌||◌, ◌≡◌, ◌≢◌, ◌⊎◌, inl, inr, List, [], ◌∷◌, ◌++◌, Option, Some, None, ap, ◌∙◌, sym, refl, subst, append_assoc, arith}
use Rattle.std.specs.List.{list_all}
use Rattle.std.proofs.lemmas.Bool.{and_parts, cases_Bool}
use Rattle.ucd_sets.specs.Lookup.{by_name, by_value}
use Rattle.ucd_sets.specs.Loose.{normalize}
use Rattle.ucd_sets.specs.declared.set.Set.{Set}
use Rattle.icu_rule_parser.specs.declared.statement.CharacterRange.{CharacterRange}
use Rattle.icu_rule_parser.specs.declared.set_parts.SetSign.{SetSign}
use Rattle.icu_rule_parser.specs.declared.set_parts.SetSign.TheVariants.{Opens, Closes, Complement, Intersection, Difference}
use Rattle.icu_rule_parser.specs.declared.set_parts.CharacterProperty.{CharacterProperty}
use Rattle.icu_rule_parser.specs.declared.set_parts.SetPart.{SetPart}
use Rattle.icu_rule_parser.specs.declared.set_parts.SetPart.TheVariants as parts
use Rattle.icu_rule_parser.specs.declared.open_sets.SetPlace.TheVariants as places
use Rattle.icu_rule_parser.specs.RuleCharacters.{is_white, IsWhite}
use Rattle.icu_rule_parser.specs.CharacterSets.{is_in_range, lacks_set, SetReading, SetStep, goes_on, is_over, fails, set_step, if_last, parts_have, sign_code, is_member, IsNoProperty, SpellsCharacter, SpellsRange, HasNo, BeginsNotWith, NamesSet, NamesProperty, other_property, SpellsProperty, SpellsPart, SpellsParts}
use Rattle.icu_rule_parser.proofs.StringOnce.{head_same, tail_same, not_both, escape_once}
use Rattle.icu_rule_parser.proofs.WordsOnce.{StopsAt, span_once, three, white_at, white_45, white_92}

member_45 : is_member 45 ≡ false
unfolding is_member is_white
member_45 = refl

member_backslash : is_member 92 ≡ false
unfolding is_member is_white
member_backslash = refl

white_no_member : (c : ℕ) → is_white c ≡ true → is_member c ≡ true → ⊥
unfolding is_member
white_no_member c w h = let p : not (is_white c) ≡ true = (and_parts (not (is_white c)) _ h).0 in not_both p (ap not w)

member_not_white : (c : ℕ) → is_member c ≡ true → is_white c ≡ false
unfolding is_member
member_not_white c h = elim (cases_Bool (is_white c)) [ inl w ↦ absurd (white_no_member c w h) | inr n ↦ n ]

-- a character of a set
pub member_once : {c d : ℕ} {m n xs ys : List ℕ} → SpellsCharacter c m → SpellsCharacter d n → m ++ xs ≡ n ++ ys → (c ≡ d) × (xs ≡ ys)
member_once {xs = xs} {ys = ys} (inl (h, e)) (inl (k, f)) s =
    let w = ap (λ t. t ++ xs) (sym e) ∙ s ∙ ap (λ t. t ++ ys) f in (head_same w, tail_same w)
member_once {xs = xs} {ys = ys} (inl (h, e)) (inr (m, k, o, f)) s =
    let w = ap (λ t. t ++ xs) (sym e) ∙ s ∙ ap (λ t. t ++ ys) f in
    absurd (not_both (subst (λ i. is_member i ≡ true) (head_same w) h) member_backslash)
member_once {xs = xs} {ys = ys} (inr (m, h, o, e)) (inl (k, f)) s =
    let w = ap (λ t. t ++ xs) (sym e) ∙ s ∙ ap (λ t. t ++ ys) f in
    absurd (not_both (subst (λ i. is_member i ≡ true) (sym (head_same w)) k) member_backslash)
member_once {xs = xs} {ys = ys} (inr (m, h, o, e)) (inr (n, k, p, f)) s =
    escape_once h k (tail_same (ap (λ t. t ++ xs) (sym e) ∙ s ∙ ap (λ t. t ++ ys) f))

-- a character of a set is no white space
member_stops : {c : ℕ} {m : List ℕ} (r : List ℕ) → SpellsCharacter c m → StopsAt is_white (m ++ r)
member_stops {c} {m} r (inl (h, e)) = subst (λ t. StopsAt is_white (t ++ r)) (sym e) (member_not_white c h)
member_stops {c} {m} r (inr (escape, h, o, e)) = subst (λ t. StopsAt is_white (t ++ r)) (sym e) white_92

-- and neither a dash nor a closing bracket
member_otherwise : (k : ℕ) {c : ℕ} {m : List ℕ} (r : List ℕ) → is_member k ≡ false → k ≢ 92 → SpellsCharacter c m → BeginsNotWith k (m ++ r)
member_otherwise k {c} {m} r p q (inl (h, e)) =
    subst (λ t. BeginsNotWith k (t ++ r)) (sym e) (λ f. not_both (subst (λ i. is_member i ≡ true) f h) p)
member_otherwise k {c} {m} r p q (inr (escape, h, o, e)) =
    subst (λ t. BeginsNotWith k (t ++ r)) (sym e) (λ f. q (sym f))

-- text that doesn't go on with a dash, behind white space
abbrev pub NoDash : List ℕ → Type 0
NoDash text = (white rest : List ℕ) × IsWhite white × StopsAt is_white rest × BeginsNotWith 45 rest × (text ≡ white ++ rest)

dash_stands : {text : List ℕ} (before more : List ℕ) → NoDash text → IsWhite before → text ≡ before ++ 45 ∷ more → ⊥
dash_stands before more (white, rest, w, s, d, e) b f =
    let p = span_once is_white white before w b s white_45 (sym e ∙ f) in
    let h : BeginsNotWith 45 (45 ∷ more) = subst (BeginsNotWith 45) p.1 d in h refl

pub five : (f b a l x : List ℕ) {whole : List ℕ} → whole ≡ f ++ b ++ 45 ∷ a ++ l → whole ++ x ≡ f ++ (b ++ 45 ∷ (a ++ (l ++ x)))
five f b a l x e =
    ap (λ t. t ++ x) e ∙ append_assoc (f ++ b ++ 45 ∷ a) l x ∙ append_assoc (f ++ b) (45 ∷ a) (l ++ x)
    ∙ append_assoc f b (45 ∷ (a ++ (l ++ x)))

range_same : (r s : CharacterRange) → r.first ≡ s.first → r.last ≡ s.last → r ≡ s
range_same r s e f =
    let p : r ≡ record { first = s.first; last = r.last } = ap (λ k. record { first = k; last = r.last }) e in
    p ∙ ap (λ k. record { first = s.first; last = k }) f

one_and_two : (r s : CharacterRange) (ys : List ℕ) {m n xs : List ℕ} → SpellsCharacter r.first m → (first before after last : List ℕ) → SpellsCharacter s.first first → IsWhite before → n ≡ first ++ before ++ 45 ∷ after ++ last → NoDash xs → m ++ xs ≡ n ++ ys → ⊥
one_and_two r s ys c first before after last d w e k f =
    let p = member_once c d (f ∙ five first before after last ys e) in
    dash_stands before (after ++ (last ++ ys)) k w p.1

-- a range of a set
pub range_once : (r s : CharacterRange) {m n xs ys : List ℕ} → SpellsRange r m → SpellsRange s n → NoDash xs → NoDash ys → m ++ xs ≡ n ++ ys → (r ≡ s) × (xs ≡ ys)
range_once r s (inl (a, c)) (inl (b, d)) h k e =
    let p = member_once c d e in (range_same r s p.0 (sym a ∙ p.0 ∙ b), p.1)
range_once r s {ys} (inl (a, c)) (inr (first, before, after, last, d, w, v, l, i, f)) h k e =
    absurd (one_and_two r s ys c first before after last d w f h e)
range_once r s {xs} (inr (first, before, after, last, d, w, v, l, i, f)) (inl (a, c)) h k e =
    absurd (one_and_two s r xs c first before after last d w f k (sym e))
range_once r s {xs} {ys} (inr (fa, ba, aa, la, ca, wa, va, da, ia, ea)) (inr (fb, bb, ab, lb, cb, wb, vb, db, ib, eb)) h k e =
    let p = member_once ca cb (sym (five fa ba aa la xs ea) ∙ e ∙ five fb bb ab lb ys eb) in
    let q = span_once is_white ba bb wa wb white_45 white_45 p.1 in
    let t = span_once is_white aa ab va vb (member_stops xs da) (member_stops ys db) (tail_same q.1) in
    let u = member_once da db t.1 in (range_same r s p.0 u.0, u.1)

first_of_range : (k : ℕ) (r : CharacterRange) {m : List ℕ} (x : List ℕ) → is_member k ≡ false → k ≢ 92 → SpellsRange r m → StopsAt is_white (m ++ x) × BeginsNotWith k (m ++ x)
first_of_range k r x p q (inl (a, c)) = (member_stops x c, member_otherwise k x p q c)
first_of_range k r x p q (inr (f, b, a, l, c, w, v, d, i, e)) =
    let s = five f b a l x e in (
      subst (StopsAt is_white) (sym s) (member_stops (b ++ 45 ∷ (a ++ (l ++ x))) c),
      subst (BeginsNotWith k) (sym s) (member_otherwise k (b ++ 45 ∷ (a ++ (l ++ x))) p q c),
    )

-- ---- signs

sign_member : (sign : SetSign) → is_member (sign_code sign) ≡ false
unfolding is_member is_white
sign_member Opens = refl
sign_member Closes = refl
sign_member Complement = refl
sign_member Intersection = refl
sign_member Difference = refl

sign_white : (sign : SetSign) → is_white (sign_code sign) ≡ false
unfolding is_white
sign_white Opens = refl
sign_white Closes = refl
sign_white Complement = refl
sign_white Intersection = refl
sign_white Difference = refl

-- no sign is a backslash, or a colon
sign_other : (sign : SetSign) → (sign_code sign ≢ 92) × (sign_code sign ≢ 58)
sign_other Opens = (omega arith, omega arith)
sign_other Closes = (omega arith, omega arith)
sign_other Complement = (omega arith, omega arith)
sign_other Intersection = (omega arith, omega arith)
sign_other Difference = (omega arith, omega arith)

abbrev sign_by : ℕ → SetSign
sign_by c =
    cond (nat_eq c 91) Opens (cond (nat_eq c 93) Closes (cond (nat_eq c 94) Complement (cond (nat_eq c 38) Intersection Difference)))

sign_is : (sign : SetSign) → sign_by (sign_code sign) ≡ sign
sign_is Opens = refl
sign_is Closes = refl
sign_is Complement = refl
sign_is Intersection = refl
sign_is Difference = refl

sign_same : (s t : SetSign) → sign_code s ≡ sign_code t → s ≡ t
sign_same s t e = sym (sign_is s) ∙ ap sign_by e ∙ sign_is t

-- ---- properties

-- the characters before the first that is this one
body_once : (sign : ℕ) (a b : List ℕ) {xs ys : List ℕ} → not (sign == sign) ≡ false → HasNo sign a → HasNo sign b → a ++ sign ∷ xs ≡ b ++ sign ∷ ys → (a ≡ b) × (xs ≡ ys)
body_once sign a b one h k e =
    let p = span_once (λ c. not (c == sign)) a b h k one one e in (p.0, tail_same p.1)

none_there : (a b : List ℕ) → HasNo 61 (a ++ 61 ∷ b) → ⊥
none_there [] b h = let p = (and_parts (not (61 == 61)) (list_all (λ c. not (c == 61)) b) h).0 in cc
none_there (c ∷ a) b h = none_there a b (and_parts (not (c == 61)) (list_all (λ c. not (c == 61)) (a ++ 61 ∷ b)) h).1

some_same : {s t : Set} → Some s ≡ Some t → s ≡ t
some_same e = cc

set_name_once : (s t : Set) (a b : List ℕ) → a ≡ b → NamesSet s a → NamesSet t b → s ≡ t
set_name_once s t a b e (inl (h, n)) (inl (k, m)) = some_same (sym n ∙ ap (λ w. by_name (normalize w)) e ∙ m)
set_name_once s t a b e (inl (h, n)) (inr (name, value, k, f, m)) = absurd (none_there name value (subst (HasNo 61) (e ∙ f) h))
set_name_once s t a b e (inr (name, value, k, f, m)) (inl (h, n)) = absurd (none_there name value (subst (HasNo 61) (sym e ∙ f) h))
set_name_once s t a b e (inr (na, va, h, f, m)) (inr (nb, vb, k, g, n)) =
    let p = body_once 61 na nb refl h k (sym f ∙ e ∙ g) in
    some_same (sym m ∙ ap (λ w. by_value (normalize w) (normalize va)) p.0 ∙ ap (λ w. by_value (normalize nb) (normalize w)) p.1 ∙ n)

property_same : (p q : CharacterProperty) → p.set ≡ q.set → p.is_complement ≡ q.is_complement → p ≡ q
property_same p q e f =
    let first : p ≡ record { set = q.set; is_complement = p.is_complement } = ap (λ k. record { set = k; is_complement = p.is_complement }) e in
    first ∙ ap (λ k. record { set = q.set; is_complement = k }) f

name_once : (p q : CharacterProperty) (a b : List ℕ) → a ≡ b → NamesProperty p a → NamesProperty q b → p ≡ q
name_once p q a b e (inl (c, o, n)) (inl (d, u, m)) = property_same p q (set_name_once p.set q.set a b e n m) (c ∙ sym d)
name_once p q a b e (inl (c, o, n)) (inr (named, d, f, m)) =
    let h : BeginsNotWith 94 (94 ∷ named) = subst (BeginsNotWith 94) (e ∙ f) o in absurd (h refl)
name_once p q a b e (inr (named, c, f, n)) (inl (d, u, m)) =
    let h : BeginsNotWith 94 (94 ∷ named) = subst (BeginsNotWith 94) (sym e ∙ f) u in absurd (h refl)
name_once p q a b e (inr (na, c, f, n)) (inr (nb, d, g, m)) =
    property_same p q (set_name_once p.set q.set na nb (tail_same (sym f ∙ e ∙ g)) n m) (c ∙ sym d)

not_same : (a b : Bool) → not a ≡ not b → a ≡ b
not_same true true e = refl
not_same true false e = cc
not_same false true e = cc
not_same false false e = refl

other_same : (p q : CharacterProperty) → other_property p ≡ other_property q → p ≡ q
other_same p q e =
    property_same p q (ap (λ (k : CharacterProperty). k.set) e) (not_same p.is_complement q.is_complement (ap (λ (k : CharacterProperty). k.is_complement) e))

posix_text : (body x : List ℕ) {m : List ℕ} → m ≡ 91 ∷ 58 ∷ body ++ 58 ∷ 93 ∷ [] → m ++ x ≡ 91 ∷ 58 ∷ (body ++ 58 ∷ 93 ∷ x)
posix_text body x e = ap (λ t. t ++ x) e ∙ append_assoc (91 ∷ 58 ∷ body) (58 ∷ 93 ∷ []) x

perl_text : (k : ℕ) (body x : List ℕ) {m : List ℕ} → m ≡ 92 ∷ k ∷ 123 ∷ body ++ 125 ∷ [] → m ++ x ≡ 92 ∷ k ∷ 123 ∷ (body ++ 125 ∷ x)
perl_text k body x e = ap (λ t. t ++ x) e ∙ append_assoc (92 ∷ k ∷ 123 ∷ body) (125 ∷ []) x

property_once : (p q : CharacterProperty) {m n : List ℕ} (xs ys : List ℕ) → SpellsProperty p m → SpellsProperty q n → m ++ xs ≡ n ++ ys → (p ≡ q) × (xs ≡ ys)
property_once p q xs ys (a, inl (h, n, e)) (b, inl (k, m, f)) g =
    let w = sym (posix_text a xs e) ∙ g ∙ posix_text b ys f in
    let r = body_once 58 a b refl h k (tail_same (tail_same w)) in (name_once p q a b r.0 n m, tail_same r.1)
property_once p q xs ys (a, inl (h, n, e)) (b, inr (inl (k, m, f))) g =
    let w = head_same (sym (posix_text a xs e) ∙ g ∙ perl_text 112 b ys f) in absurd (omega (arith, w))
property_once p q xs ys (a, inl (h, n, e)) (b, inr (inr (k, m, f))) g =
    let w = head_same (sym (posix_text a xs e) ∙ g ∙ perl_text 80 b ys f) in absurd (omega (arith, w))
property_once p q xs ys (a, inr (inl (h, n, e))) (b, inl (k, m, f)) g =
    let w = head_same (sym (perl_text 112 a xs e) ∙ g ∙ posix_text b ys f) in absurd (omega (arith, w))
property_once p q xs ys (a, inr (inl (h, n, e))) (b, inr (inl (k, m, f))) g =
    let w = sym (perl_text 112 a xs e) ∙ g ∙ perl_text 112 b ys f in
    let r = body_once 125 a b refl h k (tail_same (tail_same (tail_same w))) in (name_once p q a b r.0 n m, r.1)
property_once p q xs ys (a, inr (inl (h, n, e))) (b, inr (inr (k, m, f))) g =
    let w = head_same (tail_same (sym (perl_text 112 a xs e) ∙ g ∙ perl_text 80 b ys f)) in absurd (omega (arith, w))
property_once p q xs ys (a, inr (inr (h, n, e))) (b, inl (k, m, f)) g =
    let w = head_same (sym (perl_text 80 a xs e) ∙ g ∙ posix_text b ys f) in absurd (omega (arith, w))
property_once p q xs ys (a, inr (inr (h, n, e))) (b, inr (inl (k, m, f))) g =
    let w = head_same (tail_same (sym (perl_text 80 a xs e) ∙ g ∙ perl_text 112 b ys f)) in absurd (omega (arith, w))
property_once p q xs ys (a, inr (inr (h, n, e))) (b, inr (inr (k, m, f))) g =
    let w = sym (perl_text 80 a xs e) ∙ g ∙ perl_text 80 b ys f in
    let r = body_once 125 a b refl h k (tail_same (tail_same (tail_same w))) in
    (other_same p q (name_once (other_property p) (other_property q) a b r.0 n m), r.1)

-- how a property begins
abbrev BeginsProperty : List ℕ → Type 0
BeginsProperty text = ((rest : List ℕ) × (text ≡ 91 ∷ 58 ∷ rest))
    ⊎ ((rest : List ℕ) × (letter : ℕ) × ((letter ≢ 112) → letter ≡ 80) × (text ≡ 92 ∷ letter ∷ rest))

property_begins : (p : CharacterProperty) {m : List ℕ} (x : List ℕ) → SpellsProperty p m → BeginsProperty (m ++ x)
property_begins p x (a, inl (h, n, e)) = inl (a ++ 58 ∷ 93 ∷ x, posix_text a x e)
property_begins p x (a, inr (inl (h, n, e))) = inr (123 ∷ (a ++ 125 ∷ x), 112, λ d. absurd (d refl), perl_text 112 a x e)
property_begins p x (a, inr (inr (h, n, e))) = inr (123 ∷ (a ++ 125 ∷ x), 80, λ d. refl, perl_text 80 a x e)

-- ---- the first character of a part

white_91 : is_white 91 ≡ false
unfolding is_white
white_91 = refl

white_58 : is_white 58 ≡ false
unfolding is_white
white_58 = refl

member_91 : is_member 91 ≡ false
unfolding is_member is_white
member_91 = refl

member_58 : is_member 58 ≡ false
unfolding is_member is_white
member_58 = refl

-- no sign that is this character
abbrev IsNoSign : ℕ → SetPart → Type 0
IsNoSign k (parts.Sign sign) = sign_code sign ≢ k
IsNoSign k (parts.Range range) = Unit {0}
IsNoSign k (parts.Property property) = Unit {0}

property_otherwise : (k : ℕ) (text : List ℕ) → k ≢ 91 → k ≢ 92 → BeginsProperty text → StopsAt is_white text × BeginsNotWith k text
property_otherwise k text a b (inl (rest, e)) =
    (subst (StopsAt is_white) (sym e) white_91, subst (BeginsNotWith k) (sym e) (λ f. a (sym f)))
property_otherwise k text a b (inr (rest, letter, one, e)) =
    (subst (StopsAt is_white) (sym e) white_92, subst (BeginsNotWith k) (sym e) (λ f. b (sym f)))

first_of_part : (k : ℕ) (part : SetPart) (m x : List ℕ) → is_member k ≡ false → k ≢ 91 → k ≢ 92 → IsNoSign k part → SpellsPart part m → StopsAt is_white (m ++ x) × BeginsNotWith k (m ++ x)
first_of_part k (parts.Sign sign) m x p a b n e = (
  subst (λ t. StopsAt is_white (t ++ x)) (sym e) (sign_white sign),
  subst (λ t. BeginsNotWith k (t ++ x)) (sym e) n,
)
first_of_part k (parts.Range range) m x p a b n s = first_of_range k range x p b s
first_of_part k (parts.Property property) m x p a b n s = property_otherwise k (m ++ x) a b (property_begins property x s)

no_colon : (part : SetPart) → IsNoSign 58 part
no_colon (parts.Sign sign) = (sign_other sign).1
no_colon (parts.Range range) = tt
no_colon (parts.Property property) = tt

-- parts begin with no white space
parts_stop : (stated : List SetPart) (m xs : List ℕ) → SpellsParts stated m → StopsAt is_white xs → StopsAt is_white (m ++ xs)
parts_stop [] m xs e s = subst (λ t. StopsAt is_white (t ++ xs)) (sym e) s
parts_stop (part ∷ more) m xs (mine, white, rest, p, w, t, e) s =
    subst (StopsAt is_white) (sym (three mine white rest xs e))
    (first_of_part 58 part mine (white ++ (rest ++ xs)) member_58 (omega arith) (omega arith) (no_colon part) p).0

-- ---- what follows a part

no_truth : {a : Bool} → None ≡ Some a → ⊥
no_truth e = cc

abbrev FollowsSign : SetSign → List ℕ → Type 0
FollowsSign Opens text = BeginsNotWith 58 text
FollowsSign Closes text = Unit {0}
FollowsSign Complement text = Unit {0}
FollowsSign Intersection text = Unit {0}
FollowsSign Difference text = Unit {0}

abbrev FollowsPart : SetPart → List ℕ → Type 0
FollowsPart (parts.Sign sign) text = FollowsSign sign text
FollowsPart (parts.Range range) text = NoDash text
FollowsPart (parts.Property property) text = Unit {0}

no_colon_behind : (part : SetPart) (white mine rest : List ℕ) → IsWhite white → SpellsPart part mine → BeginsNotWith 58 (white ++ (mine ++ rest))
no_colon_behind part [] mine rest w s = (first_of_part 58 part mine rest member_58 (omega arith) (omega arith) (no_colon part) s).1
no_colon_behind part (c ∷ white) mine rest w s = white_at 58 (and_parts (is_white c) (list_all is_white white) w).0 white_58

opens_followed : (sets : List SetReading) (has : Bool) (more : List SetPart) (m white xs : List ℕ) → parts_have 0 sets more ≡ Some has → SpellsParts more m → IsWhite white → BeginsNotWith 58 (white ++ (m ++ xs))
opens_followed sets has [] m white xs h s w = absurd (no_truth h)
opens_followed sets has (part ∷ more) m white xs h (mine, behind, rest, p, v, t, e) w =
    subst (λ t. BeginsNotWith 58 (white ++ t)) (sym (three mine behind rest xs e))
    (no_colon_behind part white mine (behind ++ (rest ++ xs)) w p)

-- behind a range stands no dash
no_dash_behind : (n h : Bool) (outer : List SetReading) (has : Bool) (part : SetPart) (more : List SetPart) → parts_have 0 (record { is_complement = n; place = places.BehindRange; has = h } ∷ outer) (part ∷ more) ≡ Some has → IsNoSign 45 part
no_dash_behind n h outer has (parts.Sign Opens) more e = omega arith
no_dash_behind n h outer has (parts.Sign Closes) more e = omega arith
no_dash_behind n h outer has (parts.Sign Complement) more e = omega arith
no_dash_behind n h outer has (parts.Sign Intersection) more e = omega arith
no_dash_behind n h outer has (parts.Sign Difference) more e = absurd (no_truth e)
no_dash_behind n h outer has (parts.Range range) more e = tt
no_dash_behind n h outer has (parts.Property property) more e = tt

range_followed : (n h : Bool) (outer : List SetReading) (has : Bool) (more : List SetPart) (m white xs : List ℕ) → parts_have 0 (record { is_complement = n; place = places.BehindRange; has = h } ∷ outer) more ≡ Some has → SpellsParts more m → IsWhite white → NoDash (white ++ (m ++ xs))
range_followed n h outer has [] m white xs e s w = absurd (no_truth e)
range_followed n h outer has (part ∷ more) m white xs e (mine, behind, rest, p, v, t, f) w =
    let first = first_of_part 45 part mine (behind ++ (rest ++ xs)) member_45 (omega arith) (omega arith) (no_dash_behind n h outer has part more e) p in
    (white, mine ++ (behind ++ (rest ++ xs)), w, first.0, first.1, ap (λ t. white ++ t) (three mine behind rest xs f))

abbrev then_has : SetStep → List SetPart → Option Bool
then_has step more = elim step [ goes_on next ↦ parts_have 0 next more | is_over h ↦ if_last h more | fails ↦ None ]

ranged : (b : Bool) (next : List SetReading) (more : List SetPart) (a : Bool) → then_has (cond b fails (goes_on next)) more ≡ Some a → parts_have 0 next more ≡ Some a
ranged true next more a e = absurd (no_truth e)
ranged false next more a e = e

-- what stands behind a part that leads to a closed set
part_followed : (sets : List SetReading) (has : Bool) (part : SetPart) (more : List SetPart) (m white xs : List ℕ) → parts_have 0 sets (part ∷ more) ≡ Some has → SpellsParts more m → IsWhite white → FollowsPart part (white ++ (m ++ xs))
part_followed [] has (parts.Sign Opens) more m white xs e s w = opens_followed _ has more m white xs e s w
part_followed (now ∷ outer) has (parts.Sign Opens) more m white xs e s w = opens_followed _ has more m white xs e s w
part_followed sets has (parts.Sign Closes) more m white xs e s w = tt
part_followed sets has (parts.Sign Complement) more m white xs e s w = tt
part_followed sets has (parts.Sign Intersection) more m white xs e s w = tt
part_followed sets has (parts.Sign Difference) more m white xs e s w = tt
part_followed [] has (parts.Range range) more m white xs e s w = absurd (no_truth e)
part_followed (now ∷ outer) has (parts.Range range) more m white xs e s w =
    range_followed now.is_complement (now.has || is_in_range range 0) outer has more m white xs (ranged (lacks_set now.place) _ more has e) s w
part_followed sets has (parts.Property property) more m white xs e s w = tt

-- ---- one part

sign_and_range : (s : SetSign) (r : CharacterRange) {n : List ℕ} (xs ys : List ℕ) → SpellsRange r n → sign_code s ∷ xs ≡ n ++ ys → ⊥
sign_and_range s r xs ys t e =
    let h : BeginsNotWith (sign_code s) (sign_code s ∷ xs) =
    subst (BeginsNotWith (sign_code s)) (sym e) (first_of_range (sign_code s) r ys (sign_member s) (sign_other s).0 t).1 in h refl

bracket_and_property : (s : SetSign) (xs : List ℕ) {rest : List ℕ} → s ≡ Opens → FollowsSign s xs → xs ≡ 58 ∷ rest → ⊥
bracket_and_property s xs {rest} o f e =
    let k : BeginsNotWith 58 xs = subst (λ t. FollowsSign t xs) o f in
    let h : BeginsNotWith 58 (58 ∷ rest) = subst (BeginsNotWith 58) e k in h refl

sign_and_property : (s : SetSign) (xs text : List ℕ) → FollowsSign s xs → BeginsProperty text → sign_code s ∷ xs ≡ text → ⊥
sign_and_property s xs text f (inl (rest, e)) g =
    let w = g ∙ e in bracket_and_property s xs (sign_same s Opens (head_same w)) f (tail_same w)
sign_and_property s xs text f (inr (rest, letter, one, e)) g = (sign_other s).0 (head_same (g ∙ e))

no_such_letter : (letter k : ℕ) → ((letter ≢ 112) → letter ≡ 80) → k ≡ letter → k ≢ 112 → k ≢ 80 → ⊥
no_such_letter letter k one e a b = b (e ∙ one (λ d. a (e ∙ d)))

escape_and_property : (escape x rest : List ℕ) (letter : ℕ) → ((letter ≢ 112) → letter ≡ 80) → IsNoProperty escape → escape ++ x ≡ letter ∷ rest → ⊥
escape_and_property [] x rest letter one n e = n
escape_and_property (k ∷ escape) x rest letter one n e = no_such_letter letter k one (head_same e) n.0 n.1

member_and_property : (c : ℕ) {m : List ℕ} (x text : List ℕ) → SpellsCharacter c m → BeginsProperty text → m ++ x ≡ text → ⊥
member_and_property c x text s (inl (rest, e)) g =
    let h : BeginsNotWith 91 (91 ∷ 58 ∷ rest) = subst (BeginsNotWith 91) (g ∙ e) (member_otherwise 91 x member_91 (omega arith) s) in h refl
member_and_property c x text (inl (h, f)) (inr (rest, letter, one, e)) g =
    not_both (subst (λ i. is_member i ≡ true) (head_same (ap (λ t. t ++ x) (sym f) ∙ g ∙ e)) h) member_backslash
member_and_property c x text (inr (escape, h, n, f)) (inr (rest, letter, one, e)) g =
    escape_and_property escape x rest letter one n (tail_same (ap (λ t. t ++ x) (sym f) ∙ g ∙ e))

range_and_property : (r : CharacterRange) {m : List ℕ} (x text : List ℕ) → SpellsRange r m → BeginsProperty text → m ++ x ≡ text → ⊥
range_and_property r x text (inl (a, c)) p g = member_and_property r.first x text c p g
range_and_property r x text (inr (f, b, a, l, c, w, v, d, i, e)) p g =
    member_and_property r.first (b ++ 45 ∷ (a ++ (l ++ x))) text c p (sym (five f b a l x e) ∙ g)

sign_then : (s : SetSign) {m : List ℕ} (xs : List ℕ) → m ≡ sign_code s ∷ [] → sign_code s ∷ xs ≡ m ++ xs
sign_then s xs e = ap (λ t. t ++ xs) (sym e)

part_once : (p q : SetPart) (m n xs ys : List ℕ) → SpellsPart p m → SpellsPart q n → FollowsPart p xs → FollowsPart q ys → m ++ xs ≡ n ++ ys → (p ≡ q) × (xs ≡ ys)
part_once (parts.Sign s) (parts.Sign t) m n xs ys e f h k g =
    let w = sign_then s xs e ∙ g ∙ sym (sign_then t ys f) in (ap (λ i. parts.Sign i) (sign_same s t (head_same w)), tail_same w)
part_once (parts.Sign s) (parts.Range r) m n xs ys e f h k g = absurd (sign_and_range s r xs ys f (sign_then s xs e ∙ g))
part_once (parts.Sign s) (parts.Property q) m n xs ys e f h k g =
    absurd (sign_and_property s xs (n ++ ys) h (property_begins q ys f) (sign_then s xs e ∙ g))
part_once (parts.Range r) (parts.Sign t) m n xs ys e f h k g = absurd (sign_and_range t r ys xs e (sign_then t ys f ∙ sym g))
part_once (parts.Range r) (parts.Range t) m n xs ys e f h k g =
    let p = range_once r t e f h k g in (ap (λ i. parts.Range i) p.0, p.1)
part_once (parts.Range r) (parts.Property q) m n xs ys e f h k g =
    absurd (range_and_property r xs (n ++ ys) e (property_begins q ys f) g)
part_once (parts.Property p) (parts.Sign t) m n xs ys e f h k g =
    absurd (sign_and_property t ys (m ++ xs) k (property_begins p xs e) (sign_then t ys f ∙ sym g))
part_once (parts.Property p) (parts.Range r) m n xs ys e f h k g =
    absurd (range_and_property r ys (m ++ xs) f (property_begins p xs e) (sym g))
part_once (parts.Property p) (parts.Property q) m n xs ys e f h k g =
    let r = property_once p q xs ys e f g in (ap (λ i. parts.Property i) r.0, r.1)

-- ---- parts, up to the end of the outermost set

rest_once : (step : SetStep) (us bs : List SetPart) (a b : Bool) (m n xs ys : List ℕ) → ((next : List SetReading) → parts_have 0 next us ≡ Some a → parts_have 0 next bs ≡ Some b → (us ≡ bs) × (xs ≡ ys)) → then_has step us ≡ Some a → then_has step bs ≡ Some b → SpellsParts us m → SpellsParts bs n → m ++ xs ≡ n ++ ys → (us ≡ bs) × (xs ≡ ys)
rest_once (goes_on next) us bs a b m n xs ys again h k s t e = again next h k
rest_once (is_over has) [] [] a b m n xs ys again h k s t e = (refl, ap (λ t. t ++ xs) (sym s) ∙ e ∙ ap (λ u. u ++ ys) t)
rest_once (is_over has) [] (q ∷ bs) a b m n xs ys again h k s t e = absurd (no_truth k)
rest_once (is_over has) (p ∷ us) bs a b m n xs ys again h k s t e = absurd (no_truth h)
rest_once fails us bs a b m n xs ys again h k s t e = absurd (no_truth h)

pub parts_once : (sets : List SetReading) (us bs : List SetPart) (a b : Bool) (m n xs ys : List ℕ) → parts_have 0 sets us ≡ Some a → parts_have 0 sets bs ≡ Some b → SpellsParts us m → SpellsParts bs n → StopsAt is_white xs → StopsAt is_white ys → m ++ xs ≡ n ++ ys → (us ≡ bs) × (xs ≡ ys)
parts_once sets [] bs a b m n xs ys h k s t v w e = absurd (no_truth h)
parts_once sets (p ∷ us) [] a b m n xs ys h k s t v w e = absurd (no_truth k)
parts_once sets (p ∷ us) (q ∷ bs) a b m n xs ys h k (ma, wa, ra, sa, va, ta, ea) (mb, wb, rb, sb, vb, tb, eb) v w e =
    let first = part_once p q ma mb (wa ++ (ra ++ xs)) (wb ++ (rb ++ ys)) sa sb (part_followed sets a p us ra wa xs h ta va)
    (part_followed sets b q bs rb wb ys k tb vb) (sym (three ma wa ra xs ea) ∙ e ∙ three mb wb rb ys eb) in
    let gap = span_once is_white wa wb va vb (parts_stop us ra xs ta v) (parts_stop bs rb ys tb w) first.1 in
    let r = rest_once (set_step 0 sets p) us bs a b ra rb xs ys
    (λ next i j. parts_once next us bs a b ra rb xs ys i j ta tb v w gap.1) h
    (ap (λ t. then_has (set_step 0 sets t) bs) first.0 ∙ k) ta tb gap.1 in
    (ap (λ i. i ∷ us) first.0 ∙ ap (λ i. q ∷ i) r.0, r.1)

-- how a set begins
abbrev pub BeginsSet : List ℕ → Type 0
BeginsSet text = ((rest : List ℕ) × (text ≡ 91 ∷ rest)) ⊎ ((rest : List ℕ) × (text ≡ 92 ∷ rest))

property_set : {text : List ℕ} → BeginsProperty text → BeginsSet text
property_set (inl (rest, e)) = inl (58 ∷ rest, e)
property_set (inr (rest, letter, one, e)) = inr (letter ∷ rest, e)

begins_then : {a text : List ℕ} → a ≡ text → BeginsSet text → BeginsSet a
begins_then e (inl (rest, f)) = inl (rest, e ∙ f)
begins_then e (inr (rest, f)) = inr (rest, e ∙ f)

pub set_begins : (stated : List SetPart) (has : Bool) (m xs : List ℕ) → parts_have 0 [] stated ≡ Some has → SpellsParts stated m → BeginsSet (m ++ xs)
set_begins [] has m xs h s = absurd (no_truth h)
set_begins (parts.Sign Opens ∷ more) has m xs h (mine, white, rest, s, w, t, e) =
    inl (white ++ (rest ++ xs), three mine white rest xs e ∙ ap (λ t. t ++ (white ++ (rest ++ xs))) s)
set_begins (parts.Sign Closes ∷ more) has m xs h s = absurd (no_truth h)
set_begins (parts.Sign Complement ∷ more) has m xs h s = absurd (no_truth h)
set_begins (parts.Sign Intersection ∷ more) has m xs h s = absurd (no_truth h)
set_begins (parts.Sign Difference ∷ more) has m xs h s = absurd (no_truth h)
set_begins (parts.Range range ∷ more) has m xs h s = absurd (no_truth h)
set_begins (parts.Property property ∷ more) has m xs h (mine, white, rest, s, w, t, e) =
    begins_then (three mine white rest xs e) (property_set (property_begins property (white ++ (rest ++ xs)) s))
