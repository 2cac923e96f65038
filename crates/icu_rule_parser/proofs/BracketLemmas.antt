-- Words in brackets and parts of sets, taken one at a time.
use Rattle.std.proofs.Common.{ℕ, Bool, true, false, not, ◌==◌, Bor, Vec, Option, None, ◌≡◌, ◌≢◌, ◌≤◌, ◌-◌, inl, inr, List, [], ◌∷◌, ◌++◌, length, take, drop, ap, ◌∙◌, sym, refl, subst, append_assoc, arith, IsTrue, length-append}
use Rattle.std.specs.List.{list_all}
use Rattle.std.proofs.lemmas.Bool.{and_from}
use Rattle.std.proofs.lemmas.List.{append-nil}
use Rattle.std.proofs.lemmas.List.Folds.{list_all-append}
use Rattle.std.proofs.Math.Seq.{take-append_seam, drop-append_seam}
use Rattle.icu_rule_parser.specs.declared.statement.CharacterRange.{CharacterRange}
use Rattle.icu_rule_parser.specs.RuleCharacters.{is_word_character, is_white, IsWhite, is_blank, IsBlank}
use Rattle.icu_rule_parser.specs.RuleStrings.{SpellsEscape, braced}
use Rattle.std.specs.declared.alloc.Global.{Global}
use Rattle.icu_rule_parser.specs.declared.set_parts.CharacterProperty.{CharacterProperty}
use Rattle.icu_rule_parser.specs.declared.set_parts.SetPart.{SetPart}
use Rattle.icu_rule_parser.specs.declared.open_sets.OpenSet.{OpenSet}
use Rattle.icu_rule_parser.specs.declared.open_sets.TakenPart.TheVariants as taken_parts
use Rattle.icu_rule_parser.specs.CharacterSets.{have_character, SetStep, goes_on, is_over, fails, if_last, parts_have, IsSet, IsSetOf, is_member, IsNoProperty, HasNo, NamesProperty, other_property, SpellsCharacter, SpellsParts}
use Rattle.icu_rule_parser.specs.Tokens.{Token, bracket, set_bracket, SpellsToken, SpellsWords, IsBracketWord, IsNoWord}
use Rattle.icu_rule_parser.specs.TakenText.{SkipsWhite, SkipsWord, TakesWords, TakesMember, TakesRange, TakesPart, TakesParts, SkipsOthers, EndsAtSign, TakesBody, TakesProperty, TakesSet, TakesBracket, TakesEscape, LeadsTo, Takes}
use Rattle.icu_rule_parser.specs.TakenStatements.{TakesStatement}
use Rattle.icu_rule_parser.specs.Statements.{AreStatement}
use Rattle.icu_rule_parser.specs.declared.statement.Statement.{Statement}
use Rattle.icu_rule_parser.specs.declared.brackets.Bracket.TheVariants as brackets

head_of : {x y : ℕ} {xs ys : List ℕ} → x ∷ xs ≡ y ∷ ys → x ≡ y
head_of e = cc

pub word_more : {c : ℕ} {after r whole : List ℕ} → whole ≡ c ∷ after → is_word_character c ≡ true → SkipsWord after r → SkipsWord whole r
word_more {c} e h (word, all, same) = (c ∷ word, and_from _ _ h all, e ∙ ap (λ t. c ∷ t) same)

pub no_word_at : {c : ℕ} {after whole : List ℕ} → whole ≡ c ∷ after → is_word_character c ≡ false → IsNoWord whole
no_word_at e h = subst (λ t. IsNoWord t) (sym e) h

pub no_word_none : {whole : List ℕ} → whole ≡ [] → IsNoWord whole
no_word_none e = subst (λ t. IsNoWord t) (sym e) tt

-- how long the front is
front_length : (word rest : List ℕ) {text : List ℕ} → text ≡ word ++ rest → length text - length rest ≡ length word
front_length word rest e = omega (arith, ap length e, length-append word rest)

pub front_take : (word rest : List ℕ) {text : List ℕ} → text ≡ word ++ rest → take (length text - length rest) text ≡ word
front_take word rest {text} e =
    ap (λ n. take n text) (front_length word rest e) ∙ ap (λ t. take (length word) t) e ∙ take-append_seam word rest

pub split_take : {text rest : List ℕ} (s : SkipsWord text rest) → take (length text - length rest) text ≡ s.0
split_take {text} {rest} (word, all, e) = front_take word rest e

pub split_drop : {text rest : List ℕ} (s : SkipsWord text rest) → drop (length text - length rest) text ≡ rest
split_drop {text} {rest} (word, all, e) =
    ap (λ n. drop n text) (front_length word rest e) ∙ ap (λ t. drop (length word) t) e ∙ drop-append_seam word rest

white_join : (a b : List ℕ) → IsWhite a → IsWhite b → IsWhite (a ++ b)
white_join a b h k = list_all-append is_white a b ∙ and_from _ _ h k

pub words_white : {a b : List ℕ} → SkipsWhite a b → TakesWords a [] b
words_white {a} {b} (white, h, e) [] inside after same s =
    (white ++ inside, white_join white inside h s, e ∙ ap (λ t. white ++ t) same ∙ sym (append_assoc white inside after))
words_white {a} {b} (white, h, e) (word ∷ more) inside after same (front, rest, k, w, n, m, f) = (
  white ++ inside,
  (
    white ++ front,
    rest,
    white_join white front h k,
    w,
    n,
    m,
    ap (λ t. white ++ t) (f ∙ append_assoc front word rest) ∙ sym (append_assoc white front (word ++ rest))
        ∙ sym (append_assoc (white ++ front) word rest),
  ),
  e ∙ ap (λ t. white ++ t) same ∙ sym (append_assoc white inside after),
)

no_word_front : (tail after : List ℕ) {rest : List ℕ} → rest ≡ tail ++ after → IsNoWord rest → IsNoWord tail
no_word_front [] after e n = tt
no_word_front (x ∷ tail) after e n = subst (λ t. IsNoWord t) e n

pub words_word : {text rest : List ℕ} (word : List ℕ) → text ≡ word ++ rest → IsBracketWord word → IsNoWord rest → TakesWords text (word ∷ []) rest
words_word word e w n more inside after same s = (
  word ++ inside,
  ([], inside, refl, w, no_word_front inside after same n, s, refl),
  e ∙ ap (λ t. word ++ t) same ∙ sym (append_assoc word inside after),
)

pub words_then : {t r q : List ℕ} (vs ws : List (List ℕ)) → TakesWords t vs r → TakesWords r ws q → TakesWords t (vs ++ ws) q
words_then vs ws first second more inside after e s =
    let p = second more inside after e s in
    rw (append_assoc vs ws more) (first (ws ++ more) p.0 after p.2 p.1)

pub words_step : {t r q w : List ℕ} (vs new : List (List ℕ)) (word : List ℕ) → new ≡ vs ++ word ∷ [] → TakesWords t vs r → r ≡ word ++ q → word ≢ [] → IsTrue (list_all is_word_character word) → IsNoWord q → SkipsWhite q w → TakesWords t new w
words_step {t} {r} {q} {w} vs new word e first same some all ends white =
    subst (λ k. TakesWords t k w) (sym e)
    (words_then vs (word ∷ []) first
    (words_then (word ∷ []) [] (words_word word same (some, all) ends) (words_white white)))

bracket_blank : IsBlank []
unfolding is_blank
bracket_blank = refl

-- a token that the text begins with
pub take_token : {text : List ℕ} (rest : List ℕ) (token : Token) (mine : List ℕ) → SpellsToken token mine → text ≡ mine ++ rest → Takes text (token ∷ []) rest
take_token {text} rest token mine s e more tail after same k = (
  mine ++ tail,
  ([], mine, tail, bracket_blank, s, k, refl),
  e ∙ ap (λ t. mine ++ t) same ∙ sym (append_assoc mine tail after),
)

pub take_words : {text inside rest after : List ℕ} (words : List (List ℕ)) → text ≡ 91 ∷ inside → TakesWords inside words rest → rest ≡ 93 ∷ after → Takes text (bracket words ∷ []) after
take_words {text} {inside} {rest} {after} words opened taken closed =
    let p = taken [] [] rest refl refl in
    let spelled : SpellsWords words p.0 = subst (λ k. SpellsWords k p.0) (append-nil words) p.1 in
    take_token after (bracket words) (91 ∷ p.0 ++ 93 ∷ []) (inl (p.0, spelled, refl))
    (opened ∙ ap (λ t. 91 ∷ t) (p.2 ∙ ap (λ t. p.0 ++ t) closed ∙ sym (append_assoc p.0 (93 ∷ []) after)))

range_text : (a b w l rest : List ℕ) → a ++ (b ++ 45 ∷ (w ++ (l ++ rest))) ≡ (a ++ b ++ 45 ∷ w ++ l) ++ rest
range_text a b w l rest = simp append_assoc

set_text : (a m last : List ℕ) → 91 ∷ (a ++ (m ++ 93 ∷ last)) ≡ (91 ∷ a ++ m ++ 93 ∷ []) ++ last
set_text a m last = simp append_assoc

pub take_set : {text inside rest after last : List ℕ} (word : List ℕ) (stated : List SetPart) (members : List ℕ) → text ≡ 91 ∷ inside → TakesWords inside (word ∷ []) rest → IsSet stated → SpellsParts stated members → rest ≡ members ++ after → after ≡ 93 ∷ last → Takes text (set_bracket word stated ∷ []) last
take_set {text} {inside} {rest} {after} {last} word stated members opened taken whole s e closed =
    let p = taken [] [] rest refl refl in
    take_token last (set_bracket word stated) (91 ∷ p.0 ++ members ++ 93 ∷ []) (p.0, members, p.1, whole, s, refl)
    (opened ∙ ap (λ t. 91 ∷ t) (p.2 ∙ ap (λ t. p.0 ++ t) (e ∙ ap (λ t. members ++ t) closed)) ∙ set_text p.0 members last)

-- the ranges of a set say what it has
pub set_is : (stated : List SetPart) (ranges : List CharacterRange) → IsSetOf stated ranges → IsSet stated
set_is stated ranges of = (have_character ranges 0, of 0 refl)

no_escape : {d : ℕ} → SpellsEscape d [] → ⊥
no_escape (braced digits some few w e) = cc

escape_no_property : (letter : ℕ) {d : ℕ} (escape : List ℕ) {text other : List ℕ} (rest : List ℕ) → SpellsEscape d escape → text ≡ letter ∷ other → text ≡ escape ++ rest → letter ≢ 112 → letter ≢ 80 → IsNoProperty escape
escape_no_property letter [] rest s e f a b = no_escape s
escape_no_property letter (k ∷ escape) {text} {other} rest s e f a b =
    let same : letter ∷ other ≡ k ∷ (escape ++ rest) = sym e ∙ f in
    (λ h. a (head_of same ∙ h), λ h. b (head_of same ∙ h))

pub member_escape : {k d letter : ℕ} {text after other rest : List ℕ} → text ≡ k ∷ after → k ≡ 92 → after ≡ letter ∷ other → letter ≢ 112 → letter ≢ 80 → TakesEscape after d rest → TakesMember text d rest
member_escape {k} {d} {letter} {text} {after} {other} {rest} e n begins a b (escape, s, f) = (
  92 ∷ escape,
  inr (escape, s, escape_no_property letter escape rest s begins f a b, refl),
  e ∙ ap (λ i. i ∷ after) n ∙ ap (λ t. 92 ∷ t) f,
)

pub member_plain : {k : ℕ} {text after : List ℕ} → text ≡ k ∷ after → is_member k ≡ true → TakesMember text k after
member_plain {k} e h = (k ∷ [], inl (h, refl), e)

pub range_single : {c : ℕ} {text rest : List ℕ} (range : CharacterRange) → range.first ≡ c → range.last ≡ c → TakesMember text c rest → TakesRange text range rest
range_single range f l (mine, s, e) = (mine, inl (f ∙ sym l, subst (λ k. SpellsCharacter k mine) (sym f) s), e)

pub range_pair : {c d : ℕ} {text after dash dashed behind rest : List ℕ} (range : CharacterRange) → range.first ≡ c → range.last ≡ d → c ≤ d → TakesMember text c after → SkipsWhite after dash → dash ≡ 45 ∷ dashed → SkipsWhite dashed behind → TakesMember behind d rest → TakesRange text range rest
range_pair {c} {d} {text} {after} {dash} {dashed} {behind} {rest} range f l le (first, s, e) (before, h, g) at (white, k, i) (last, t, j) = (
  first ++ before ++ 45 ∷ white ++ last,
  inr (
    first,
    before,
    white,
    last,
    subst (λ k. SpellsCharacter k first) (sym f) s,
    h,
    k,
    subst (λ k. SpellsCharacter k last) (sym l) t,
    omega arith,
    refl,
  ),
  e ∙ ap (λ t. first ++ t) (g ∙ ap (λ t. before ++ t) (at ∙ ap (λ t. 45 ∷ t) (i ∙ ap (λ t. white ++ t) j)))
      ∙ range_text first before white last rest,
)

-- ---- properties

pub others_more : (sign : ℕ) {c : ℕ} {after r whole : List ℕ} → whole ≡ c ∷ after → not (c == sign) ≡ true → SkipsOthers sign after r → SkipsOthers sign whole r
others_more sign {c} e h (before, all, same) = (c ∷ before, and_from _ _ h all, e ∙ ap (λ t. c ∷ t) same)

pub others_none : (sign : ℕ) {text rest : List ℕ} → SkipsOthers sign text rest → EndsAtSign sign rest → ((r : List ℕ) → rest ≢ sign ∷ r) → HasNo sign text
others_none sign {text} {rest = []} (before, all, e) h n = subst (HasNo sign) (sym (e ∙ append-nil before)) all
others_none sign {text} {rest = c ∷ rest} (before, all, e) h n = absurd (n rest (ap (λ k. k ∷ rest) h))

pub others_body : (sign : ℕ) {text rest after : List ℕ} (s : SkipsOthers sign text rest) → rest ≡ sign ∷ after → TakesBody sign text (take (length text - length rest) text) after
others_body sign {text} {rest} {after} (before, all, e) f =
    let front = front_take before rest e in
    (subst (HasNo sign) (sym front) all, e ∙ ap (λ t. before ++ t) f ∙ ap (λ t. t ++ sign ∷ after) (sym front))

not_not : (b : Bool) → not (not b) ≡ b
not_not true = refl
not_not false = refl

pub other_twice : (property : CharacterProperty) → other_property (other_property property) ≡ property
other_twice property = ap (λ b. record { set = property.set; is_complement = b }) (not_not property.is_complement)

posix_whole : (body after : List ℕ) → 91 ∷ 58 ∷ (body ++ 58 ∷ 93 ∷ after) ≡ (91 ∷ 58 ∷ body ++ 58 ∷ 93 ∷ []) ++ after
posix_whole body after = simp append_assoc

perl_whole : (k : ℕ) (body after : List ℕ) → 92 ∷ k ∷ 123 ∷ (body ++ 125 ∷ after) ≡ (92 ∷ k ∷ 123 ∷ body ++ 125 ∷ []) ++ after
perl_whole k body after = simp append_assoc

pub take_posix : {text inside rest after body : List ℕ} (property : CharacterProperty) → text ≡ 91 ∷ 58 ∷ inside → TakesBody 58 inside body rest → rest ≡ 93 ∷ after → NamesProperty property body → TakesProperty text property after
take_posix {text} {inside} {rest} {after} {body} property opened (none, e) closed named = (
  91 ∷ 58 ∷ body ++ 58 ∷ 93 ∷ [],
  (body, inl (none, named, refl)),
  opened ∙ ap (λ t. 91 ∷ 58 ∷ t) (e ∙ ap (λ t. body ++ 58 ∷ t) closed) ∙ posix_whole body after,
)

pub take_perl : {text inside after body : List ℕ} (property : CharacterProperty) → text ≡ 92 ∷ 112 ∷ 123 ∷ inside → TakesBody 125 inside body after → NamesProperty property body → TakesProperty text property after
take_perl {text} {inside} {after} {body} property opened (none, e) named = (
  92 ∷ 112 ∷ 123 ∷ body ++ 125 ∷ [],
  (body, inr (inl (none, named, refl))),
  opened ∙ ap (λ t. 92 ∷ 112 ∷ 123 ∷ t) e ∙ perl_whole 112 body after,
)

pub take_other_perl : {text inside after body : List ℕ} (property : CharacterProperty) → text ≡ 92 ∷ 80 ∷ 123 ∷ inside → TakesBody 125 inside body after → NamesProperty (other_property property) body → TakesProperty text property after
take_other_perl {text} {inside} {after} {body} property opened (none, e) named = (
  92 ∷ 80 ∷ 123 ∷ body ++ 125 ∷ [],
  (body, inr (inr (none, named, refl))),
  opened ∙ ap (λ t. 92 ∷ 80 ∷ 123 ∷ t) e ∙ perl_whole 80 body after,
)

-- ---- parts of a set

pub parts_none : (text : List ℕ) → TakesParts text [] text
parts_none text more inside after e s = (more, inside, s, e, λ c k. refl)

part_text : (a w i after : List ℕ) → a ++ (w ++ (i ++ after)) ≡ (a ++ w ++ i) ++ after
part_text a w i after = simp append_assoc

abbrev then_has : ℕ → SetStep → List SetPart → Option Bool
then_has c step more = elim step [ goes_on next ↦ parts_have c next more | is_over has ↦ if_last has more | fails ↦ None ]

-- one more part, and the white space behind it
pub parts_step : {text rest behind next : List ℕ} (old new : List OpenSet) (part : SetPart) → TakesParts text old rest → TakesPart rest part behind → SkipsWhite behind next → LeadsTo part old new taken_parts.GoesOn → TakesParts text new next
parts_step {text} {rest} {behind} {next} old new part taken (mine, s, e) (white, w, f) leads more inside after same spelled =
    let p = taken (part ∷ more) (mine ++ white ++ inside) after
    (e ∙ ap (λ t. mine ++ t) (f ∙ ap (λ t. white ++ t) same) ∙ part_text mine white inside after)
    (mine, white, inside, s, w, spelled, refl) in
    (p.0, p.1, p.2, p.3, λ c k. p.4 c k ∙ ap (λ t. then_has c t more) (leads c k))

pub parts_end : {text rest behind next : List ℕ} (old new : List OpenSet) (part : SetPart) (ranges : Vec CharacterRange Global) → TakesParts text old rest → TakesPart rest part behind → SkipsWhite behind next → LeadsTo part old new (taken_parts.Ends ranges) → TakesSet text ranges.items next
parts_end {text} {rest} {behind} {next} old new part ranges taken (mine, s, e) (white, w, f) leads =
    let p = taken (part ∷ []) (mine ++ white ++ []) next
    (e ∙ ap (λ t. mine ++ t) f ∙ part_text mine white [] next) (mine, white, [], s, w, refl, refl) in
    (p.0, p.1, λ c k. p.4 c k ∙ ap (λ t. then_has c t []) (leads c k), p.2, p.3)

-- what a word and a set in brackets say
pub take_stated : {text after : List ℕ} (s : Statement) (word : Bor (List ℕ)) (ranges : Vec CharacterRange Global) → TakesBracket text (brackets.Set word ranges) after → ((stated : List SetPart) → IsSetOf stated ranges.items → AreStatement s (set_bracket word.now stated ∷ [])) → TakesStatement text s after
take_stated {text} {after} s word ranges (token, (stated, of, e), taken) says =
    (set_bracket word.now stated ∷ [], says stated of, subst (λ t. Takes text (t ∷ []) after) e taken)
