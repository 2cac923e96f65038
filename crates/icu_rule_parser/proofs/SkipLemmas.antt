-- White space and comments, taken a character at a time.
use Rattle.std.proofs.Common.{ℕ, true, false, not, nat_eq, List, [], ◌∷◌, ◌++◌, ◌≡◌, inl, inr, refl, ap, ◌∙◌, sym, subst, append_assoc}
use Rattle.std.specs.List.{list_all}
use Rattle.std.proofs.lemmas.Bool.{and_from, and_parts}
use Rattle.std.proofs.lemmas.List.{append-nil}
use Rattle.icu_options.specs.declared.settings.Strength.TheVariants.{Primary, Secondary, Tertiary, Quaternary, Identical}
use Rattle.icu_rule_parser.specs.RuleCharacters.{is_white, is_line_end, is_blank, IsBlank}
use Rattle.icu_rule_parser.specs.RuleStrings.{SpellsCharacters, ends, plain, apostrophe, escaped, opens}
use Rattle.icu_rule_parser.specs.Tokens.{Token, reset_sign, relation_sign, prefix_sign, extension_sign, range_sign, vowel_sign, string, bracket, set_bracket, SpellsToken, SpellsTokens}
use Rattle.icu_rule_parser.specs.TakenText.{SkipsWhite, SkipsLine, Takes}

pub white_more : {c : ℕ} {after r whole : List ℕ} → whole ≡ c ∷ after → is_white c ≡ true → SkipsWhite after r → SkipsWhite whole r
white_more {c} e h (white, all, same) = (c ∷ white, and_from _ _ h all, e ∙ ap (λ t. c ∷ t) same)

pub line_more : {c : ℕ} {after r whole : List ℕ} → whole ≡ c ∷ after → is_line_end c ≡ false → SkipsLine after r → SkipsLine whole r
line_more {c} e h (inl (line, end, all, at_end, same)) =
    inl (c ∷ line, end, and_from _ _ (ap not h) all, at_end, e ∙ ap (λ t. c ∷ t) same)
line_more {c} e h (inr (all, same)) = inr (rw e (and_from _ _ (ap not h) all), same)

pub line_ends : {c : ℕ} {after whole : List ℕ} → whole ≡ c ∷ after → is_line_end c ≡ true → SkipsLine whole after
line_ends {c} e h = inl ([], c, refl, h, e)

pub line_none : {whole r : List ℕ} → whole ≡ [] → r ≡ [] → SkipsLine whole r
line_none e h = inr (rw e refl, h)

-- the middle of nothing is nothing
pub nil_parts : (blank mine rest : List ℕ) → [] ≡ (blank ++ mine) ++ rest → mine ≡ []
nil_parts [] [] rest e = refl
nil_parts [] (x ∷ mine) rest e = cc
nil_parts (b ∷ blank) mine rest e = cc

no_characters : (cs text : List ℕ) → text ≡ [] → SpellsCharacters false cs text → cs ≡ []
no_characters cs text e ends = refl
no_characters cs text e (plain h s) = cc
no_characters cs text e (apostrophe s) = cc
no_characters cs text e (escaped escape x s same) = cc
no_characters cs text e (opens n s) = cc

-- no token is spelled by nothing
pub token_nonempty : (token : Token) (text : List ℕ) → text ≡ [] → SpellsToken token text → ⊥
token_nonempty reset_sign text e s = cc
token_nonempty (relation_sign Primary false) text e (inl s) = cc
token_nonempty (relation_sign Secondary false) text e (inl s) = cc
token_nonempty (relation_sign Tertiary false) text e (inl s) = cc
token_nonempty (relation_sign Quaternary false) text e (inl s) = cc
token_nonempty (relation_sign Identical false) text e (inl s) = cc
token_nonempty (relation_sign Primary false) text e (inr s) = s
token_nonempty (relation_sign Secondary false) text e (inr s) = cc
token_nonempty (relation_sign Tertiary false) text e (inr s) = cc
token_nonempty (relation_sign Quaternary false) text e (inr s) = s
token_nonempty (relation_sign Identical false) text e (inr s) = s
token_nonempty (relation_sign Primary true) text e s = cc
token_nonempty (relation_sign Secondary true) text e s = cc
token_nonempty (relation_sign Tertiary true) text e s = cc
token_nonempty (relation_sign Quaternary true) text e s = cc
token_nonempty (relation_sign Identical true) text e s = cc
token_nonempty prefix_sign text e s = cc
token_nonempty extension_sign text e s = cc
token_nonempty range_sign text e s = cc
token_nonempty vowel_sign text e s = cc
token_nonempty (string cs) text e (some, spelled, allowed) = some (no_characters cs text e spelled)
token_nonempty (bracket words) text e (inl (inside, each, same)) = let h : [] ≡ 91 ∷ (inside ++ 93 ∷ []) = sym e ∙ same in cc
token_nonempty (bracket words) text e (inr (same, named)) = cc
token_nonempty (set_bracket word set) text e (named, inside, n, c, s, same) = let h : [] ≡ 91 ∷ (named ++ inside ++ 93 ∷ []) = sym e ∙ same in cc

blank_white : (c : ℕ) (b : List ℕ) → nat_eq c 35 ≡ false → is_white c ≡ true → IsBlank b → IsBlank (c ∷ b)
unfolding is_blank
blank_white c b n h k = rw n (and_from _ _ h k)

comment_end : (line : List ℕ) (end : ℕ) (b : List ℕ) → list_all (λ c. not (is_line_end c)) line ≡ true → is_line_end end ≡ true → IsBlank b → is_blank true (line ++ end ∷ b) ≡ true
unfolding is_blank
comment_end [] end b all h k = subst (λ v. is_blank (not v) b ≡ true) (sym h) k
comment_end (c ∷ line) end b all h k =
    let parts = and_parts (not (is_line_end c)) (list_all (λ c. not (is_line_end c)) line) all in
    subst (λ v. is_blank v (line ++ end ∷ b) ≡ true) (sym parts.0) (comment_end line end b parts.1 h k)

blank_none : IsBlank []
unfolding is_blank
blank_none = refl

comment_blank : (line : List ℕ) (end : ℕ) (b : List ℕ) → list_all (λ c. not (is_line_end c)) line ≡ true → is_line_end end ≡ true → IsBlank b → IsBlank (35 ∷ (line ++ end ∷ b))
unfolding is_blank
comment_blank line end b all h k = comment_end line end b all h k

comment_whole : {c : ℕ} {after whole : List ℕ} (r line : List ℕ) (end : ℕ) → whole ≡ c ∷ after → c ≡ 35 → after ≡ line ++ end ∷ r → whole ≡ 35 ∷ (line ++ end ∷ r)
comment_whole {c} {after} r line end e n same = e ∙ ap (λ k. k ∷ after) n ∙ ap (λ t. 35 ∷ t) same

comment_join : (line : List ℕ) (end : ℕ) (blank x : List ℕ) → 35 ∷ (line ++ end ∷ (blank ++ x)) ≡ (35 ∷ (line ++ end ∷ blank)) ++ x
comment_join line end blank x = ap (λ t. 35 ∷ t) (sym (append_assoc line (end ∷ blank) x))

-- white space before what is spelled
pub tokens_white : {c : ℕ} {after whole : List ℕ} → whole ≡ c ∷ after → nat_eq c 35 ≡ false → is_white c ≡ true → (more : List Token) → SpellsTokens more after → SpellsTokens more whole
tokens_white {c} e n h [] (inl b) = inl (subst (λ t. IsBlank t) (sym e) (blank_white c _ n h b))
tokens_white {c} e n h [] (inr (blank, comment, b, o, same)) =
    inr (c ∷ blank, comment, blank_white c blank n h b, o, e ∙ ap (λ t. c ∷ t) same)
tokens_white {c} e n h (token ∷ more) (blank, mine, rest, b, s, m, same) =
    (c ∷ blank, mine, rest, blank_white c blank n h b, s, m, e ∙ ap (λ t. c ∷ t) same)

-- a comment before what is spelled
pub tokens_comment : {c : ℕ} {after r whole : List ℕ} → whole ≡ c ∷ after → c ≡ 35 → SkipsLine after r → (more : List Token) → SpellsTokens more r → SpellsTokens more whole
tokens_comment e n (inl (line, end, all, h, same)) [] (inl b) =
    inl (subst (λ t. IsBlank t) (sym (comment_whole _ line end e n same)) (comment_blank line end _ all h b))
tokens_comment e n (inl (line, end, all, h, same)) [] (inr (blank, comment, b, o, same')) =
    inr (
      35 ∷ (line ++ end ∷ blank),
      comment,
      comment_blank line end blank all h b,
      o,
      comment_whole _ line end e n same ∙ ap (λ t. 35 ∷ (line ++ end ∷ t)) same' ∙ comment_join line end blank comment,
    )
tokens_comment e n (inl (line, end, all, h, same)) (token ∷ more) (blank, mine, rest, b, s, m, same') = (
  35 ∷ (line ++ end ∷ blank),
  mine,
  rest,
  comment_blank line end blank all h b,
  s,
  m,
  comment_whole _ line end e n same ∙ ap (λ t. 35 ∷ (line ++ end ∷ t)) (same' ∙ append_assoc blank mine rest)
      ∙ comment_join line end blank (mine ++ rest) ∙ sym (append_assoc (35 ∷ (line ++ end ∷ blank)) mine rest),
)
tokens_comment {c} {after} e n (inr (all, h)) [] s =
    inr ([], 35 ∷ after, blank_none, (after, refl, all), e ∙ ap (λ k. k ∷ after) n)
tokens_comment e n (inr (all, h)) (token ∷ more) (blank, mine, rest, b, s, m, same) =
    absurd (token_nonempty token mine (nil_parts blank mine rest (sym h ∙ same)) s)

-- ---- blanks, taken

pub takes_nothing : {text : List ℕ} → Takes text [] text
takes_nothing more tail after e s = (tail, s, e)

pub takes_then : {a b c : List ℕ} (ts us : List Token) → Takes a ts b → Takes b us c → Takes a (ts ++ us) c
takes_then ts us first second more tail after e s =
    let p = second more tail after e s in
    rw (append_assoc ts us more) (first (us ++ more) p.0 after p.2 p.1)

pub takes_white : {c : ℕ} {after whole : List ℕ} → whole ≡ c ∷ after → nat_eq c 35 ≡ false → is_white c ≡ true → Takes whole [] after
takes_white {c} e n h more tail left same s =
    let spelled : SpellsTokens more (c ∷ tail) = tokens_white refl n h more s in
    (c ∷ tail, spelled, e ∙ ap (λ t. c ∷ t) same)

nil_front : (tail left : List ℕ) → [] ≡ tail ++ left → (tail ≡ []) × (left ≡ [])
nil_front [] [] e = (refl, refl)
nil_front [] (x ∷ left) e = cc
nil_front (x ∷ tail) left e = cc

pub takes_comment : {c : ℕ} {after r whole : List ℕ} → whole ≡ c ∷ after → c ≡ 35 → SkipsLine after r → Takes whole [] r
takes_comment {c} {after} {r} {whole} e n (inl (line, end, all, h, same)) more tail left f s =
    let skips : SkipsLine (line ++ end ∷ tail) tail = inl (line, end, all, h, refl) in
    let spelled : SpellsTokens more (35 ∷ (line ++ end ∷ tail)) = tokens_comment refl refl skips more s in (
      35 ∷ (line ++ end ∷ tail),
      spelled,
      comment_whole r line end e n same ∙ ap (λ t. 35 ∷ (line ++ end ∷ t)) f ∙ comment_join line end tail left,
    )
takes_comment {c} {after} {r} {whole} e n (inr (all, h)) more tail left f s =
    let p = nil_front tail left (sym h ∙ f) in
    let skips : SkipsLine after tail = inr (all, p.0) in
    let spelled : SpellsTokens more whole = tokens_comment e n skips more s in
    (whole, spelled, sym (append-nil whole) ∙ ap (λ t. whole ++ t) (sym p.1))
