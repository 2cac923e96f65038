-- A text spells the characters of a string in one way only.
use Rattle.std.proofs.Common.{ℕ, Bool, true, false, not, ◌||◌, ◌≡◌, ◌≢◌, ◌<◌, List, [], ◌∷◌, ◌++◌, length, ap, ◌∙◌, sym, refl, subst, append_assoc, arith}
use Rattle.std.specs.List.{AllByRecursion}
use Rattle.std.specs.Char.{digit_value}
use Rattle.icu_rule_parser.specs.RuleCharacters.{is_plain, is_white, is_syntax}
use Rattle.icu_rule_parser.specs.RuleStrings.{hex_number, WritesInHex, SpellsEscape, itself, four, eight, two, braced, IsNoQuote, SpellsCharacters, ends, plain, quoted, apostrophe, escaped, opens, closes}

-- what no string goes on with
abbrev pub EndsString : List ℕ → Type 0
EndsString [] = Unit {0}
EndsString (c ∷ rest) = (is_plain c ≡ false) × (c ≢ 39) × (c ≢ 92)

-- the text is characters of a string, and the rest
abbrev pub GoesOn : Bool → List ℕ → List ℕ → List ℕ → Type 0
GoesOn within cs text rest = (mine : List ℕ) × SpellsCharacters within cs mine × (text ≡ mine ++ rest)

pub head_same : {x y : ℕ} {xs ys : List ℕ} → x ∷ xs ≡ y ∷ ys → x ≡ y
head_same e = cc

pub tail_same : {x y : ℕ} {xs ys : List ℕ} → x ∷ xs ≡ y ∷ ys → xs ≡ ys
tail_same e = cc

-- lists that are as long and begin a list are the same
pub front_once : (us bs : List ℕ) {xs ys : List ℕ} → length us ≡ length bs → us ++ xs ≡ bs ++ ys → (us ≡ bs) × (xs ≡ ys)
front_once [] [] n e = (refl, e)
front_once [] (b ∷ bs) n e = absurd (omega arith)
front_once (a ∷ us) [] n e = absurd (omega arith)
front_once (a ∷ us) (b ∷ bs) n e =
    let p = front_once us bs (omega arith) (tail_same e) in (
      ap (λ t. a ∷ t) p.0 ∙ ap (λ k. k ∷ bs) (head_same e),
      p.1,
    )

hex_once : {c d : ℕ} {us bs : List ℕ} → WritesInHex c us → WritesInHex d bs → us ≡ bs → c ≡ d
hex_once w v e = w.value ∙ ap (λ t. hex_number 0 t) e ∙ sym v.value

no_brace : {d : ℕ} → digit_value d < 16 → d ≡ 125 → ⊥
no_brace h e = let k : digit_value 125 < 16 = subst (λ i. digit_value i < 16) e h in absurd (omega arith)

-- digits before a closing brace
braced_once : (us bs : List ℕ) {xs ys : List ℕ} → AllByRecursion (λ d. digit_value d < 16) us → AllByRecursion (λ d. digit_value d < 16) bs → us ++ 125 ∷ xs ≡ bs ++ 125 ∷ ys → (us ≡ bs) × (xs ≡ ys)
braced_once [] [] h k e = (refl, tail_same e)
braced_once [] (b ∷ bs) h k e = absurd (no_brace k.0 (sym (head_same e)))
braced_once (a ∷ us) [] h k e = absurd (no_brace h.0 (head_same e))
braced_once (a ∷ us) (b ∷ bs) h k e =
    let p = braced_once us bs h.1 k.1 (tail_same e) in (
      ap (λ t. a ∷ t) p.0 ∙ ap (λ k. k ∷ bs) (head_same e),
      p.1,
    )

both : {c d : ℕ} {xs ys : List ℕ} {us bs : List ℕ} → WritesInHex c us → WritesInHex d bs → (us ≡ bs) × (xs ≡ ys) → (c ≡ d) × (xs ≡ ys)
both w v p = (hex_once w v p.0, p.1)

two_braced : {c : ℕ} (us bs xs ys : List ℕ) {f : List ℕ} → length us ≡ 2 → WritesInHex c us → f ≡ 120 ∷ 123 ∷ bs ++ 125 ∷ [] → (120 ∷ us) ++ xs ≡ f ++ ys → ⊥
two_braced [] bs xs ys n w s e = absurd (omega arith)
two_braced (a ∷ us) bs xs ys n w s e =
    let h = head_same (tail_same (e ∙ ap (λ t. t ++ ys) s)) in
    let k : digit_value 123 < 16 = subst (λ i. digit_value i < 16) h w.each.0 in absurd (omega arith)

-- an escape writes one character
pub escape_once : {c d : ℕ} {e f xs ys : List ℕ} → SpellsEscape c e → SpellsEscape d f → e ++ xs ≡ f ++ ys → (c ≡ d) × (xs ≡ ys)
escape_once (itself p q r) (itself s t u) e = (head_same e, tail_same e)
escape_once (itself p q r) (four n w) e = absurd (p (head_same e))
escape_once (itself p q r) (eight n w) e = absurd (q (head_same e))
escape_once (itself p q r) (two n w) e = absurd (r (head_same e))
escape_once {ys} (itself p q r) (braced bs m n w s) e = absurd (r (head_same (e ∙ ap (λ t. t ++ ys) s)))
escape_once (four n w) (itself p q r) e = absurd (p (sym (head_same e)))
escape_once (four {digits} n w) (four {digits = others} m v) e = both w v (front_once digits others (n ∙ sym m) (tail_same e))
escape_once (four n w) (eight m v) e = let h = head_same e in absurd (omega (arith, h))
escape_once (four n w) (two m v) e = let h = head_same e in absurd (omega (arith, h))
escape_once {ys} (four n w) (braced bs m k v s) e = let h = head_same (e ∙ ap (λ t. t ++ ys) s) in absurd (omega (arith, h))
escape_once (eight n w) (itself p q r) e = absurd (q (sym (head_same e)))
escape_once (eight n w) (four m v) e = let h = head_same e in absurd (omega (arith, h))
escape_once (eight {digits} n w) (eight {digits = others} m v) e = both w v (front_once digits others (n ∙ sym m) (tail_same e))
escape_once (eight n w) (two m v) e = let h = head_same e in absurd (omega (arith, h))
escape_once {ys} (eight n w) (braced bs m k v s) e = let h = head_same (e ∙ ap (λ t. t ++ ys) s) in absurd (omega (arith, h))
escape_once (two n w) (itself p q r) e = absurd (r (sym (head_same e)))
escape_once (two n w) (four m v) e = let h = head_same e in absurd (omega (arith, h))
escape_once (two n w) (eight m v) e = let h = head_same e in absurd (omega (arith, h))
escape_once (two {digits} n w) (two {digits = others} m v) e = both w v (front_once digits others (n ∙ sym m) (tail_same e))
escape_once {xs} {ys} (two {digits} n w) (braced bs m k v s) e = absurd (two_braced digits bs xs ys n w s e)
escape_once {xs} (braced us m n w s) (itself p q r) e = absurd (r (sym (head_same (ap (λ t. t ++ xs) (sym s) ∙ e))))
escape_once {xs} (braced us m n w s) (four k v) e = let h = head_same (ap (λ t. t ++ xs) (sym s) ∙ e) in absurd (omega (arith, h))
escape_once {xs} (braced us m n w s) (eight k v) e = let h = head_same (ap (λ t. t ++ xs) (sym s) ∙ e) in absurd (omega (arith, h))
escape_once {xs} {ys} (braced us m n w s) (two {digits} k v) e = absurd (two_braced digits us ys xs k v s (sym e))
escape_once {xs} {ys} (braced us m n w s) (braced bs k l v t) e =
    let whole : (120 ∷ 123 ∷ us ++ 125 ∷ []) ++ xs ≡ (120 ∷ 123 ∷ bs ++ 125 ∷ []) ++ ys =
    ap (λ u. u ++ xs) (sym s) ∙ e ∙ ap (λ u. u ++ ys) t in
    let apart : 120 ∷ 123 ∷ (us ++ 125 ∷ xs) ≡ 120 ∷ 123 ∷ (bs ++ 125 ∷ ys) =
    sym (append_assoc (120 ∷ 123 ∷ us) (125 ∷ []) xs) ∙ whole ∙ append_assoc (120 ∷ 123 ∷ bs) (125 ∷ []) ys in
    both w v (braced_once us bs w.each v.each (tail_same (tail_same apart)))

-- nothing that a string goes on with stands here
stops_at : {k : ℕ} {after r : List ℕ} → k ∷ after ≡ r → EndsString r → (is_plain k ≡ false) × (k ≢ 39) × (k ≢ 92)
stops_at {k} {after} e n = let h : EndsString (k ∷ after) = subst EndsString (sym e) n in h

pub plain_mark : is_plain 39 ≡ false
unfolding is_plain is_white is_syntax
plain_mark = refl

pub plain_backslash : is_plain 92 ≡ false
unfolding is_plain is_white is_syntax
plain_backslash = refl

pub not_both : {b : Bool} → b ≡ true → b ≡ false → ⊥
not_both e f = cc

-- a character that stands for itself
pub go_one : {within : Bool} {k : ℕ} {after r cs : List ℕ} (mine : List ℕ) → k ≢ 39 → k ≢ 92 → (within || is_plain k) ≡ true → EndsString r → SpellsCharacters within cs mine → k ∷ after ≡ mine ++ r → (ds : List ℕ) × (cs ≡ k ∷ ds) × GoesOn within ds after r
go_one mine a b p n ends e = absurd (not_both p (stops_at e n).0)
go_one mine a b p n (plain {cs} {text} h s) e = (cs, ap (λ i. i ∷ cs) (sym (head_same e)), (text, s, tail_same e))
go_one mine a b p n (quoted {cs} {text} h q s) e = (cs, ap (λ i. i ∷ cs) (sym (head_same e)), (text, s, tail_same e))
go_one mine a b p n (apostrophe s) e = absurd (a (head_same e))
go_one {r} mine a b p n (escaped escape x s w) e = absurd (b (head_same (e ∙ ap (λ t. t ++ r) w)))
go_one mine a b p n (opens m s) e = absurd (a (head_same e))
go_one mine a b p n (closes m s) e = absurd (a (head_same e))

-- nothing more of a string, outside quotes
pub go_stop : {k : ℕ} {after r cs : List ℕ} (mine : List ℕ) → is_plain k ≡ false → k ≢ 39 → k ≢ 92 → SpellsCharacters false cs mine → k ∷ after ≡ mine ++ r → (cs ≡ []) × (k ∷ after ≡ r)
go_stop mine p a b ends e = (refl, e)
go_stop mine p a b (plain {c} h s) e = absurd (not_both (subst (λ i. is_plain i ≡ true) (sym (head_same e)) h) p)
go_stop mine p a b (apostrophe s) e = absurd (a (head_same e))
go_stop {r} mine p a b (escaped escape x s w) e = absurd (b (head_same (e ∙ ap (λ t. t ++ r) w)))
go_stop mine p a b (opens m s) e = absurd (a (head_same e))

no_quote_again : (t r : List ℕ) {after : List ℕ} → IsNoQuote t → EndsString r → t ++ r ≡ 39 ∷ after → ⊥
no_quote_again [] r n stops e = let h = stops_at (sym e) stops in h.1 refl
no_quote_again (x ∷ t) r n stops e = n (head_same e)

-- two apostrophes
pub go_apostrophe : {within : Bool} {after r cs : List ℕ} (mine : List ℕ) → EndsString r → SpellsCharacters within cs mine → 39 ∷ 39 ∷ after ≡ mine ++ r → (ds : List ℕ) × (cs ≡ 39 ∷ ds) × GoesOn within ds after r
go_apostrophe mine n ends e = let h = stops_at e n in absurd (h.1 refl)
go_apostrophe mine n (plain h s) e = absurd (not_both (subst (λ i. is_plain i ≡ true) (sym (head_same e)) h) plain_mark)
go_apostrophe mine n (quoted h q s) e = absurd (h (sym (head_same e)))
go_apostrophe mine n (apostrophe {cs} {text} s) e = (cs, refl, (text, s, tail_same (tail_same e)))
go_apostrophe {r} mine n (escaped escape x s w) e = let h = head_same (e ∙ ap (λ t. t ++ r) w) in absurd (omega (arith, h))
go_apostrophe {r} mine n (opens {text} m s) e = absurd (no_quote_again text r m n (sym (tail_same e)))
go_apostrophe {r} mine n (closes {text} m s) e = absurd (no_quote_again text r m n (sym (tail_same e)))

front_no_quote : {after : List ℕ} (t r : List ℕ) → IsNoQuote after → after ≡ 39 ∷ (t ++ r) → ⊥
front_no_quote {after} t r n e = let h : IsNoQuote (39 ∷ (t ++ r)) = subst IsNoQuote e n in h refl

-- a quote
pub go_quote : {within : Bool} {after r cs : List ℕ} (mine : List ℕ) → IsNoQuote after → EndsString r → SpellsCharacters within cs mine → 39 ∷ after ≡ mine ++ r → GoesOn (not within) cs after r
go_quote mine q n ends e = let h = stops_at e n in absurd (h.1 refl)
go_quote mine q n (plain h s) e = absurd (not_both (subst (λ i. is_plain i ≡ true) (sym (head_same e)) h) plain_mark)
go_quote mine q n (quoted h k s) e = absurd (h (sym (head_same e)))
go_quote {r} mine q n (apostrophe {text} s) e = absurd (front_no_quote text r q (tail_same e))
go_quote {r} mine q n (escaped escape x s w) e = let h = head_same (e ∙ ap (λ t. t ++ r) w) in absurd (omega (arith, h))
go_quote mine q n (opens {text} m s) e = (text, s, tail_same e)
go_quote mine q n (closes {text} m s) e = (text, s, tail_same e)

-- an escape
pub go_escape : {within : Bool} {d : ℕ} {mark behind after r cs : List ℕ} (mine : List ℕ) → SpellsEscape d mark → behind ≡ mark ++ after → EndsString r → SpellsCharacters within cs mine → 92 ∷ behind ≡ mine ++ r → (ds : List ℕ) × (cs ≡ d ∷ ds) × GoesOn within ds after r
go_escape mine x same n ends e = let h = stops_at e n in absurd (h.2 refl)
go_escape mine x same n (plain h s) e = absurd (not_both (subst (λ i. is_plain i ≡ true) (sym (head_same e)) h) plain_backslash)
go_escape mine x same n (quoted h k s) e = absurd (k (sym (head_same e)))
go_escape mine x same n (apostrophe s) e = let h = head_same e in absurd (omega (arith, h))
go_escape {after} {r} mine x same n (escaped escape {cs} {text} y s w) e =
    let p = escape_once x y (sym same ∙ tail_same (e ∙ ap (λ t. t ++ r) w) ∙ append_assoc escape text r) in
    (cs, ap (λ i. i ∷ cs) (sym p.0), (text, s, p.1))
go_escape mine x same n (opens m s) e = let h = head_same e in absurd (omega (arith, h))
go_escape mine x same n (closes m s) e = let h = head_same e in absurd (omega (arith, h))

no_quote_join : (t r : List ℕ) → IsNoQuote t → EndsString r → IsNoQuote (t ++ r)
no_quote_join [] [] n stops = tt
no_quote_join [] (x ∷ r) n stops = stops.1
no_quote_join (x ∷ t) r n stops = n

plain_no_quote : {c : ℕ} → is_plain c ≡ true → c ≢ 39
plain_no_quote h e = not_both (subst (λ i. is_plain i ≡ true) e h) plain_mark

plain_no_backslash : {c : ℕ} → is_plain c ≡ true → c ≢ 92
plain_no_backslash h e = not_both (subst (λ i. is_plain i ≡ true) e h) plain_backslash

nothing_left : (mine : List ℕ) {cs r : List ℕ} → SpellsCharacters false cs mine → [] ≡ mine ++ r → (cs ≡ []) × ([] ≡ r)
nothing_left mine ends e = (refl, e)
nothing_left mine (plain h s) e = cc
nothing_left mine (apostrophe s) e = cc
nothing_left mine {r} (escaped escape x s w) e = let h = e ∙ ap (λ t. t ++ r) w in cc
nothing_left mine (opens m s) e = cc

-- one character more of both
one_more : {c : ℕ} {us ds bs xs ys : List ℕ} → bs ≡ c ∷ ds → (us ≡ ds) × (xs ≡ ys) → (c ∷ us ≡ bs) × (xs ≡ ys)
one_more {c} e p = (ap (λ t. c ∷ t) p.0 ∙ sym e, p.1)

-- Two strings that are spelled by what a text begins with are the same.
pub characters_once : {within : Bool} {us bs mine xs ys : List ℕ} (others : List ℕ) → SpellsCharacters within us mine → SpellsCharacters within bs others → EndsString xs → EndsString ys → mine ++ xs ≡ others ++ ys → (us ≡ bs) × (xs ≡ ys)
characters_once {xs = []} others ends s m n e = let p = nothing_left others s e in (sym p.0, p.1)
characters_once {xs = k ∷ xs} others ends s m n e =
    let p = go_stop others m.0 m.1 m.2 s e in (sym p.0, p.1)
characters_once others (plain h r) s m n e =
    let p = go_one others (plain_no_quote h) (plain_no_backslash h) h n s e in
    one_more p.1 (characters_once p.2.0 r p.2.1 m n p.2.2)
characters_once others (quoted a b r) s m n e =
    let p = go_one others a b refl n s e in
    one_more p.1 (characters_once p.2.0 r p.2.1 m n p.2.2)
characters_once others (apostrophe r) s m n e =
    let p = go_apostrophe others n s e in
    one_more p.1 (characters_once p.2.0 r p.2.1 m n p.2.2)
characters_once {xs} others (escaped escape {text} x r w) s m n e =
    let p = go_escape others x refl n s (sym (append_assoc (92 ∷ escape) text xs) ∙ ap (λ t. t ++ xs) (sym w) ∙ e) in
    one_more p.1 (characters_once p.2.0 r p.2.1 m n p.2.2)
characters_once {xs} others (opens {text} q r) s m n e =
    let p = go_quote others (no_quote_join text xs q m) n s e in characters_once p.0 r p.1 m n p.2
characters_once {xs} others (closes {text} q r) s m n e =
    let p = go_quote others (no_quote_join text xs q m) n s e in characters_once p.0 r p.1 m n p.2
