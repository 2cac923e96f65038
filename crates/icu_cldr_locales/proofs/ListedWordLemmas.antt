-- What is left of a list of words that is read word by word, and what its rows say.
use Rattle.std.proofs.Common.{◌≡◌, ℕ, ◌+◌, ◌<◌, ◌==◌, List, [], ◌∷◌, length, Bool, true, false, Option, Some, None, Bor, sym, ap, subst, ◌∙◌, arith}
use Rattle.std.specs.Prelude.{◌||◌, ◌&&◌, MatchOption, IfSome, bytes_eq, if◌then◌else◌}
use Rattle.std.specs.List.{list_any, position_or_len, before_first, after_first}
use Rattle.std.proofs.lemmas.List.Splits.{slice_split_first, slice_split_none}
use Rattle.std.proofs.lemmas.List.Sums.{fails_before_first}
use Rattle.icu_cldr_locales.specs.resolution.ListedWords.{words_of, value_in_rows}
use Rattle.icu_cldr_locales.specs.resolution.WordsLeft.{words_left, bytes_unread}

-- a text without a space is one word
pub words_where_none : (text : List ℕ) → position_or_len (λ b. b == 32) text ≡ length text → words_of text ≡ text ∷ []
words_where_none text none =
    slice_split_none (λ b. b == 32) text (λ k d below. fails_before_first (λ b. b == 32) text k d (omega (arith, below, none)))

-- a text with a space is the word before it, and the words behind it
pub words_where_some : (text word rest : List ℕ) → word ≡ before_first (λ b. b == 32) text → rest ≡ after_first (λ b. b == 32) text
    → position_or_len (λ b. b == 32) text < length text → words_of text ≡ word ∷ words_of rest
words_where_some text word rest front back inside =
    slice_split_first (λ b. b == 32) text 0 inside ∙ (ap (λ t. t ∷ words_of (after_first (λ b. b == 32) text)) (sym front) ∙ ap (λ t. word ∷ words_of t) (sym back))

-- the words that are left behind the first one
pub words_left_behind : (text word : List ℕ) (rest : Option (Bor (List ℕ)))
    → MatchOption rest (words_of text ≡ word ∷ []) (λ r. words_of text ≡ word ∷ words_of r.now) → words_of text ≡ word ∷ words_left rest
words_left_behind text word None h = h
words_left_behind text word (Some r) h = h

-- the bytes that are left become fewer
pub unread_shorter : (rest : Option (Bor (List ℕ))) (n : ℕ) → IfSome rest (λ r. length r.now < n) → bytes_unread rest < n + 1
unread_shorter None n h = omega arith
unread_shorter (Some r) n h = omega (arith, h)

-- no row is left where fewer than three words are
pub no_row_0 : (ws : List (List ℕ)) → ws ≡ [] → (f s : List ℕ) → value_in_rows f s ws ≡ None
unfolding value_in_rows
no_row_0 ws e f s = ap (value_in_rows f s) e

pub no_row_1 : (ws : List (List ℕ)) (a : List ℕ) (rest : List (List ℕ)) → ws ≡ a ∷ rest → rest ≡ [] → (f s : List ℕ) → value_in_rows f s ws ≡ None
unfolding value_in_rows
no_row_1 ws a rest e r f s = ap (value_in_rows f s) (e ∙ ap (λ t. a ∷ t) r)

pub no_row_2 : (ws : List (List ℕ)) (a b : List ℕ) (rest more : List (List ℕ)) → ws ≡ a ∷ rest → rest ≡ b ∷ more → more ≡ []
    → (f s : List ℕ) → value_in_rows f s ws ≡ None
unfolding value_in_rows
no_row_2 ws a b rest more e r m f s = ap (value_in_rows f s) (e ∙ (ap (λ t. a ∷ t) r ∙ ap (λ t. a ∷ b ∷ t) m))

-- the next row
pub row_of_words : (ws : List (List ℕ)) (a b v : List ℕ) (r1 r2 r3 : List (List ℕ)) → ws ≡ a ∷ r1 → r1 ≡ b ∷ r2 → r2 ≡ v ∷ r3 → ws ≡ a ∷ b ∷ v ∷ r3
row_of_words ws a b v r1 r2 r3 e f g = e ∙ (ap (λ t. a ∷ t) f ∙ ap (λ t. a ∷ b ∷ t) g)

-- what a list has, where its next row is the one that is looked for, and where it is another
pub value_here : (f s : List ℕ) (ws : List (List ℕ)) (a b v : List ℕ) (rest : List (List ℕ)) → ws ≡ a ∷ b ∷ v ∷ rest
    → bytes_eq a f && bytes_eq b s ≡ true → value_in_rows f s ws ≡ Some v
unfolding value_in_rows
value_here f s ws a b v rest e t =
    ap (value_in_rows f s) e ∙ ap (λ (c : Bool). if c then Some v else value_in_rows f s rest) t

pub value_further : (f s : List ℕ) (ws : List (List ℕ)) (a b v : List ℕ) (rest : List (List ℕ)) → ws ≡ a ∷ b ∷ v ∷ rest
    → bytes_eq a f && bytes_eq b s ≡ false → value_in_rows f s ws ≡ value_in_rows f s rest
unfolding value_in_rows
value_further f s ws a b v rest e t =
    ap (value_in_rows f s) e ∙ ap (λ (c : Bool). if c then Some v else value_in_rows f s rest) t

-- whether a word is among the words, where it is the next one, and where that is another
pub word_here : (w : List ℕ) (ws : List (List ℕ)) (a : List ℕ) (rest : List (List ℕ)) → ws ≡ a ∷ rest → bytes_eq a w ≡ true
    → list_any (λ x. bytes_eq x w) ws ≡ true
word_here w ws a rest e t = ap (list_any (λ x. bytes_eq x w)) e ∙ ap (λ (c : Bool). c || list_any (λ x. bytes_eq x w) rest) t

pub word_further : (w : List ℕ) (ws : List (List ℕ)) (a : List ℕ) (rest : List (List ℕ)) → ws ≡ a ∷ rest → bytes_eq a w ≡ false
    → list_any (λ x. bytes_eq x w) ws ≡ list_any (λ x. bytes_eq x w) rest
word_further w ws a rest e t = ap (list_any (λ x. bytes_eq x w)) e ∙ ap (λ (c : Bool). c || list_any (λ x. bytes_eq x w) rest) t

-- the words of what is left, and its bytes, where there is something left
pub word_left : (left rest : Option (Bor (List ℕ))) (text : Bor (List ℕ)) (word : List ℕ) → left ≡ Some text
    → MatchOption rest (words_of text.now ≡ word ∷ []) (λ r. words_of text.now ≡ word ∷ words_of r.now) → words_left left ≡ word ∷ words_left rest
word_left left rest text word is parts = ap words_left is ∙ words_left_behind text.now word rest parts

pub shorter_left : (left rest : Option (Bor (List ℕ))) (text : Bor (List ℕ)) → left ≡ Some text
    → IfSome rest (λ r. length r.now < length text.now) → bytes_unread rest < bytes_unread left
shorter_left left rest text is shorter =
    let P : Option (Bor (List ℕ)) → Type 0 = λ l. bytes_unread rest < bytes_unread l in
    subst P (sym is) (unread_shorter rest (length text.now) shorter)

-- a fact about an option that is none
pub none_matches : {A : Type 0} (r : Option A) (P : Type 0) (Q : A → Type 0) → r ≡ None → P → MatchOption r P Q
none_matches r P Q e p = subst (λ o. MatchOption o P Q) (sym e) p
