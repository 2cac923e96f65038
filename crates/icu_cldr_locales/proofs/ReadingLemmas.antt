-- What is left of a text that is read part by part, and what its next part says.
use Rattle.std.proofs.Common.{◌≡◌, ℕ, ◌+◌, ◌<◌, ◌==◌, ◌≤◌, List, [], ◌∷◌, ◌++◌, map, length, Bool, true, false, Option, Some, None, Bor, refl, sym, ap, subst, ◌∙◌, arith}
use Rattle.std.specs.Prelude.{◌||◌, ◌&&◌, MatchOption, IfSome, option_and_then, bytes_eq, string_bytes, if◌then◌else◌}
use Rattle.std.specs.List.{list_any, position_or_len, before_first, after_first}
use Rattle.std.proofs.lemmas.List.Splits.{slice_split_first, slice_split_none}
use Rattle.std.proofs.lemmas.List.Sums.{fails_before_first}
use Rattle.icu_cldr_locales.specs.declared.subtag.SubtagKind.{SubtagKind}
use Rattle.icu_cldr_locales.specs.declared.subtag.Subtag.{Subtag}
use Rattle.icu_cldr_locales.specs.Subtags.{kind_behind, may_end_behind, stands_once, in_case_of}
use Rattle.icu_cldr_locales.specs.LanguageTags.{SubtagText, subtag_text_of, texts_of, subtags_of, is_repeated, subtag_as, subtag_behind, subtags_behind}

-- the parts of what is left
abbrev pub parts_left : Option (Bor (List ℕ)) → List (List ℕ)
parts_left None = []
parts_left (Some rest) = subtags_of rest.now

-- one more than the bytes that are left, and 0 at the end
abbrev pub bytes_left : Option (Bor (List ℕ)) → ℕ
bytes_left None = 0
bytes_left (Some rest) = length rest.now + 1

-- a text without a hyphen is one part
pub parts_where_none : (text : List ℕ) → position_or_len (λ b. b == 45) text ≡ length text → subtags_of text ≡ text ∷ []
parts_where_none text none =
    slice_split_none (λ b. b == 45) text (λ k d below. fails_before_first (λ b. b == 45) text k d (omega (arith, below, none)))

-- a text with a hyphen is what stands before it, and the parts behind it
pub parts_where_some : (text part rest : List ℕ) → part ≡ before_first (λ b. b == 45) text → rest ≡ after_first (λ b. b == 45) text
    → position_or_len (λ b. b == 45) text < length text → subtags_of text ≡ part ∷ subtags_of rest
parts_where_some text part rest front back inside =
    slice_split_first (λ b. b == 45) text 0 inside ∙ (ap (λ t. t ∷ subtags_of (after_first (λ b. b == 45) text)) (sym front) ∙ ap (λ t. part ∷ subtags_of t) (sym back))

-- a test of some member of a mapped list
pub any_mapped : {X Y : Type 0} (p : Y → Bool) (f : X → Y) (xs : List X) → list_any p (map f xs) ≡ list_any (λ x. p (f x)) xs
any_mapped p f [] = refl
any_mapped p f (x ∷ xs) = ap (λ t. p (f x) || t) (any_mapped p f xs)

-- what follows a value that is there, or isn't
pub and_then_some : {X Y : Type 0} (f : X → Option Y) (o : Option X) (x : X) → o ≡ Some x → option_and_then f o ≡ f x
and_then_some f o x e = ap (option_and_then f) e

pub and_then_none : {X Y : Type 0} (f : X → Option Y) (o : Option X) → o ≡ None → option_and_then f o ≡ None
and_then_none f o e = ap (option_and_then f) e

-- the subtags of parts, one part further
pub subtags_more : (before : List SubtagText) (last : Option SubtagKind) (part : List ℕ) (parts : List (List ℕ)) (s : SubtagText)
    → subtag_behind before last part ≡ Some s → subtags_behind before last (part ∷ parts) ≡ subtags_behind (before ++ s ∷ []) (Some s.kind) parts
unfolding subtags_behind
subtags_more before last part parts s e = ap (option_and_then (λ next. subtags_behind (before ++ next ∷ []) (Some next.kind) parts)) e

-- no subtags of parts, where the next part is none
pub subtags_refused : (before : List SubtagText) (last : Option SubtagKind) (part : List ℕ) (parts : List (List ℕ))
    → subtag_behind before last part ≡ None → subtags_behind before last (part ∷ parts) ≡ None
unfolding subtags_behind
subtags_refused before last part parts e = ap (option_and_then (λ next. subtags_behind (before ++ next ∷ []) (Some next.kind) parts)) e

-- a subtag, of its kind and its text
abbrev pub as_subtag : SubtagKind → List ℕ → SubtagText
as_subtag kind text = record { kind = kind; text = text }

-- whether a subtag is repeated, where its kind may stand once, and where it may stand again
pub repeated_once : (before : List Subtag) (kind : SubtagKind) (text : List ℕ) (r : Bool) → stands_once kind ≡ true
    → r ≡ list_any (λ other. bytes_eq (string_bytes other.text) text) before → r ≡ is_repeated (texts_of before) (as_subtag kind text)
unfolding is_repeated
repeated_once before kind text r e h =
    h ∙ (sym (any_mapped (λ (other : SubtagText). bytes_eq other.text text) subtag_text_of before)
    ∙ sym (ap (λ b. b && list_any (λ (other : SubtagText). bytes_eq other.text text) (texts_of before)) e))

pub repeated_again : (before : List Subtag) (kind : SubtagKind) (text : List ℕ) (r : Bool) → stands_once kind ≡ false
    → r ≡ false → r ≡ is_repeated (texts_of before) (as_subtag kind text)
unfolding is_repeated
repeated_again before kind text r e h =
    h ∙ sym (ap (λ b. b && list_any (λ (other : SubtagText). bytes_eq other.text text) (texts_of before)) e)

-- the subtag of a kind: none where it is repeated, else the one in its case
pub none_as : (before : List SubtagText) (part : List ℕ) (kind : SubtagKind) (text : List ℕ) → text ≡ in_case_of kind part
    → is_repeated before (as_subtag kind text) ≡ true → subtag_as before part kind ≡ None
unfolding subtag_as
none_as before part kind text is e =
    let repeated : is_repeated before (as_subtag kind (in_case_of kind part)) ≡ true = ap (λ t. is_repeated before (as_subtag kind t)) (sym is) ∙ e in
    let choice : Bool → Option SubtagText = λ b. if b then None else Some (as_subtag kind (in_case_of kind part)) in
    ap choice repeated

pub some_as : (before : List SubtagText) (part : List ℕ) (kind : SubtagKind) (text said : List ℕ) → text ≡ in_case_of kind part
    → said ≡ in_case_of kind part → is_repeated before (as_subtag kind text) ≡ false → subtag_as before part kind ≡ Some (as_subtag kind said)
unfolding subtag_as
some_as before part kind text said is said_is e =
    let repeated : is_repeated before (as_subtag kind (in_case_of kind part)) ≡ false = ap (λ t. is_repeated before (as_subtag kind t)) (sym is) ∙ e in
    let choice : Bool → Option SubtagText = λ b. if b then None else Some (as_subtag kind (in_case_of kind part)) in
    let some : List ℕ → Option SubtagText = λ t. Some (as_subtag kind t) in
    ap choice repeated ∙ sym (ap some said_is)

-- the subtag behind others, by the kind that it may have there
pub none_behind : (before : List SubtagText) (last : Option SubtagKind) (part bytes : List ℕ) → bytes ≡ part
    → None ≡ kind_behind last bytes → subtag_behind before last part ≡ None
unfolding subtag_behind
none_behind before last part bytes same h =
    ap (λ t. option_and_then (subtag_as before part) (kind_behind last t)) (sym same) ∙ sym (ap (option_and_then (subtag_as before part)) h)

pub some_behind : (before : List SubtagText) (last : Option SubtagKind) (part bytes : List ℕ) (kind : SubtagKind) → bytes ≡ part
    → Some kind ≡ kind_behind last bytes → subtag_behind before last part ≡ subtag_as before part kind
unfolding subtag_behind
some_behind before last part bytes kind same h =
    ap (λ t. option_and_then (subtag_as before part) (kind_behind last t)) (sym same) ∙ sym (ap (option_and_then (subtag_as before part)) h)

-- the parts that are left behind the first one
pub parts_left_behind : (text part : List ℕ) (rest : Option (Bor (List ℕ)))
    → MatchOption rest (subtags_of text ≡ part ∷ []) (λ r. subtags_of text ≡ part ∷ subtags_of r.now) → subtags_of text ≡ part ∷ parts_left rest
parts_left_behind text part None h = h
parts_left_behind text part (Some r) h = h

-- the bytes that are left become fewer
left_shorter : (rest : Option (Bor (List ℕ))) (n : ℕ) → IfSome rest (λ r. length r.now < n) → bytes_left rest ≤ n
left_shorter None n h = omega arith
left_shorter (Some r) n h = omega (arith, h)

pub left_within : (left rest : Option (Bor (List ℕ))) (unread : Bor (List ℕ)) (n : ℕ) → left ≡ Some unread
    → IfSome rest (λ r. length r.now < length unread.now) → bytes_left left ≤ n → bytes_left rest ≤ n
left_within left rest unread n is shorter within =
    let P : Option (Bor (List ℕ)) → Type 0 = λ l. bytes_left l ≤ n in
    let all : length unread.now + 1 ≤ n = subst P is within in
    let less : bytes_left rest ≤ length unread.now = left_shorter rest (length unread.now) shorter in
    omega arith

module _ (before : List SubtagText) (last : Option SubtagKind) (left : Option (Bor (List ℕ))) (tag : Option (List SubtagText)) (invariant : subtags_behind before last (parts_left left) ≡ tag) where
  -- what is left, where a part is read
  left_is : (unread : Bor (List ℕ)) (part : List ℕ) (rest : Option (Bor (List ℕ))) → left ≡ Some unread → subtags_of unread.now ≡ part ∷ parts_left rest
      → subtags_behind before last (part ∷ parts_left rest) ≡ tag
  left_is unread part rest is parts =
      sym (ap (λ ps. subtags_behind before last ps) parts) ∙ (sym (ap (λ l. subtags_behind before last (parts_left l)) is) ∙ invariant)

  -- a part that is no subtag there
  pub part_refused : (unread : Bor (List ℕ)) (part : List ℕ) (rest : Option (Bor (List ℕ))) → left ≡ Some unread → subtags_of unread.now ≡ part ∷ parts_left rest
      → subtag_behind before last part ≡ None → tag ≡ None
  part_refused unread part rest is parts none =
      sym (left_is unread part rest is parts) ∙ subtags_refused before last part (parts_left rest) none

  -- a part that is a subtag there
  pub part_read : (unread : Bor (List ℕ)) (part : List ℕ) (rest : Option (Bor (List ℕ))) (s : SubtagText) → left ≡ Some unread
      → subtags_of unread.now ≡ part ∷ parts_left rest → subtag_behind before last part ≡ Some s
      → subtags_behind (before ++ s ∷ []) (Some s.kind) (parts_left rest) ≡ tag
  part_read unread part rest s is parts some =
      sym (subtags_more before last part (parts_left rest) s some) ∙ left_is unread part rest is parts

  -- the end
  pub end_read : left ≡ None → may_end_behind last ≡ true → tag ≡ Some before
  unfolding subtags_behind
  end_read is e =
      let choice : Bool → Option (List SubtagText) = λ b. if b then Some before else None in
      sym invariant ∙ (ap (λ l. subtags_behind before last (parts_left l)) is ∙ ap choice e)

  pub end_refused : left ≡ None → may_end_behind last ≡ false → tag ≡ None
  unfolding subtags_behind
  end_refused is e =
      let choice : Bool → Option (List SubtagText) = λ b. if b then Some before else None in
      sym invariant ∙ (ap (λ l. subtags_behind before last (parts_left l)) is ∙ ap choice e)
