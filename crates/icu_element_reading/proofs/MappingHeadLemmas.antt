-- Mappings that begin with other characters than a text.
use Rattle.std.proofs.Common.{◌≡◌, ◌≢◌, ℕ, ◌<◌, ◌≤◌, ◌-◌, suc, zero, true, false, not, ◌&&◌, ◌||◌, nat_eq, List, [], ◌∷◌, length, Some, None, refl, sym, ap, ◌∙◌, arith, subst}
use Rattle.std.specs.Prelude.{slice_get}
use Rattle.std.specs.List.{AllByRecursion, starts_with}
use Rattle.std.proofs.lemmas.Bool.{and_parts, and_from, ne_eqb, false≢true}
use Rattle.icu_table_data.specs.Contexts.{is_before, ascend_from}
use Rattle.icu_table_data.specs.Data.{Mapping, Context, longest_from, longest_mapping}
use Rattle.icu_element_matches.specs.MatchesAhead.{is_decided, are_decided}
use Rattle.icu_element_matches.proofs.CharacterOrderLemmas.{not_before_back, not_before_head}
use Rattle.icu_element_reading.specs.inner.StepsTaken.{FirstDiffers, FirstIsLater, FirstIsEarlier, NoneBeginsWith, IsDecidedMapping}

same_some : {A : Type 0} (x y : A) → Some x ≡ Some y → x ≡ y
same_some x y h = cc

-- ---- no mapping begins with a character

other_head : (d y : ℕ) (text ys : List ℕ) → y ≢ d → starts_with nat_eq (d ∷ text) (y ∷ ys) ≡ false
other_head d y text ys other = ap (λ b. b && starts_with nat_eq text ys) (ne_eqb y d other)

not_begun : (d : ℕ) (text chars : List ℕ) → FirstDiffers d chars → starts_with nat_eq (d ∷ text) chars ≡ false
not_begun d text [] h = absurd h
not_begun d text (y ∷ ys) h = other_head d y text ys h

decided_head : (d : ℕ) (text chars : List ℕ) → FirstDiffers d chars → is_decided chars (d ∷ text) ≡ true
unfolding is_decided
decided_head d text [] h = absurd h
decided_head d text (y ∷ ys) h = ap (λ b. not b || is_decided ys text) (ne_eqb y d h)

-- so the text decides on all of them
pub decided_by_head : (mappings : List Mapping) (d : ℕ) (text : List ℕ) → NoneBeginsWith mappings d → are_decided mappings (d ∷ text) ≡ true
decided_by_head [] d text h = refl
decided_by_head (m ∷ mappings) d text h = and_from _ _ (decided_head d text m.chars h.0) (decided_by_head mappings d text h.1)

-- and begins with none
pub none_by_head : (mappings : List Mapping) (d : ℕ) (text : List ℕ) → NoneBeginsWith mappings d → longest_mapping mappings (d ∷ text) ≡ None
unfolding longest_from
none_by_head [] d text h = refl
none_by_head (m ∷ mappings) d text h = rw (not_begun d text m.chars h.0) (none_by_head mappings d text h.1)

-- ---- by the first and the last mapping

above_other : (d : ℕ) (chars : List ℕ) → FirstIsLater d chars → FirstDiffers d chars
above_other d [] h = absurd h
above_other d (y ∷ ys) h = λ same. omega (arith, h, same)

below_other : (d : ℕ) (chars : List ℕ) → FirstIsEarlier d chars → FirstDiffers d chars
below_other d [] h = absurd h
below_other d (y ∷ ys) h = λ same. omega (arith, h, same)

-- what comes after characters begins with no less
heads_ascend : (x y : ℕ) (xs ys : List ℕ) → is_before (x ∷ xs) (y ∷ ys) ≡ true → x ≤ y
heads_ascend x y xs ys h = not_before_head y x ys xs (not_before_back (x ∷ xs) (y ∷ ys) h)

above_later : (d : ℕ) (xs ys : List ℕ) → FirstIsLater d xs → is_before xs ys ≡ true → FirstIsLater d ys
above_later d [] ys h before = absurd h
above_later d (x ∷ xs) [] h before = absurd (false≢true before)
above_later d (x ∷ xs) (y ∷ ys) h before = omega (arith, h, heads_ascend x y xs ys before)

below_earlier : (d : ℕ) (xs ys : List ℕ) → xs ≢ [] → is_before xs ys ≡ true → FirstIsEarlier d ys → FirstIsEarlier d xs
below_earlier d [] ys some before h = absurd (some refl)
below_earlier d (x ∷ xs) [] some before h = absurd h
below_earlier d (x ∷ xs) (y ∷ ys) some before h = omega (arith, h, heads_ascend x y xs ys before)

not_empty : (xs ys : List ℕ) → is_before xs ys ≡ true → ys ≢ []
not_empty [] [] h = λ none. false≢true h
not_empty (x ∷ xs) [] h = λ none. false≢true h
not_empty xs (y ∷ ys) h = λ none. cc

all_above : (d : ℕ) (last : List ℕ) (mappings : List Mapping) → FirstIsLater d last → ascend_from last mappings ≡ true → NoneBeginsWith mappings d
unfolding ascend_from
all_above d last [] h ascend = tt
all_above d last (m ∷ mappings) h ascend =
    let parts = and_parts (is_before last m.chars) (ascend_from m.chars mappings) ascend in
    let above = above_later d last m.chars h parts.0 in
    (above_other d m.chars above, all_above d m.chars mappings above parts.1)

-- all come after the first
pub none_above : (mappings : List Mapping) (d : ℕ) (m : Mapping) → ascend_from [] mappings ≡ true → slice_get mappings 0 ≡ Some m → FirstIsLater d m.chars → NoneBeginsWith mappings d
unfolding ascend_from
none_above [] d m ascend first h = tt
none_above (x ∷ mappings) d m ascend first h =
    let parts = and_parts (is_before [] x.chars) (ascend_from x.chars mappings) ascend in
    let above : FirstIsLater d x.chars = subst (λ (n : Mapping). FirstIsLater d n.chars) (sym (same_some x m first)) h in
    (above_other d x.chars above, all_above d x.chars mappings above parts.1)

-- all come before the last
each_below : (last : List ℕ) (mappings : List Mapping) (n d : ℕ) (m : Mapping) → ascend_from last mappings ≡ true → length mappings ≡ suc n → slice_get mappings n ≡ Some m → FirstIsEarlier d m.chars
    → AllByRecursion (λ (x : Mapping). FirstIsEarlier d x.chars) mappings
unfolding ascend_from
each_below last [] n d m ascend count at h = tt
each_below last (x ∷ []) zero d m ascend count at h =
    (subst (λ (n : Mapping). FirstIsEarlier d n.chars) (sym (same_some x m at)) h, tt)
each_below last (x ∷ []) (suc n) d m ascend count at h = absurd (omega (arith, count))
each_below last (x ∷ (y ∷ mappings)) zero d m ascend count at h = absurd (omega (arith, count))
each_below last (x ∷ (y ∷ mappings)) (suc n) d m ascend count at h =
    let parts = and_parts (is_before last x.chars) (ascend_from x.chars (y ∷ mappings)) ascend in
    let later = each_below x.chars (y ∷ mappings) n d m parts.1 (omega (arith, count)) at h in
    let next = and_parts (is_before x.chars y.chars) (ascend_from y.chars mappings) parts.1 in
    (below_earlier d x.chars y.chars (not_empty last x.chars parts.0) next.0 later.0, later)

others_below : (d : ℕ) (mappings : List Mapping) → AllByRecursion (λ (x : Mapping). FirstIsEarlier d x.chars) mappings → NoneBeginsWith mappings d
others_below d [] h = tt
others_below d (x ∷ mappings) h = (below_other d x.chars h.0, others_below d mappings h.1)

pub none_below : (mappings : List Mapping) (n d : ℕ) (m : Mapping) → ascend_from [] mappings ≡ true → length mappings ≡ suc n → slice_get mappings n ≡ Some m → FirstIsEarlier d m.chars → NoneBeginsWith mappings d
none_below mappings n d m ascend count at h = others_below d mappings (each_below [] mappings n d m ascend count at h)

-- there are none
pub none_of_none : (mappings : List Mapping) (d : ℕ) → length mappings ≡ 0 → NoneBeginsWith mappings d
none_of_none [] d h = tt
none_of_none (m ∷ mappings) d h = absurd (omega (arith, h))

-- ---- by the characters that were read

pub above_by : (d y : ℕ) (chars : List ℕ) → slice_get chars 0 ≡ Some y → d < y → FirstIsLater d chars
above_by d y [] first h = cc
above_by d y (x ∷ chars) first h = subst (λ n. d < n) (sym (same_some x y first)) h

pub below_by : (d y : ℕ) (chars : List ℕ) → slice_get chars 0 ≡ Some y → y < d → FirstIsEarlier d chars
below_by d y [] first h = cc
below_by d y (x ∷ chars) first h = subst (λ n. n < d) (sym (same_some x y first)) h

one_less : (count : ℕ) → count ≢ 0 → count ≡ suc (count - 1)
one_less zero h = absurd (h refl)
one_less (suc n) h = omega arith

pub none_below_last : (mappings : List Mapping) (d n : ℕ) (m : Mapping) → ascend_from [] mappings ≡ true → length mappings ≢ 0 → n ≡ length mappings - 1 → slice_get mappings n ≡ Some m → FirstIsEarlier d m.chars → NoneBeginsWith mappings d
none_below_last mappings d n m ascend some count last h = none_below mappings n d m ascend (one_less (length mappings) some ∙ ap suc (sym count)) last h

-- the text decides that none begins it
pub decided_none : (context : Context) (text : List ℕ) (d : ℕ) → slice_get text 0 ≡ Some d → NoneBeginsWith context.mappings d → IsDecidedMapping context text None
decided_none context [] d first h = cc
decided_none context (x ∷ text) d first h =
    let same : NoneBeginsWith context.mappings x = subst (NoneBeginsWith context.mappings) (sym (same_some x d first)) h in
    record { longest = none_by_head context.mappings x text same; decided = decided_by_head context.mappings x text same }
