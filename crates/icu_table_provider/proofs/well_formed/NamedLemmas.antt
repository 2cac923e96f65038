-- What a list of characters doesn't have, no mapping names whose characters are a part of it.
use Rattle.std.proofs.Common.{◌≡◌, ◌≢◌, ℕ, zero, suc, ◌<◌, ◌≤◌, ◌+◌, ◌/◌, slice_index_or, set, Bool, true, false, ◌==◌, List, [], ◌∷◌, ◌++◌, length, take, drop, get_or, Result, Ok, Err, refl, ap, sym, ◌∙◌, arith, true≢false, ⊎_elim, is_ok, OnOk}
use Rattle.std.proofs.lemmas.Bool.{cases_Bool, cases_lt, eqb-true, eqb-false, or_parts, or_from}
use Rattle.std.proofs.lemmas.List.{get_or-set_other, get_or-set_same}
use Rattle.std.proofs.lemmas.List.Folds.{list_any-append}
use Rattle.std.proofs.lemmas.List.Sorted.{searched, IsNonDecreasingBy-from_sort}
use Rattle.std.specs.List.{list_any}
use Rattle.std.specs.Ordering.{nat_cmp}
use Rattle.std.specs.List.Sorted.{IsBinarySearchResult, IsSortedByKey}
use Rattle.icu_table_data.specs.declared.context.Context.{Context as StoredContext}
use Rattle.icu_table_data.specs.declared.context.ContextMapping.{ContextMapping}
use Rattle.icu_table_data.specs.Contexts.{mapping_of, mappings_of, stored_context, stored_contexts}
use Rattle.icu_table_provider.specs.well_formed.MappingCharacters.{names, is_named_in}
use Rattle.icu_table_provider.specs.well_formed.MappingCharacters.{has_character, Ascends}
use Rattle.icu_table_provider.specs.inner.NamedBlocks.{AreFirstInBlocks, AreInBlocks}

-- ---- parts of a list

absent_later : (x n : ℕ) (cs : List ℕ) → has_character x cs ≡ false → has_character x (drop n cs) ≡ false
absent_later x zero cs h = h
absent_later x (suc n) [] h = h
absent_later x (suc n) (c ∷ cs) h = absent_later x n cs (or_parts (c == x) (has_character x cs) h).1

absent_before : (x n : ℕ) (cs : List ℕ) → has_character x cs ≡ false → has_character x (take n cs) ≡ false
absent_before x zero cs h = refl
absent_before x (suc n) [] h = refl
absent_before x (suc n) (c ∷ cs) h =
    let parts = or_parts (c == x) (has_character x cs) h in
    or_from (c == x) (has_character x (take n cs)) parts.0 (absent_before x n cs parts.1)

-- ---- mappings and contexts

mapping_absent : (x : ℕ) (chars : List ℕ) (mapping : ContextMapping) → has_character x chars ≡ false → names x (mapping_of chars mapping) ≡ false
mapping_absent x chars mapping h = absent_before x mapping.chars_len (drop mapping.chars_start chars) (absent_later x mapping.chars_start chars h)

mappings_absent : (x : ℕ) (chars : List ℕ) (mappings : List ContextMapping) → has_character x chars ≡ false → list_any (names x) (mappings_of chars mappings) ≡ false
mappings_absent x chars [] h = refl
mappings_absent x chars (mapping ∷ mappings) h =
    or_from (names x (mapping_of chars mapping)) (list_any (names x) (mappings_of chars mappings)) (mapping_absent x chars mapping h) (mappings_absent x chars mappings h)

pub contexts_absent : (x : ℕ) (contexts : List StoredContext) (mappings : List ContextMapping) (chars : List ℕ) → has_character x chars ≡ false
    → list_any (is_named_in x) (stored_contexts contexts mappings chars) ≡ false
contexts_absent x [] mappings chars h = refl
contexts_absent x (context ∷ contexts) mappings chars h =
    or_from (is_named_in x (stored_context mappings chars context)) (list_any (is_named_in x) (stored_contexts contexts mappings chars))
    (mappings_absent x chars (take context.mappings_len (drop context.mappings_start mappings)) h) (contexts_absent x contexts mappings chars h)

-- ---- lists put together, and in order

pub absent_from_both : (x : ℕ) (cs ds : List ℕ) → has_character x (cs ++ ds) ≡ false → (has_character x cs ≡ false) × (has_character x ds ≡ false)
absent_from_both x cs ds h = or_parts (has_character x cs) (has_character x ds) (sym (list_any-append (λ c. c == x) cs ds) ∙ h)

-- ---- a search

differs : (c x : ℕ) → c ≢ x → (c == x) ≡ false
differs c x h = ⊎_elim (λ (yes : (c == x) ≡ true). absurd (h (eqb-true c x yes))) (λ no. no) (cases_Bool (c == x))

none_equal : (x : ℕ) (xs : List ℕ) → ((k : ℕ) → k < length xs → get_or xs k 0 ≢ x) → has_character x xs ≡ false
none_equal x [] h = refl
none_equal x (c ∷ cs) h =
    or_from (c == x) (has_character x cs) (differs c x (h 0 (omega arith))) (none_equal x cs (λ k below. h (suc k) (omega arith)))

pub absent_by_search : (xs : List ℕ) (x : ℕ) (r : Result ℕ ℕ) → IsBinarySearchResult (λ y. nat_cmp y x) xs r → Ascends xs
    → is_ok r ≡ false → has_character x xs ≡ false
absent_by_search xs x (Ok i) found up h = absurd (true≢false h)
absent_by_search xs x (Err i) found up h =
    let where_it_is = searched xs x (Err i) found up in
    none_equal x xs (λ k below.
    ⊎_elim
    (λ (before : k < i). λ e. absurd (omega (arith, where_it_is.1 k before, e)))
    (λ (after : i ≤ k). λ e. absurd (omega (arith, where_it_is.2 k after below, e)))
    (cases_lt k i))

-- nothing of a block is there that isn't marked
pub absent_in_block : (xs : List ℕ) (blocks : List Bool) (index x : ℕ) → AreInBlocks xs blocks → slice_index_or blocks index false ≡ false → x / 64 ≡ index → has_character x xs ≡ false
absent_in_block xs blocks index x marked off at =
    none_equal x xs (λ k below. λ same.
    let on : slice_index_or blocks index false ≡ true = ap (λ i. slice_index_or blocks i false) (sym at) ∙ ap (λ y. slice_index_or blocks (y / 64) false) (sym same) ∙ marked k below in
    absurd (true≢false (sym on ∙ off)))

-- one more character is in a block that is marked
pub one_more_in_blocks : (n : ℕ) (xs : List ℕ) (blocks : List Bool) → AreFirstInBlocks n xs blocks → get_or xs n 0 / 64 < length blocks
    → AreFirstInBlocks (n + 1) xs (set blocks (get_or xs n 0 / 64) true)
one_more_in_blocks n xs blocks marked inside = λ k below.
    let place = get_or xs n 0 / 64 in
    let there : slice_index_or (set blocks place true) place false ≡ true = get_or-set_same blocks place true false inside in
    ⊎_elim
    (λ (before : k < n).
    ⊎_elim
    (λ (here : (get_or xs k 0 / 64 == place) ≡ true). ap (λ i. slice_index_or (set blocks place true) i false) (eqb-true _ _ here) ∙ there)
    (λ (other : (get_or xs k 0 / 64 == place) ≡ false). get_or-set_other blocks place (get_or xs k 0 / 64) true false (eqb-false _ _ other) ∙ marked k before)
    (cases_Bool (get_or xs k 0 / 64 == place)))
    (λ (last : n ≤ k).
    let same : k ≡ n = omega (arith, below, last) in
    ap (λ j. slice_index_or (set blocks place true) (get_or xs j 0 / 64) false) same ∙ there)
    (cases_lt k n)

-- what a sort leaves
pub sorted_ascends : (xs : List ℕ) → IsSortedByKey (λ x. x) nat_cmp xs → Ascends xs
sorted_ascends xs h = λ i j le below. IsNonDecreasingBy-from_sort (λ x. x) xs h i j 0 le below

-- ---- what a call that succeeds leaves

pub on_ok_by : {T E P : Type 0} (r : Result T E) → (is_ok r ≡ true → P) → OnOk r P
on_ok_by (Ok x) h = h refl
on_ok_by (Err e) h = tt
