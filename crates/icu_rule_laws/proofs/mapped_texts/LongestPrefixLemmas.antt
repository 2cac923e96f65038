-- Mappings that count behind a context are those of the longest prefix that has any, where these have one without a
-- suffix.
use Rattle.std.proofs.Common.{◌≡◌, ℕ, zero, suc, ◌<◌, ◌≤◌, Bool, true, false, not, ◌||◌, bytes_eq, nat_eq, List, [], ◌∷◌, ◌++◌, length, map, filter, take, if◌then◌else◌, refl, ap, sym, ◌∙◌, arith}
use Rattle.std.specs.List.{list_any, starts_with}
use Rattle.icu_element_matches.proofs.CharacterOrderLemmas.{same_lists}
use Rattle.icu_rule_meaning.specs.TailoredMappings.{SymbolicMapping, stands_after_prefix, beginnings, begin_suffix, mappings_behind}

-- the mappings of one prefix
abbrev pub own_of : List SymbolicMapping → List ℕ → List SymbolicMapping
own_of mappings prefix = filter (stands_after_prefix prefix) mappings

-- one of the mappings has no suffix
abbrev pub has_bare : List SymbolicMapping → Bool
has_bare = list_any (λ (m : SymbolicMapping). bytes_eq m.suffix [])

all_kept : (xs : List SymbolicMapping) → filter (λ m. not (begin_suffix [] m)) xs ≡ xs
all_kept [] = refl
all_kept (x ∷ xs) = ap (λ ys. x ∷ ys) (all_kept xs)

passed_prefix : (mappings : List SymbolicMapping) (prefix : List ℕ) (shorter : List (List ℕ))
    → own_of mappings prefix ≡ [] → mappings_behind mappings (prefix ∷ shorter) ≡ mappings_behind mappings shorter
unfolding mappings_behind
passed_prefix mappings prefix shorter e = by_own (own_of mappings prefix) e
  where
    by_own : (own : List SymbolicMapping) → own ≡ [] → (if has_bare own then own
        else own ++ filter (λ m. not (begin_suffix own m)) (mappings_behind mappings shorter))
        ≡ mappings_behind mappings shorter
    by_own [] e = all_kept (mappings_behind mappings shorter)
    by_own (x ∷ xs) e = cc

taken_prefix : (mappings : List SymbolicMapping) (prefix : List ℕ) (shorter : List (List ℕ))
    → has_bare (own_of mappings prefix) ≡ true → mappings_behind mappings (prefix ∷ shorter) ≡ own_of mappings prefix
unfolding mappings_behind
taken_prefix mappings prefix shorter e = rw e refl

-- the beginnings of a text put behind something, one after another, and then others
abbrev behind_beginnings : List SymbolicMapping → (List ℕ → List ℕ) → List ℕ → List (List ℕ) → List SymbolicMapping
behind_beginnings mappings f text others = mappings_behind mappings (map f (beginnings text) ++ others)

further_beginnings : (mappings : List SymbolicMapping) (f : List ℕ → List ℕ) (c : ℕ) (text : List ℕ) (others : List (List ℕ))
    → behind_beginnings mappings f (c ∷ text) others
    ≡ behind_beginnings mappings (λ cs. f (c ∷ cs)) text (f [] ∷ others)
further_beginnings mappings f c text others = ap (mappings_behind mappings) (moved f c (beginnings text) others)
  where
    moved : (f : List ℕ → List ℕ) (c : ℕ) (list : List (List ℕ)) (others : List (List ℕ))
        → map f (map (λ more. c ∷ more) list ++ [] ∷ []) ++ others ≡ map (λ cs. f (c ∷ cs)) list ++ f [] ∷ others
    moved f c [] others = refl
    moved f c (x ∷ list) others = ap (λ more. f (c ∷ x) ∷ more) (moved f c list others)

passed_beginnings : (mappings : List SymbolicMapping) (f : List ℕ → List ℕ) (text : List ℕ) (others : List (List ℕ))
    → ((i : ℕ) → i ≤ length text → own_of mappings (f (take i text)) ≡ [])
    → behind_beginnings mappings f text others ≡ mappings_behind mappings others
passed_beginnings mappings f [] others none = passed_prefix mappings (f []) others (none 0 (omega arith))
passed_beginnings mappings f (c ∷ text) others none =
    further_beginnings mappings f c text others
    ∙ passed_beginnings mappings (λ cs. f (c ∷ cs)) text (f [] ∷ others) (λ i h. none (suc i) (omega (arith, h)))
    ∙ passed_prefix mappings (f []) others (none 0 (omega arith))

taken_beginning : (mappings : List SymbolicMapping) (f : List ℕ → List ℕ) (text : List ℕ) (others : List (List ℕ)) (j : ℕ)
    → j ≤ length text → ((i : ℕ) → j < i → i ≤ length text → own_of mappings (f (take i text)) ≡ [])
    → has_bare (own_of mappings (f (take j text))) ≡ true
    → behind_beginnings mappings f text others ≡ own_of mappings (f (take j text))
taken_beginning mappings f [] others zero h none bare = taken_prefix mappings (f []) others bare
taken_beginning mappings f [] others (suc j) h none bare = absurd (omega (arith, h))
taken_beginning mappings f (c ∷ text) others zero h none bare =
    further_beginnings mappings f c text others
    ∙ passed_beginnings mappings (λ cs. f (c ∷ cs)) text (f [] ∷ others)
    (λ i k. none (suc i) (omega arith) (omega (arith, k)))
    ∙ taken_prefix mappings (f []) others bare
taken_beginning mappings f (c ∷ text) others (suc j) h none bare =
    further_beginnings mappings f c text others
    ∙ taken_beginning mappings (λ cs. f (c ∷ cs)) text (f [] ∷ others) j (omega (arith, h))
    (λ i k l. none (suc i) (omega (arith, k)) (omega (arith, l))) bare

same_beginnings : (list : List (List ℕ)) → map (λ (cs : List ℕ). cs) list ++ [] ≡ list
same_beginnings [] = refl
same_beginnings (x ∷ list) = ap (λ more. x ∷ more) (same_beginnings list)

-- the mappings behind a context are those of its beginning of this length, where no longer one has any
pub behind_longest : (mappings : List SymbolicMapping) (before : List ℕ) (j : ℕ) → j ≤ length before
    → ((i : ℕ) → j < i → i ≤ length before → own_of mappings (take i before) ≡ [])
    → has_bare (own_of mappings (take j before)) ≡ true
    → mappings_behind mappings (beginnings before) ≡ own_of mappings (take j before)
behind_longest mappings before j h none bare =
    ap (mappings_behind mappings) (sym (same_beginnings (beginnings before)))
    ∙ taken_beginning mappings (λ cs. cs) before [] j h none bare

-- ---- any mappings behind a context

kept_beginning : (mappings : List SymbolicMapping) (f : List ℕ → List ℕ) (text : List ℕ) (others : List (List ℕ)) (j : ℕ)
    → j ≤ length text → ((i : ℕ) → j < i → i ≤ length text → own_of mappings (f (take i text)) ≡ [])
    → behind_beginnings mappings f text others ≡ behind_beginnings mappings f (take j text) others
kept_beginning mappings f [] others zero h none = refl
kept_beginning mappings f [] others (suc j) h none = absurd (omega (arith, h))
kept_beginning mappings f (c ∷ text) others zero h none =
    further_beginnings mappings f c text others
    ∙ passed_beginnings mappings (λ cs. f (c ∷ cs)) text (f [] ∷ others)
    (λ i k. none (suc i) (omega arith) (omega (arith, k)))
kept_beginning mappings f (c ∷ text) others (suc j) h none =
    further_beginnings mappings f c text others
    ∙ kept_beginning mappings (λ cs. f (c ∷ cs)) text (f [] ∷ others) j (omega (arith, h))
    (λ i k l. none (suc i) (omega (arith, k)) (omega (arith, l)))
    ∙ sym (further_beginnings mappings f c (take j text) others)

-- the mappings behind a context are those behind its beginning of this length, where no longer one has any
pub behind_kept : (mappings : List SymbolicMapping) (before : List ℕ) (j : ℕ) → j ≤ length before
    → ((i : ℕ) → j < i → i ≤ length before → own_of mappings (take i before) ≡ [])
    → mappings_behind mappings (beginnings before) ≡ mappings_behind mappings (beginnings (take j before))
behind_kept mappings before j h none =
    ap (mappings_behind mappings) (sym (same_beginnings (beginnings before)))
    ∙ kept_beginning mappings (λ cs. cs) before [] j h none
    ∙ ap (mappings_behind mappings) (same_beginnings (beginnings (take j before)))

any_append : (xs ys : List SymbolicMapping) → has_bare ys ≡ true → has_bare (xs ++ ys) ≡ true
any_append [] ys h = h
any_append (x ∷ xs) ys h = ap (λ b. bytes_eq x.suffix [] || b) (any_append xs ys h) ∙ or_true (bytes_eq x.suffix [])
  where
    or_true : (b : Bool) → (b || true) ≡ true
    or_true true = refl
    or_true false = refl

-- only a suffix of no characters begins none
begins_nothing : (own : List SymbolicMapping) → list_any (λ (m : SymbolicMapping). starts_with nat_eq [] m.suffix) own ≡ has_bare own
begins_nothing [] = refl
begins_nothing (m ∷ own) = here m.suffix (begins_nothing own)
  where
    here : (suffix : List ℕ) → list_any (λ (n : SymbolicMapping). starts_with nat_eq [] n.suffix) own ≡ has_bare own
        → (starts_with nat_eq [] suffix || list_any (λ (n : SymbolicMapping). starts_with nat_eq [] n.suffix) own)
        ≡ (bytes_eq suffix [] || has_bare own)
    here [] e = refl
    here (s ∷ suffix) e = e

-- a mapping without a suffix stays among those of shorter prefixes, where a longer one has none
bare_stays : (own : List SymbolicMapping) → has_bare own ≡ false → (further : List SymbolicMapping) → has_bare further ≡ true
    → has_bare (filter (λ m. not (begin_suffix own m)) further) ≡ true
bare_stays own none [] h = h
bare_stays own none (m ∷ further) h = by_suffix (λ k. bare_stays own none further k) (bytes_eq m.suffix []) refl h
  where
    rest : List SymbolicMapping
    rest = filter (λ n. not (begin_suffix own n)) further

    put : (b : Bool) → has_bare rest ≡ true → has_bare (if b then m ∷ rest else rest) ≡ true
    put true k = any_append (m ∷ []) rest k
    put false k = k

    unbegun : m.suffix ≡ [] → begin_suffix own m ≡ false
    unbegun e = ap (λ s. list_any (λ (n : SymbolicMapping). starts_with nat_eq s n.suffix) own) e ∙ begins_nothing own ∙ none

    by_suffix : (has_bare further ≡ true → has_bare rest ≡ true) → (b : Bool) → bytes_eq m.suffix [] ≡ b
        → (b || has_bare further) ≡ true → has_bare (if not (begin_suffix own m) then m ∷ rest else rest) ≡ true
    by_suffix more true e k =
        ap (λ b. has_bare (if not b then m ∷ rest else rest)) (unbegun (same_lists m.suffix [] e))
        ∙ ap (λ b. b || has_bare rest) e
    by_suffix more false e k = put (not (begin_suffix own m)) (more k)

bare_behind : (mappings : List SymbolicMapping) (longer : List (List ℕ)) → has_bare (own_of mappings []) ≡ true
    → has_bare (mappings_behind mappings (longer ++ [] ∷ [])) ≡ true
unfolding mappings_behind
bare_behind mappings [] h = ap has_bare (taken_prefix mappings [] [] h) ∙ h
bare_behind mappings (prefix ∷ longer) h = by_own (bare_behind mappings longer h) (has_bare (own_of mappings prefix)) refl
  where
    further : List SymbolicMapping
    further = mappings_behind mappings (longer ++ [] ∷ [])

    by_own : has_bare further ≡ true → (b : Bool) → has_bare (own_of mappings prefix) ≡ b
        → has_bare (if b then own_of mappings prefix
        else own_of mappings prefix ++ filter (λ m. not (begin_suffix (own_of mappings prefix) m)) further) ≡ true
    by_own bare true e = e
    by_own bare false e =
        any_append (own_of mappings prefix) (filter (λ m. not (begin_suffix (own_of mappings prefix) m)) further)
        (bare_stays (own_of mappings prefix) e further bare)

-- where one has neither prefix nor suffix, one without a suffix counts behind each context
pub bare_everywhere : (mappings : List SymbolicMapping) (before : List ℕ) → has_bare (own_of mappings []) ≡ true
    → has_bare (mappings_behind mappings (beginnings before)) ≡ true
bare_everywhere mappings [] h = bare_behind mappings [] h
bare_everywhere mappings (c ∷ before) h = bare_behind mappings (map (λ more. c ∷ more) (beginnings before)) h
