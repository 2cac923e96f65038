-- The parent of a locale, and that it is nearer to the root.
use Rattle.std.proofs.Common.{◌≡◌, ◌≢◌, ℕ, zero, suc, ◌+◌, ◌<◌, ◌≤◌, ◌==◌, List, [], ◌∷◌, length, take, get_or, Bool, true, false, Option, Some, None, refl, ap, ◌∙◌, subst, arith, codes, if◌then◌else◌, ◌||◌}
use Rattle.std.specs.Prelude.{bytes_eq}
use Rattle.std.specs.Option.{option_or}
use Rattle.std.proofs.lemmas.Bool.Decides.{nat_tests}
use Rattle.icu_cldr_files.specs.LocaleParents.{parent_of, parent_of_language, mark_before, before_last_mark}

-- a text without the mark
pub mark_nowhere : (text : List ℕ) → ((i : ℕ) → i < length text → get_or text i 0 ≢ 95) → before_last_mark text ≡ None
unfolding before_last_mark
mark_nowhere [] none = refl
mark_nowhere (b ∷ text) none =
    let rest = mark_nowhere text (λ i inside. none (suc i) (omega arith)) in
    let here : b ≢ 95 = none 0 (omega arith) in
    let other : (b == 95) ≡ false = grind (arith, nat_tests) in
    ap (mark_before b) rest ∙ ap (λ (t : Bool). if t then Some [] else None) other

-- a text with the mark at a place, and nowhere behind it
pub mark_last : (text : List ℕ) (k : ℕ) → k < length text → get_or text k 0 ≡ 95
    → ((i : ℕ) → k < i → i < length text → get_or text i 0 ≢ 95) → before_last_mark text ≡ Some (take k text)
unfolding before_last_mark
mark_last [] k inside at none = absurd (omega arith)
mark_last (b ∷ text) zero inside at none =
    let rest = mark_nowhere text (λ i within. none (suc i) (omega arith) (omega arith)) in
    ap (mark_before b) rest ∙ ap (λ n. mark_before n None) at
mark_last (b ∷ text) (suc k) inside at none =
    ap (mark_before b) (mark_last text k (omega arith) at (λ i behind within. none (suc i) (omega arith) (omega arith)))

-- what stands before the mark is shorter
shorter_by_test : (test : Bool) (before : List ℕ) (n : ℕ) → (if test then Some [] else None) ≡ Some before → length before < suc n
shorter_by_test true before n e =
    let empty : [] ≡ before = cc in
    subst (λ (l : List ℕ). length l < suc n) empty (omega arith)
shorter_by_test false before n e = cc

shorter_behind : (b : ℕ) (before : List ℕ) (r : Option (List ℕ)) (n : ℕ) → ((found : List ℕ) → r ≡ Some found → length found < n)
    → mark_before b r ≡ Some before → length before < suc n
shorter_behind b before (Some found) n shorter e =
    let whole : b ∷ found ≡ before = cc in
    let short : length found < n = shorter found refl in
    subst (λ (l : List ℕ). length l < suc n) whole (omega arith)
shorter_behind b before None n shorter e = shorter_by_test (b == 95) before n e

pub mark_shorter : (text before : List ℕ) → before_last_mark text ≡ Some before → length before < length text
unfolding before_last_mark
mark_shorter [] before e = cc
mark_shorter (b ∷ text) before e = shorter_behind b before (before_last_mark text) (length text) (mark_shorter text) e

-- how far a language is from the root
abbrev pub language_rank : List ℕ → ℕ
language_rank language =
    if bytes_eq language (codes "root") then 0
    else (if bytes_eq language (codes "nb") || bytes_eq language (codes "nn") then 2 else 1)

abbrev pub rank_or : List ℕ → Option (List ℕ) → ℕ
rank_or locale None = language_rank locale
rank_or locale (Some before) = length locale + 3

-- how far a locale is from the root, at most
unfoldable pub rank : List ℕ → ℕ
rank locale = rank_or locale (before_last_mark locale)

language_rank_small : (language : List ℕ) → language_rank language ≤ 2
language_rank_small language = small (bytes_eq language (codes "root")) (bytes_eq language (codes "nb") || bytes_eq language (codes "nn"))
  where
    small : (root norwegian : Bool) → (if root then 0 else (if norwegian then 2 else 1)) ≤ 2
    small true norwegian = omega arith
    small false true = omega arith
    small false false = omega arith

rank_small : (locale : List ℕ) → rank locale ≤ length locale + 3
unfolding rank
rank_small locale = small locale (before_last_mark locale)
  where
    small : (locale : List ℕ) (r : Option (List ℕ)) → rank_or locale r ≤ length locale + 3
    small locale None = let few = language_rank_small locale in omega arith
    small locale (Some before) = omega arith

-- the languages that are parents
rank_of_root : rank (codes "root") ≡ 0
unfolding rank before_last_mark
rank_of_root = refl

rank_of_norwegian : rank (codes "no") ≡ 1
unfolding rank before_last_mark
rank_of_norwegian = refl

nearer_language : (root norwegian : Bool) (parent : List ℕ)
    → (if root then None else (if norwegian then Some (codes "no") else Some (codes "root"))) ≡ Some parent
    → rank parent < (if root then 0 else (if norwegian then 2 else 1))
nearer_language true norwegian parent e = cc
nearer_language false true parent e =
    let same : codes "no" ≡ parent = cc in
    subst (λ (l : List ℕ). rank l < 2) same (omega (arith, rank_of_norwegian))
nearer_language false false parent e =
    let same : codes "root" ≡ parent = cc in
    subst (λ (l : List ℕ). rank l < 1) same (omega (arith, rank_of_root))

nearer_by : (locale parent : List ℕ) (r : Option (List ℕ)) → before_last_mark locale ≡ r
    → option_or r (parent_of_language locale) ≡ Some parent → rank parent < rank_or locale r
nearer_by locale parent None is e =
    nearer_language (bytes_eq locale (codes "root")) (bytes_eq locale (codes "nb") || bytes_eq locale (codes "nn")) parent e
nearer_by locale parent (Some before) is e =
    let same : before ≡ parent = cc in
    let short : length before < length locale = mark_shorter locale before is in
    let low : rank before ≤ length before + 3 = rank_small before in
    subst (λ (l : List ℕ). rank l < length locale + 3) same (omega arith)

-- the parent of a locale is nearer to the root
pub parent_is_nearer : (locale parent : List ℕ) → parent_of locale ≡ Some parent → rank parent < rank locale
unfolding parent_of rank
parent_is_nearer locale parent e = nearer_by locale parent (before_last_mark locale) refl e
