-- Of forms in words, one says one thing.
use Rattle.std.proofs.Common.{◌≡◌, ℕ, ◌==◌, Bool, true, false, if◌then◌else◌, List, [], ◌∷◌, ◌++◌, Some, None, length, refl, sym, ap, ◌∙◌, append_assoc}
use Rattle.std.proofs.lemmas.Nat.{from_be_bytes-to_be_bytes_8}
use Rattle.std.specs.Int.{from_be_bytes, to_be_bytes, w64}
use Rattle.std.specs.List.{flat_map}
use Rattle.icu_options.specs.declared.settings.AlternateHandling.{AlternateHandling}
use Rattle.icu_options.specs.declared.settings.AlternateHandling.TheVariants.{NonIgnorable, Shifted, Blanked}
use Rattle.icu_options.specs.declared.settings.CollationCaseFirst.{CollationCaseFirst}
use Rattle.icu_options.specs.declared.settings.CollationCaseFirst.TheVariants as case_first
use Rattle.icu_options.specs.declared.settings.MaxVariable.{MaxVariable}
use Rattle.icu_options.specs.declared.settings.MaxVariable.TheVariants.{Space, Punctuation, Symbol, Currency}
use Rattle.icu_options.specs.declared.settings.Strength.{Strength}
use Rattle.icu_options.specs.declared.settings.Strength.TheVariants.{Primary, Secondary, Tertiary, Quaternary, Identical}
use Rattle.icu_table_files.specs.fingerprint.FingerprintForms.{Fit, bit_word, bytes_of, case_word, context_words, counted, counted_by, data_words, group_word, handling_word, mapping_words, optional, reordering_words, setting_words, strength_word, table_words}

-- ---- lists

pub heads : {X : Type 0} (x y : X) (xs ys : List X) → x ∷ xs ≡ y ∷ ys → (x ≡ y) × (xs ≡ ys)
heads x y xs ys e = (cc, cc)

-- lists of one length, each with more behind it
pub cut : (xs ys r s : List ℕ) → length xs ≡ length ys → xs ++ r ≡ ys ++ s → (xs ≡ ys) × (r ≡ s)
cut [] [] r s l e = (refl, e)
cut [] (y ∷ ys) r s l e = absurd (cc)
cut (x ∷ xs) [] r s l e = absurd (cc)
cut (x ∷ xs) (y ∷ ys) r s l e =
    let h = heads x y (xs ++ r) (ys ++ s) e in
    let len : length xs ≡ length ys = cc in
    let more = cut xs ys r s len h.1 in
    (λ i. h.0 i ∷ more.0 i, more.1)

-- words that tell one thing and what stands behind it
abbrev pub Tells : {X : Type 0} → (X → List ℕ) → Type 0
Tells {X} words = (x y : X) (r s : List ℕ) → words x ++ r ≡ words y ++ s → (x ≡ y) × (r ≡ s)

pub counted_tells : Tells counted
counted_tells xs ys r s e = let h = heads (length xs) (length ys) (xs ++ r) (ys ++ s) e in cut xs ys r s h.0 h.1

each_tells : {X : Type 0} (words : X → List ℕ) → Tells words → (xs ys : List X) (r s : List ℕ) → length xs ≡ length ys
    → flat_map words xs ++ r ≡ flat_map words ys ++ s → (xs ≡ ys) × (r ≡ s)
each_tells words tells [] [] r s l e = (refl, e)
each_tells words tells [] (y ∷ ys) r s l e = absurd (cc)
each_tells words tells (x ∷ xs) [] r s l e = absurd (cc)
each_tells words tells (x ∷ xs) (y ∷ ys) r s l e =
    let h = tells x y (flat_map words xs ++ r) (flat_map words ys ++ s) (sym (append_assoc (words x) (flat_map words xs) r) ∙ (e ∙ append_assoc (words y) (flat_map words ys) s)) in
    let len : length xs ≡ length ys = cc in
    let more = each_tells words tells xs ys r s len h.1 in
    (λ i. h.0 i ∷ more.0 i, more.1)

pub counted_by_tells : {X : Type 0} (words : X → List ℕ) → Tells words → Tells (counted_by words)
counted_by_tells words tells xs ys r s e =
    let h = heads (length xs) (length ys) (flat_map words xs ++ r) (flat_map words ys ++ s) e in each_tells words tells xs ys r s h.0 h.1

pub optional_tells : {X : Type 0} (words : X → List ℕ) → Tells words → Tells (optional words)
optional_tells words tells None None r s e = (refl, (heads 0 0 r s e).1)
optional_tells words tells None (Some y) r s e = let h = (heads 0 1 r (words y ++ s) e).0 in absurd (cc)
optional_tells words tells (Some x) None r s e = let h = (heads 1 0 (words x ++ r) s e).0 in absurd (cc)
optional_tells words tells (Some x) (Some y) r s e =
    let h = tells x y r s (heads 1 1 (words x ++ r) (words y ++ s) e).1 in (ap (λ z. Some z) h.0, h.1)

-- what tells one thing, and then more words
behind : {X : Type 0} (words : X → List ℕ) → Tells words → (x y : X) (a b r s : List ℕ) → (words x ++ a) ++ r ≡ (words y ++ b) ++ s → (x ≡ y) × (a ++ r ≡ b ++ s)
behind words tells x y a b r s e = tells x y (a ++ r) (b ++ s) (sym (append_assoc (words x) a r) ∙ (e ∙ append_assoc (words y) b s))

context_tells : Tells context_words
context_tells x y r s e =
    let a = heads x.default y.default _ _ e in
    let b = heads x.mappings_start y.mappings_start _ _ a.1 in
    let d = heads x.mappings_len y.mappings_len r s b.1 in
    (λ i. record { default = a.0 i; mappings_start = b.0 i; mappings_len = d.0 i }, d.1)

mapping_tells : Tells mapping_words
mapping_tells x y r s e =
    let a = heads x.chars_start y.chars_start _ _ e in
    let b = heads x.chars_len y.chars_len _ _ a.1 in
    let d = heads x.entry y.entry r s b.1 in
    (λ i. record { chars_start = a.0 i; chars_len = b.0 i; entry = d.0 i }, d.1)

data_tells : Tells data_words
data_tells x y r s e =
    let a = behind counted counted_tells x.blocks y.blocks _ _ r s e in
    let b = behind counted counted_tells x.values y.values _ _ r s a.1 in
    let d = behind counted counted_tells x.elements y.elements _ _ r s b.1 in
    let f = behind counted counted_tells x.entries y.entries _ _ r s d.1 in
    let g = behind (counted_by context_words) (counted_by_tells context_words context_tells) x.contexts y.contexts _ _ r s f.1 in
    let h = behind (counted_by mapping_words) (counted_by_tells mapping_words mapping_tells) x.mappings y.mappings _ _ r s g.1 in
    let k = counted_tells x.chars y.chars r s h.1 in
    (λ i. record { blocks = a.0 i; values = b.0 i; elements = d.0 i; entries = f.0 i; contexts = g.0 i; mappings = h.0 i; chars = k.0 i }, k.1)

reordering_tells : Tells reordering_words
reordering_tells x y r s e =
    let a = heads x.limit y.limit _ _ e in
    let b = behind counted counted_tells x.leads y.leads _ _ r s a.1 in
    let d = counted_tells x.ranges y.ranges r s b.1 in
    (λ i. record { limit = a.0 i; leads = b.0 i; ranges = d.0 i }, d.1)

pub tables_tell : Tells table_words
tables_tell x y r s e =
    let a = behind data_words data_tells x.root y.root _ _ r s e in
    let b = behind (optional data_words) (optional_tells data_words data_tells) x.tailoring y.tailoring _ _ r s a.1 in
    let d = behind counted counted_tells x.jamo y.jamo _ _ r s b.1 in
    let f = behind counted counted_tells x.diacritics y.diacritics _ _ r s d.1 in
    let g = behind counted counted_tells x.last y.last _ _ r s f.1 in
    let h = heads x.numeric y.numeric _ _ g.1 in
    let k = heads x.bits y.bits _ _ h.1 in
    let l = optional_tells reordering_words reordering_tells x.reordering y.reordering r s k.1 in
    (λ i. record { root = a.0 i; tailoring = b.0 i; jamo = d.0 i; diacritics = f.0 i; last = g.0 i; numeric = h.0 i; bits = k.0 i; reordering = l.0 i }, l.1)

-- ---- settings

strength_of : ℕ → Strength
strength_of n = if n == 1 then Primary else if n == 2 then Secondary else if n == 3 then Tertiary else if n == 4 then Quaternary else Identical

strength_back : (s : Strength) → strength_of (strength_word s) ≡ s
unfolding strength_of
strength_back Primary = refl
strength_back Secondary = refl
strength_back Tertiary = refl
strength_back Quaternary = refl
strength_back Identical = refl

handling_of : ℕ → AlternateHandling
handling_of n = if n == 0 then NonIgnorable else if n == 1 then Shifted else Blanked

handling_back : (h : AlternateHandling) → handling_of (handling_word h) ≡ h
unfolding handling_of
handling_back NonIgnorable = refl
handling_back Shifted = refl
handling_back Blanked = refl

group_of : ℕ → MaxVariable
group_of n = if n == 0 then Space else if n == 1 then Punctuation else if n == 2 then Symbol else Currency

group_back : (g : MaxVariable) → group_of (group_word g) ≡ g
unfolding group_of
group_back Space = refl
group_back Punctuation = refl
group_back Symbol = refl
group_back Currency = refl

case_of : ℕ → CollationCaseFirst
case_of n = if n == 0 then case_first.False else if n == 1 then case_first.Lower else case_first.Upper

case_back : (f : CollationCaseFirst) → case_of (case_word f) ≡ f
unfolding case_of
case_back case_first.False = refl
case_back case_first.Lower = refl
case_back case_first.Upper = refl

bit_of : ℕ → Bool
bit_of n = n == 1

bit_back : (b : Bool) → bit_of (bit_word b) ≡ b
unfolding bit_of
bit_back false = refl
bit_back true = refl

back : {X : Type 0} (word : X → ℕ) (of : ℕ → X) → ((x : X) → of (word x) ≡ x) → (x y : X) → word x ≡ word y → x ≡ y
back word of is x y e = sym (is x) ∙ (ap of e ∙ is y)

pub settings_tell : Tells setting_words
settings_tell x y r s e =
    let a = heads (strength_word x.strength) (strength_word y.strength) _ _ e in
    let b = heads (handling_word x.alternate_handling) (handling_word y.alternate_handling) _ _ a.1 in
    let d = heads (group_word x.max_variable) (group_word y.max_variable) _ _ b.1 in
    let f = heads (case_word x.case_first) (case_word y.case_first) _ _ d.1 in
    let g = heads (bit_word x.case_level) (bit_word y.case_level) _ _ f.1 in
    let h = heads (bit_word x.numeric) (bit_word y.numeric) _ _ g.1 in
    let k = heads (bit_word x.backward_second_level) (bit_word y.backward_second_level) r s h.1 in
    let a_is = back strength_word strength_of strength_back x.strength y.strength a.0 in
    let b_is = back handling_word handling_of handling_back x.alternate_handling y.alternate_handling b.0 in
    let d_is = back group_word group_of group_back x.max_variable y.max_variable d.0 in
    let f_is = back case_word case_of case_back x.case_first y.case_first f.0 in
    let g_is = back bit_word bit_of bit_back x.case_level y.case_level g.0 in
    let h_is = back bit_word bit_of bit_back x.numeric y.numeric h.0 in
    let k_is = back bit_word bit_of bit_back x.backward_second_level y.backward_second_level k.0 in
    (λ i. record { strength = a_is i; max_variable = d_is i; alternate_handling = b_is i; case_level = g_is i; case_first = f_is i; backward_second_level = k_is i; numeric = h_is i }, k.1)

-- ---- bytes

pub bytes_tell : (xs ys : List ℕ) → Fit xs → Fit ys → bytes_of xs ≡ bytes_of ys → xs ≡ ys
bytes_tell [] [] f g e = refl
bytes_tell [] (y ∷ ys) f g e = absurd (cc)
bytes_tell (x ∷ xs) [] f g e = absurd (cc)
bytes_tell (x ∷ xs) (y ∷ ys) f g e =
    let h = cut (to_be_bytes w64 x) (to_be_bytes w64 y) (bytes_of xs) (bytes_of ys) refl e in
    let first : x ≡ y = sym (from_be_bytes-to_be_bytes_8 x f.0) ∙ (ap (from_be_bytes w64) h.0 ∙ from_be_bytes-to_be_bytes_8 y g.0) in
    let more = bytes_tell xs ys f.1 g.1 h.1 in
    λ i. first i ∷ more i
