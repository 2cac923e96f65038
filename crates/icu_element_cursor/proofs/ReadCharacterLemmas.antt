-- The characters that stand before the text that isn't read.
use Rattle.std.proofs.Common.{◌≡◌, ℕ, ◌≤◌, true, is_some, option_to_list, List, [], ◌∷◌, ◌++◌, length, take, reverse, flat_map, Option, Some, None, refl, sym, ap, ◌∙◌, append-nil, append_assoc, length-append, length-take, take_all, arith}
use Rattle.std.proofs.lemmas.List.{reverse-append, take-append-le, length-reverse}
use Rattle.ucd_normal.specs.declared.forms.Form.TheVariants.{Nfd}
use Rattle.unicode_normalization.specs.Decompose.{decompose}
use Rattle.unicode_normalization.proofs.DecomposeLemmas.{length-from_decompose}
use Rattle.icu_element_reading.specs.TextElements.{last_two}
use Rattle.icu_element_reading.proofs.ReaderLemmas.{last_two-append}
use Rattle.icu_element_reading.specs.boundaries.Alone.{context_after}
use Rattle.icu_element_cursor.specs.declared.last_characters.LastCharacters.{LastCharacters}
use Rattle.icu_element_cursor.specs.inner.ReadCharacters.{facts_read, context_read}

short : (xs : List ℕ) → length (take 2 xs) ≤ 2
short xs = omega (arith, length-take 2 xs)

context_after-last_two : (before ds : List ℕ) → length before ≤ 2 → context_after before ds ≡ last_two before ds
unfolding context_after
context_after-last_two before [] fits = sym (take_all 2 before fits)
context_after-last_two before (d ∷ ds) fits =
    context_after-last_two (last_two before (d ∷ [])) ds (short (d ∷ before)) ∙ last_two-append before (d ∷ []) ds

-- characters after a context
after_context : (xs ds : List ℕ) → context_after (last_two [] xs) ds ≡ last_two [] (xs ++ ds)
after_context xs ds = context_after-last_two (last_two [] xs) ds (short (reverse xs ++ [])) ∙ last_two-append [] xs ds

-- what stands before two characters doesn't count
only_two : (xs ys : List ℕ) → 2 ≤ length ys → last_two [] (xs ++ ys) ≡ last_two [] ys
only_two xs ys two =
    ap (take 2) (append-nil (reverse (xs ++ ys)) ∙ reverse-append xs ys)
    ∙ take-append-le 2 (reverse ys) (reverse xs) (omega (arith, two, length-reverse ys))
    ∙ ap (take 2) (sym (append-nil (reverse ys)))

two_decomposed : (b c : ℕ) → 2 ≤ length (decompose Nfd b ++ decompose Nfd c)
two_decomposed b c =
    let one = (length-from_decompose Nfd b _ refl).0 in
    let other = (length-from_decompose Nfd c _ refl).0 in omega (arith, length-append (decompose Nfd b) (decompose Nfd c), one, other)

-- one more character
more : (older last : Option ℕ) (c : ℕ)
    → last_two [] (flat_map (decompose Nfd) (facts_read last (Some c))) ≡ context_after (last_two [] (flat_map (decompose Nfd) (facts_read older last))) (decompose Nfd c)
more older None c =
    ap (last_two []) (append-nil (decompose Nfd c)) ∙ sym (after_context [] (decompose Nfd c))
more None (Some b) c =
    let db = decompose Nfd b in
    let dc = decompose Nfd c in
    ap (λ l. last_two [] (db ++ l)) (append-nil dc)
    ∙ sym (after_context db dc)
    ∙ ap (λ l. context_after (last_two [] l) dc) (sym (append-nil db))
more (Some a) (Some b) c =
    let da = decompose Nfd a in
    let db = decompose Nfd b in
    let dc = decompose Nfd c in
    ap (λ l. last_two [] (db ++ l)) (append-nil dc)
    ∙ sym (only_two da (db ++ dc) (two_decomposed b c))
    ∙ ap (last_two []) (sym (append_assoc da db dc))
    ∙ sym (after_context (da ++ db) dc)
    ∙ ap (λ l. context_after (last_two [] (da ++ l)) dc) (sym (append-nil db))

pub context_more : (r s : LastCharacters) (c : ℕ) → s.older ≡ r.last → s.last ≡ Some c → context_read s ≡ context_after (context_read r) (decompose Nfd c)
unfolding context_read
context_more r s c older last = rw (older, last) (more r.older r.last c)

-- ---- what a prefix looks back at

read_in_turn : (older last : Option ℕ) → is_some last ≡ true
    → last_two (last_two [] (flat_map (decompose Nfd) (option_to_list older))) (flat_map (decompose Nfd) (option_to_list last)) ≡ last_two [] (flat_map (decompose Nfd) (facts_read older last))
read_in_turn older None some = absurd (cc)
read_in_turn None (Some c) some = last_two-append [] [] (decompose Nfd c ++ [])
read_in_turn (Some b) (Some c) some =
    last_two-append [] (decompose Nfd b ++ []) (decompose Nfd c ++ [])
    ∙ ap (λ l. last_two [] (l ++ (decompose Nfd c ++ []))) (append-nil (decompose Nfd b))

-- the older character and the last one, each decomposed
pub recent_read : (r : LastCharacters) (none one both : List ℕ) → is_some r.last ≡ true → none ≡ [] → one ≡ last_two none (flat_map (decompose Nfd) (option_to_list r.older))
    → both ≡ last_two one (flat_map (decompose Nfd) (option_to_list r.last)) → both ≡ context_read r
unfolding context_read
recent_read r none one both some begun first second =
    second
    ∙ ap (λ l. last_two l (flat_map (decompose Nfd) (option_to_list r.last))) (first ∙ ap (λ l. last_two l (flat_map (decompose Nfd) (option_to_list r.older))) begun)
    ∙ read_in_turn r.older r.last some
