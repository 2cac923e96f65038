-- Mappings by their suffixes, and which suffixes begin characters.
use Rattle.std.proofs.Common.{◌≡◌, ◌⊎◌, inl, inr, ℕ, Bool, true, false, List, [], ◌∷◌, ◌++◌, take, Option, Some, None, refl, sym, ap, ◌∙◌, if◌then◌else◌}
use Rattle.std.specs.Prelude.{◌||◌, not, nat_eq, filter, bytes_eq}
use Rattle.std.specs.List.{list_any, starts_with}
use Rattle.std.proofs.lemmas.Slice.Eq.{bytes_eq-Decides}
use Rattle.std.proofs.Math.Bool.{or-true}
use Rattle.icu_table_mappings.proofs.SurroundingLemmas.{same_from_true}
use Rattle.icu_table_mappings.proofs.NearestLemmas.{begins_with_part, is_beginning}
use Rattle.icu_rule_meaning.specs.TailoredMappings.{SymbolicMapping, begin_suffix, mapping_with}

-- one of the mappings has a suffix that begins the characters
abbrev pub begin_chars : List SymbolicMapping → List ℕ → Bool
begin_chars own after = list_any (λ (m : SymbolicMapping). starts_with nat_eq after m.suffix) own

-- ---- finding a suffix

-- the first mapping is found, or one of those behind it
pub found_here : (b : Bool) (x m : SymbolicMapping) (o : Option SymbolicMapping) → (if b then Some x else o) ≡ Some m → ((b ≡ true) × (x ≡ m)) ⊎ ((b ≡ false) × (o ≡ Some m))
found_here true x m o h = inl (refl, cc)
found_here false x m o h = inr (refl, h)

-- a mapping that is found has the suffix
pub found_suffix : (ms : List SymbolicMapping) (after : List ℕ) (m : SymbolicMapping) → mapping_with ms after ≡ Some m → m.suffix ≡ after
found_suffix [] after m h = cc
found_suffix (x ∷ ms) after m h = here (found_here (bytes_eq x.suffix after) x m (mapping_with ms after) h) (λ g. found_suffix ms after m g) where
  here : ((bytes_eq x.suffix after ≡ true) × (x ≡ m)) ⊎ ((bytes_eq x.suffix after ≡ false) × (mapping_with ms after ≡ Some m))
      → (mapping_with ms after ≡ Some m → m.suffix ≡ after) → m.suffix ≡ after
  here (inl (same, is)) more = ap (λ (y : SymbolicMapping). y.suffix) (sym is) ∙ same_from_true x.suffix after same
  here (inr (other, later)) more = more later

-- no mapping has a suffix where there are no mappings, and only there
pub without_suffixes : (ms : List SymbolicMapping) → ((after : List ℕ) → mapping_with ms after ≡ None) → ms ≡ []
without_suffixes [] none = refl
without_suffixes (m ∷ ms) none =
    let found : mapping_with (m ∷ ms) m.suffix ≡ Some m = ap (λ b. if b then Some m else mapping_with ms m.suffix) ((bytes_eq-Decides m.suffix m.suffix).1 refl) in
    let not_found : mapping_with (m ∷ ms) m.suffix ≡ None = none m.suffix in
    cc

-- of two lists the first counts
pub first_of_both : (ms ns : List SymbolicMapping) (after : List ℕ) (m : SymbolicMapping) → mapping_with ms after ≡ Some m → mapping_with (ms ++ ns) after ≡ Some m
first_of_both [] ns after m h = cc
first_of_both (x ∷ ms) ns after m h = here (bytes_eq x.suffix after) (λ g. first_of_both ms ns after m g) h where
  here : (b : Bool) → (mapping_with ms after ≡ Some m → mapping_with (ms ++ ns) after ≡ Some m)
      → (if b then Some x else mapping_with ms after) ≡ Some m → (if b then Some x else mapping_with (ms ++ ns) after) ≡ Some m
  here true more h = h
  here false more h = more h

none_here : (b : Bool) (x : SymbolicMapping) (o : Option SymbolicMapping) → (if b then Some x else o) ≡ None → (b ≡ false) × (o ≡ None)
none_here true x o h = cc
none_here false x o h = (refl, h)

pub second_of_both : (ms ns : List SymbolicMapping) (after : List ℕ) → mapping_with ms after ≡ None → mapping_with (ms ++ ns) after ≡ mapping_with ns after
second_of_both [] ns after h = refl
second_of_both (x ∷ ms) ns after h =
    let n = none_here (bytes_eq x.suffix after) x (mapping_with ms after) h in
    ap (λ b. if b then Some x else mapping_with (ms ++ ns) after) n.0 ∙ second_of_both ms ns after n.1

-- ---- which suffixes begin characters

-- a suffix that is the first of the characters begins them
pub with_begins : (own : List SymbolicMapping) (after : List ℕ) (k : ℕ) (m : SymbolicMapping) → mapping_with own (take k after) ≡ Some m → begin_chars own after ≡ true
with_begins [] after k m h = cc
with_begins (x ∷ own) after k m h = here (found_here (bytes_eq x.suffix (take k after)) x m (mapping_with own (take k after)) h) (λ g. with_begins own after k m g) where
  here : ((bytes_eq x.suffix (take k after) ≡ true) × (x ≡ m)) ⊎ ((bytes_eq x.suffix (take k after) ≡ false) × (mapping_with own (take k after) ≡ Some m))
      → (mapping_with own (take k after) ≡ Some m → begin_chars own after ≡ true) → (starts_with nat_eq after x.suffix || begin_chars own after) ≡ true
  here (inl (same, is)) more =
      ap (λ ks. starts_with nat_eq after ks || begin_chars own after) (same_from_true x.suffix (take k after) same)
      ∙ ap (λ b. b || begin_chars own after) (begins_with_part k after)
  here (inr (other, later)) more = ap (λ b. starts_with nat_eq after x.suffix || b) (more later) ∙ or-true (starts_with nat_eq after x.suffix)

-- and one that begins them is the first of them
pub begun_with : (own : List SymbolicMapping) (after : List ℕ) → begin_chars own after ≡ true → (k : ℕ) × (m : SymbolicMapping) × (mapping_with own (take k after) ≡ Some m)
begun_with [] after h = cc
begun_with (x ∷ own) after h = here (starts_with nat_eq after x.suffix) refl (λ g. begun_with own after g) h where
  later : (k : ℕ) (m : SymbolicMapping) → mapping_with own (take k after) ≡ Some m → (b : Bool)
      → (n : SymbolicMapping) × ((if b then Some x else mapping_with own (take k after)) ≡ Some n)
  later k m h true = (x, refl)
  later k m h false = (m, h)

  here : (b : Bool) → starts_with nat_eq after x.suffix ≡ b
      → (begin_chars own after ≡ true → (k : ℕ) × (m : SymbolicMapping) × (mapping_with own (take k after) ≡ Some m)) → (b || begin_chars own after) ≡ true
      → (k : ℕ) × (m : SymbolicMapping) × (mapping_with (x ∷ own) (take k after) ≡ Some m)
  here true is more h =
      let at = is_beginning x.suffix after is in
      (at.0, x, ap (λ b. if b then Some x else mapping_with own (take at.0 after)) at.2)
  here false is more h =
      let at = more h in
      let found = later at.0 at.1 at.2 (bytes_eq x.suffix (take at.0 after)) in
      (at.0, found.0, found.1)

-- a mapping without a suffix begins all
pub plain_begins : (own : List SymbolicMapping) (after : List ℕ) → list_any (λ (m : SymbolicMapping). bytes_eq m.suffix []) own ≡ true → begin_chars own after ≡ true
plain_begins [] after h = cc
plain_begins (x ∷ own) after h = here (bytes_eq x.suffix []) refl (λ g. plain_begins own after g) h where
  here : (b : Bool) → bytes_eq x.suffix [] ≡ b → (list_any (λ (m : SymbolicMapping). bytes_eq m.suffix []) own ≡ true → begin_chars own after ≡ true)
      → (b || list_any (λ (m : SymbolicMapping). bytes_eq m.suffix []) own) ≡ true
      → (starts_with nat_eq after x.suffix || begin_chars own after) ≡ true
  here true is more h = ap (λ ks. starts_with nat_eq after ks || begin_chars own after) (same_from_true x.suffix [] is)
  here false is more h = ap (λ b. starts_with nat_eq after x.suffix || b) (more h) ∙ or-true (starts_with nat_eq after x.suffix)

-- ---- the mappings of shorter prefixes

-- without longer ones all count
pub all_unbegun : (ms : List SymbolicMapping) → filter (λ m. not (begin_suffix [] m)) ms ≡ ms
all_unbegun [] = refl
all_unbegun (m ∷ ms) = ap (λ (xs : List SymbolicMapping). m ∷ xs) (all_unbegun ms)

-- those with a suffix that is begun don't
pub none_unbegun : (own ms : List SymbolicMapping) (after : List ℕ) → begin_chars own after ≡ true → mapping_with (filter (λ m. not (begin_suffix own m)) ms) after ≡ None
none_unbegun own [] after h = refl
none_unbegun own (m ∷ ms) after h = here (none_unbegun own ms after h) (begin_suffix own m) refl where
  by_suffix : mapping_with (filter (λ m. not (begin_suffix own m)) ms) after ≡ None → (b : Bool) → bytes_eq m.suffix after ≡ b → begin_suffix own m ≡ false
      → (if b then Some m else mapping_with (filter (λ m. not (begin_suffix own m)) ms) after) ≡ None
  by_suffix more true same unbegun =
      let begun : begin_suffix own m ≡ true = ap (begin_chars own) (same_from_true m.suffix after same) ∙ h in
      cc
  by_suffix more false same unbegun = more

  here : mapping_with (filter (λ m. not (begin_suffix own m)) ms) after ≡ None → (b : Bool) → begin_suffix own m ≡ b
      → mapping_with (if not b then m ∷ filter (λ m. not (begin_suffix own m)) ms else filter (λ m. not (begin_suffix own m)) ms) after ≡ None
  here more true is = more
  here more false is = by_suffix more (bytes_eq m.suffix after) refl is

-- and the others do
pub still_unbegun : (own ms : List SymbolicMapping) (after : List ℕ) → begin_chars own after ≡ false
    → mapping_with (filter (λ m. not (begin_suffix own m)) ms) after ≡ mapping_with ms after
still_unbegun own [] after h = refl
still_unbegun own (m ∷ ms) after h = here (still_unbegun own ms after h) (begin_suffix own m) refl where
  by_suffix : mapping_with (filter (λ m. not (begin_suffix own m)) ms) after ≡ mapping_with ms after → (b : Bool) → bytes_eq m.suffix after ≡ b → begin_suffix own m ≡ true
      → mapping_with (filter (λ m. not (begin_suffix own m)) ms) after ≡ (if b then Some m else mapping_with ms after)
  by_suffix more true same begun =
      let unbegun : begin_suffix own m ≡ false = ap (begin_chars own) (same_from_true m.suffix after same) ∙ h in
      cc
  by_suffix more false same begun = more

  here : mapping_with (filter (λ m. not (begin_suffix own m)) ms) after ≡ mapping_with ms after → (b : Bool) → begin_suffix own m ≡ b
      → mapping_with (if not b then m ∷ filter (λ m. not (begin_suffix own m)) ms else filter (λ m. not (begin_suffix own m)) ms) after
      ≡ (if bytes_eq m.suffix after then Some m else mapping_with ms after)
  here more true is = by_suffix more (bytes_eq m.suffix after) refl is
  here more false is = ap (λ (o : Option SymbolicMapping). if bytes_eq m.suffix after then Some m else o) more
