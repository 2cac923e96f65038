-- Keys of a buffer that grows, and lines with them.
use Rattle.std.proofs.Common.{◌≡◌, ℕ, zero, suc, ◌+◌, ◌-◌, ◌<◌, ◌≤◌, ◌⊎◌, inl, inr, min, Bool, true, false, ◌&&◌, List, [], ◌∷◌, ◌++◌, drop, get_or, length, length-append, length-drop, Result, Ok, Err, OnErr, is_ok, nat_eq, nat_le, take, if◌then◌else◌, refl, sym, ap, ◌∙◌, arith}
use Rattle.std.proofs.Math.Seq.{drop-append_seam, drop-cons, take-length}
use Rattle.std.proofs.lemmas.Bool.Decides.{nat_tests}
use Rattle.std.proofs.lemmas.Bool.{cases_lt, and_parts}
use Rattle.std.proofs.lemmas.List.{drop-append-le, take-append-le}
use Rattle.std.specs.List.{zip}
use Rattle.line_sorts.specs.KeyBuffers.{keys_cut}
use Rattle.line_sorts.specs.KeyParts.{ascends_to, key_part}

le_of : (a b : ℕ) → nat_le a b ≡ true → a ≤ b
le_of a b h = grind (arith, nat_tests)

of_le : (a b : ℕ) → a ≤ b → nat_le a b ≡ true
of_le a b h = grind (arith, nat_tests)

pub eq_of : (a b : ℕ) → nat_eq a b ≡ true → a ≡ b
eq_of a b h = grind (arith, nat_tests)

pub of_eq : (a : ℕ) → nat_eq a a ≡ true
of_eq a = grind (arith, nat_tests)

-- ---- parts

there : (bytes : List ℕ) (i j : ℕ) → i ≤ j → j ≤ length bytes → key_part bytes i j ≡ take (j - i) (drop i bytes)
there bytes i j low high = at (nat_le i j) (nat_le j (length bytes)) (of_le i j low) (of_le j (length bytes) high) where
  at : (a b : Bool) → a ≡ true → b ≡ true → (if a && b then take (j - i) (drop i bytes) else []) ≡ take (j - i) (drop i bytes)
  at a b e f = rw (e, f) refl

part_more : (bytes more : List ℕ) (i j : ℕ) → i ≤ j → j ≤ length bytes → key_part (bytes ++ more) i j ≡ key_part bytes i j
part_more bytes more i j low high =
    there (bytes ++ more) i j low (omega (arith, length-append bytes more))
    ∙ (ap (take (j - i)) (drop-append-le i bytes more (omega arith))
    ∙ (take-append-le (j - i) (drop i bytes) more (omega (arith, length-drop i bytes))
    ∙ sym (there bytes i j low high)))

part_last : (bytes key : List ℕ) → key_part (bytes ++ key) (length bytes) (length (bytes ++ key)) ≡ key
part_last bytes key =
    let n : length (bytes ++ key) - length bytes ≡ length key = omega (arith, length-append bytes key) in
    there (bytes ++ key) (length bytes) (length (bytes ++ key)) (omega (arith, length-append bytes key)) (omega arith)
    ∙ (ap (λ k. take k (drop (length bytes) (bytes ++ key))) n
    ∙ (ap (take (length key)) (drop-append_seam bytes key) ∙ take-length key))

-- ---- ends

reaches : (start : ℕ) (ends : List ℕ) (last : ℕ) → ascends_to start ends last ≡ true → start ≤ last
reaches start [] last h = let e = eq_of start last h in omega arith
reaches start (end ∷ ends) last h =
    let hs = and_parts (nat_le start end) (ascends_to end ends last) h in
    let first = le_of start end hs.0 in
    let more = reaches end ends last hs.1 in
    omega arith

-- one end more, from the last on
pub ascends_more : (start : ℕ) (ends : List ℕ) (last next : ℕ) → ascends_to start ends last ≡ true → last ≤ next
    → ascends_to start (ends ++ next ∷ []) next ≡ true
ascends_more start [] last next h low =
    let e = eq_of start last h in
    rw (of_le start next (omega arith)) (of_eq next)
ascends_more start (end ∷ ends) last next h low =
    let hs = and_parts (nat_le start end) (ascends_to end ends last) h in
    rw hs.0 (ascends_more end ends last next hs.1 low)

-- ---- keys

-- a key more, behind the others
pub keys_more : (start : ℕ) (ends bytes key : List ℕ) → ascends_to start ends (length bytes) ≡ true
    → keys_cut start (ends ++ length (bytes ++ key) ∷ []) (bytes ++ key) ≡ keys_cut start ends bytes ++ key ∷ []
keys_more start [] bytes key h =
    ap (λ k. k ∷ []) (ap (λ s. key_part (bytes ++ key) s (length (bytes ++ key))) (eq_of start (length bytes) h) ∙ part_last bytes key)
keys_more start (end ∷ ends) bytes key h =
    let hs = and_parts (nat_le start end) (ascends_to end ends (length bytes)) h in
    ap (λ k. k ∷ keys_cut end (ends ++ length (bytes ++ key) ∷ []) (bytes ++ key))
    (part_more bytes key start end (le_of start end hs.0) (reaches end ends (length bytes) hs.1))
    ∙ ap (λ ks. key_part bytes start end ∷ ks) (keys_more end ends bytes key hs.1)

-- as many as ends
pub keys_count : (start : ℕ) (ends bytes : List ℕ) → length (keys_cut start ends bytes) ≡ length ends
keys_count start [] bytes = refl
keys_count start (end ∷ ends) bytes = ap suc (keys_count end ends bytes)

-- the first key
pub first_key : (start : ℕ) (ends bytes : List ℕ) → 0 < length ends
    → get_or (keys_cut start ends bytes) 0 [] ≡ key_part bytes start (get_or ends 0 0)
first_key start [] bytes low = absurd (omega (arith, low))
first_key start (end ∷ ends) bytes low = refl

-- a key behind another
pub later_key : (start i : ℕ) (ends bytes : List ℕ) → suc i < length ends
    → get_or (keys_cut start ends bytes) (suc i) [] ≡ key_part bytes (get_or ends i 0) (get_or ends (suc i) 0)
later_key start i [] bytes low = absurd (omega (arith, low))
later_key start zero (end ∷ ends) bytes low = first_key end ends bytes (omega (arith, low))
later_key start (suc i) (end ∷ ends) bytes low = later_key end i ends bytes (omega (arith, low))

-- a key begins where the one before it ends
pub key_there : (i : ℕ) (ends bytes : List ℕ) → i < length ends
    → key_part bytes (if nat_eq i 0 then 0 else get_or ends (i - 1) 0) (get_or ends i 0) ≡ get_or (keys_cut 0 ends bytes) i []
key_there zero ends bytes low = sym (first_key 0 ends bytes low)
key_there (suc i) ends bytes low =
    ap (λ s. key_part bytes s (get_or ends (suc i) 0)) (at (nat_eq (suc i) 0) (grind (arith, nat_tests)) (suc i - 1) (omega arith))
    ∙ sym (later_key 0 i ends bytes low) where
      at : (b : Bool) → b ≡ false → (m : ℕ) → m ≡ i → (if b then 0 else get_or ends m 0) ≡ get_or ends i 0
      at false e m h = ap (λ n. get_or ends n 0) h
      at true e m h = absurd (cc)

-- behind the last key
no_key_from : (start i : ℕ) (ends bytes : List ℕ) → length ends ≤ i → get_or (keys_cut start ends bytes) i [] ≡ []
no_key_from start i [] bytes high = refl
no_key_from start zero (end ∷ ends) bytes high = absurd (omega (arith, high))
no_key_from start (suc i) (end ∷ ends) bytes high = no_key_from end i ends bytes (omega (arith, high))

pub no_key : (i : ℕ) (ends bytes : List ℕ) → length ends ≤ i → get_or (keys_cut 0 ends bytes) i [] ≡ []
no_key i ends bytes high = no_key_from 0 i ends bytes high

-- ---- lines with keys

-- the next key with the next line
pub next_pair : (i : ℕ) (keys lines : List (List ℕ)) → i < length keys → i < length lines
    → zip (drop i keys) (drop i lines) ≡ (get_or keys i [], get_or lines i []) ∷ zip (drop (suc i) keys) (drop (suc i) lines)
next_pair i keys lines low high = rw (drop-cons keys i [] low, drop-cons lines i [] high) refl

none_left : {X Y : Type 0} (xs : List X) (ys : List Y) → length xs ≡ 0 ⊎ (length ys ≡ 0) → zip xs ys ≡ []
none_left [] ys h = refl
none_left (x ∷ xs) [] h = refl
none_left (x ∷ xs) (y ∷ ys) (inl h) = absurd (cc)
none_left (x ∷ xs) (y ∷ ys) (inr h) = absurd (cc)

-- behind the last key or the last line there is no pair
pub no_pair : (i : ℕ) (keys lines : List (List ℕ)) → min (length lines) (length keys) ≤ i → zip (drop i keys) (drop i lines) ≡ []
no_pair i keys lines high = by (cases_lt i (length keys)) where
  by : (i < length keys) ⊎ (length keys ≤ i) → zip (drop i keys) (drop i lines) ≡ []
  by (inr low) = none_left (drop i keys) (drop i lines) (inl (omega (arith, length-drop i keys)))
  by (inl low) = none_left (drop i keys) (drop i lines) (inr (omega (arith, length-drop i lines)))

-- where there is room for one more, a push succeeds
pub succeeds : {T E : Type 0} (r : Result T E) (len room : ℕ) → OnErr r (room ≤ len) → len + 1 ≤ room → is_ok r ≡ true
succeeds (Ok x) len room full low = refl
succeeds (Err e) len room full low = absurd (omega (arith, full))

-- what a push that succeeds leaves
pub pushed : {T E : Type 0} (r : Result T E) (old new : List ℕ) (x y : ℕ) → is_ok r ≡ true → x ≡ y
    → new ≡ (if is_ok r then old ++ x ∷ [] else old) → new ≡ old ++ y ∷ []
pushed (Ok z) old new x y ok same h = h ∙ ap (λ n. old ++ n ∷ []) same
pushed (Err e) old new x y ok same h = absurd (cc)
