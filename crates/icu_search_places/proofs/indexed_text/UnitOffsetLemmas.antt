-- How lists of offsets grow.
use Rattle.std.proofs.Common.{◌≡◌, ℕ, ◌+◌, List, [], ◌∷◌, ◌++◌, length, map, refl, sym, ap, ◌∙◌, arith, length-append, append_assoc}
use Rattle.std.specs.List.{concat}
use Rattle.std.proofs.lemmas.List.{nil_from_length, append-nil}
use Rattle.unicode_segmentation.specs.Segments.{with_offsets}
use Rattle.icu_search_places.specs.indexed_text.UnitOffsets.{offsets_along}

pub offsets-nil : (n : ℕ) → offsets_along n [] ≡ n ∷ []
unfolding offsets_along
offsets-nil n = refl

pub offsets-cons : (n size : ℕ) (sizes : List ℕ) → offsets_along n (size ∷ sizes) ≡ n ∷ offsets_along (n + size) sizes
unfolding offsets_along
offsets-cons n size sizes = refl

pub length-offsets : (n : ℕ) (sizes : List ℕ) → length (offsets_along n sizes) ≡ length sizes + 1
unfolding offsets_along
length-offsets n [] = refl
length-offsets n (size ∷ sizes) = omega (arith, length-offsets (n + size) sizes)

-- one more offset is written
pub one_more : (done new all : List ℕ) (n size : ℕ) (sizes rest : List ℕ) → new ≡ done ++ n ∷ [] → sizes ≡ size ∷ rest
    → done ++ offsets_along n sizes ≡ all → new ++ offsets_along (n + size) rest ≡ all
one_more done new all n size sizes rest pushed is so_far =
    ap (λ (l : List ℕ). l ++ offsets_along (n + size) rest) pushed ∙ append_assoc done (n ∷ []) (offsets_along (n + size) rest)
    ∙ ap (λ (l : List ℕ). done ++ l) (sym (ap (offsets_along n) is ∙ offsets-cons n size rest)) ∙ so_far

-- and the last one
pub last_one : (done new all : List ℕ) (n : ℕ) (sizes : List ℕ) → new ≡ done ++ n ∷ [] → sizes ≡ [] → done ++ offsets_along n sizes ≡ all → new ≡ all
last_one done new all n sizes pushed is so_far =
    pushed ∙ ap (λ (l : List ℕ). done ++ l) (sym (ap (offsets_along n) is ∙ offsets-nil n)) ∙ so_far

-- ---- of pieces

abbrev pub starts : List (ℕ × List ℕ) → List ℕ
starts pairs = map (λ (p : ℕ × List ℕ). p.0) pairs

pub piece_offsets : (n : ℕ) (ps : List (List ℕ)) → offsets_along n (map length ps) ≡ starts (with_offsets n ps) ++ (n + length (concat ps)) ∷ []
unfolding offsets_along with_offsets
piece_offsets n [] = let none : n + 0 ≡ n = omega arith in ap (λ k. k ∷ []) (sym none)
piece_offsets n (p ∷ ps) =
    let all : (n + length p) + length (concat ps) ≡ n + length (concat (p ∷ ps)) = omega (arith, length-append p (concat ps)) in
    ap (λ (l : List ℕ). n ∷ l) (piece_offsets (n + length p) ps ∙ ap (λ k. starts (with_offsets (n + length p) ps) ++ k ∷ []) all)

-- ---- characters that are read one after another

pub taken : (done new rest text all : List ℕ) (c : ℕ) → new ≡ done ++ c ∷ [] → text ≡ c ∷ rest → done ++ text ≡ all → new ++ rest ≡ all
taken done new rest text all c pushed is so_far =
    ap (λ (l : List ℕ). l ++ rest) pushed ∙ append_assoc done (c ∷ []) rest ∙ ap (λ (l : List ℕ). done ++ l) (sym is) ∙ so_far

-- where no character is left no size is
pub none_have_sizes : (text sizes : List ℕ) → length sizes ≡ length text → text ≡ [] → sizes ≡ []
none_have_sizes text sizes count none = nil_from_length sizes (count ∙ ap length none)

-- ---- pieces that are read one after another

pub one_start_more : (done new : List ℕ) (left rest : List (ℕ × List ℕ)) (all : List ℕ) (at : ℕ) (piece : List ℕ) → new ≡ done ++ at ∷ [] → left ≡ (at, piece) ∷ rest
    → done ++ starts left ≡ all → new ++ starts rest ≡ all
one_start_more done new left rest all at piece pushed is so_far = taken done new (starts rest) (starts left) all at pushed (ap starts is) so_far

pub all_starts : (done new : List ℕ) (left : List (ℕ × List ℕ)) (ps : List (List ℕ)) (size len : ℕ) → new ≡ done ++ len ∷ [] → left ≡ []
    → done ++ starts left ≡ starts (with_offsets 0 ps) → len ≡ size → length (concat ps) ≡ size → new ≡ offsets_along 0 (map length ps)
all_starts done new left ps size len pushed none so_far len_is size_is =
    let done_is : done ≡ starts (with_offsets 0 ps) = sym (append-nil done) ∙ ap (λ (l : List (ℕ × List ℕ)). done ++ starts l) (sym none) ∙ so_far in
    let end : len ≡ 0 + length (concat ps) = omega (arith, len_is, size_is) in
    pushed ∙ ap (λ (l : List ℕ). l ++ len ∷ []) done_is ∙ ap (λ n. starts (with_offsets 0 ps) ++ n ∷ []) end ∙ sym (piece_offsets 0 ps)
