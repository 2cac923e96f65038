-- The last of the elements of a rule, and those that count at a level.
use Rattle.std.proofs.Common.{◌≡◌, ℕ, zero, suc, ◌+◌, ◌-◌, ◌<◌, ◌≤◌, List, [], ◌∷◌, ◌++◌, length, take, get_or, refl, ap, sym, ◌∙◌, arith}
use Rattle.std.proofs.lemmas.Bool.{le-leb, lt-leb}
use Rattle.std.proofs.lemmas.List.{take_more}
use Rattle.icu_rule_meaning.specs.declared.symbolic.SymbolicElement.{SymbolicElement}
use Rattle.icu_rule_meaning.specs.Steps.{counting_at, last_element, front_elements}

pub sub_one : (n : ℕ) → suc n - 1 ≡ n
sub_one n = omega arith

pub last_is : (es : List SymbolicElement) (d : SymbolicElement) → 0 < length es → last_element es ≡ get_or es (length es - 1) d
last_is [] d some = absurd (omega arith)
last_is (e ∷ []) d some = refl
last_is (e ∷ f ∷ es) d some =
    last_is (f ∷ es) d (omega arith)
    ∙ (ap (λ n. get_or (f ∷ es) n d) (sub_one (length es)) ∙ sym (ap (λ n. get_or (e ∷ f ∷ es) n d) (sub_one (length (f ∷ es)))))

pub front_is : (es : List SymbolicElement) → front_elements es ≡ take (length es - 1) es
front_is [] = refl
front_is (e ∷ []) = refl
front_is (e ∷ f ∷ es) =
    ap (λ gs. e ∷ gs) (front_is (f ∷ es) ∙ ap (λ n. take n (f ∷ es)) (sub_one (length es)))
    ∙ sym (ap (λ n. take n (e ∷ f ∷ es)) (sub_one (length (f ∷ es))))

counting_without : (level : ℕ) (es : List SymbolicElement) (e : SymbolicElement) → level < e.strength
    → counting_at level (es ++ e ∷ []) ≡ counting_at level es
unfolding counting_at
counting_without level [] e more = rw (lt-leb e.strength level more) refl
counting_without level (f ∷ es) e more = rw (counting_without level es e more) refl

counting_more : (level : ℕ) (f g : SymbolicElement) (es gs : List SymbolicElement) → counting_at level es ≡ g ∷ gs
    → counting_at level (f ∷ es) ≡ f ∷ g ∷ gs
unfolding counting_at
counting_more level f g es gs is = rw is refl

counting_with : (level : ℕ) (es : List SymbolicElement) (e : SymbolicElement) → e.strength ≤ level
    → counting_at level (es ++ e ∷ []) ≡ es ++ e ∷ []
unfolding counting_at
counting_with level [] e most = rw (le-leb e.strength level most) refl
counting_with level (f ∷ []) e most = counting_more level f e (e ∷ []) [] (counting_with level [] e most)
counting_with level (f ∷ g ∷ es) e most =
    counting_more level f g (g ∷ (es ++ e ∷ [])) (es ++ e ∷ []) (counting_with level (g ∷ es) e most)

-- an element that doesn't count is passed over
pub counting_further : (level : ℕ) (es : List SymbolicElement) (kept : ℕ) (d : SymbolicElement) → 0 < kept → kept ≤ length es
    → level < (get_or es (kept - 1) d).strength → counting_at level (take (kept - 1) es) ≡ counting_at level (take kept es)
counting_further level es kept d some most more =
    let last : kept - 1 + 1 ≡ kept = omega arith in
    sym (ap (λ n. counting_at level (take n es)) (sym last)
    ∙ (ap (counting_at level) (take_more es (kept - 1) d (omega arith))
    ∙ counting_without level (take (kept - 1) es) (get_or es (kept - 1) d) more))

-- one that counts ends them
pub counting_ended : (level : ℕ) (es : List SymbolicElement) (kept : ℕ) (d : SymbolicElement) → 0 < kept → kept ≤ length es
    → (get_or es (kept - 1) d).strength ≤ level → counting_at level (take kept es) ≡ take kept es
counting_ended level es kept d some most counts =
    let last : kept - 1 + 1 ≡ kept = omega arith in
    let whole : take kept es ≡ take (kept - 1) es ++ get_or es (kept - 1) d ∷ [] =
    ap (λ n. take n es) (sym last) ∙ take_more es (kept - 1) d (omega arith) in
    ap (counting_at level) whole ∙ (counting_with level (take (kept - 1) es) (get_or es (kept - 1) d) counts ∙ sym whole)

-- where none is left, none counts
pub counting_stopped : (level : ℕ) (es : List SymbolicElement) (kept : ℕ) → kept ≤ 0 → take kept es ≡ counting_at level (take kept es)
unfolding counting_at
counting_stopped level es zero most = refl
counting_stopped level es (suc kept) most = absurd (omega arith)
