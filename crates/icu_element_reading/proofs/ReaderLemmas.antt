-- What reading a text keeps: the characters consumed last, and the elements that are left.
use Rattle.std.proofs.Common.{◌≡◌, ℕ, ◌+◌, ◌≤◌, ◌<◌, zero, suc, List, [], ◌∷◌, ◌++◌, length, take, reverse, get_or, Result, Ok, Err, OnOk, fold, refl, sym, ap, ap₂, ◌∙◌, append_assoc, append-nil, take_all, length-take, arith}
use Rattle.std.proofs.lemmas.List.{reverse-append, take-take}
use Rattle.std.specs.List.{push}
use Rattle.icu_table_entries.specs.Elements.{Element}
use Rattle.icu_element_reading.specs.declared.reader.recent.RecentChars.{RecentChars}
use Rattle.icu_element_reading.specs.declared.reader.position.Position.{Position}
use Rattle.icu_element_reading.specs.declared.text_reading.TextReading.{TextReading}
use Rattle.icu_element_reading.specs.TextElements.{Reading, step, last_two, elements_after}
use Rattle.icu_element_reading.proofs.StepLemmas.{Rests-step, elements_after_cons, elements_after_nil}
use Rattle.icu_element_reading.specs.inner.Positions.{consumed_last, unread_at, left_elements, IsStep}
use Rattle.icu_element_reading.specs.LastChars.{recent_chars}
use Rattle.icu_element_reading.specs.Reading.{reading_of}

-- ---- the characters consumed last

take-after : (k m : ℕ) (xs ys : List ℕ) → k ≤ m → take k (xs ++ take m ys) ≡ take k (xs ++ ys)
take-after k m [] ys h = take-take k m ys h
take-after zero m (x ∷ xs) ys h = refl
take-after (suc k) m (x ∷ xs) ys h = ap (λ l. x ∷ l) (take-after k m xs ys (omega arith))

pub last_two-append : (before xs ys : List ℕ) → last_two (last_two before xs) ys ≡ last_two before (xs ++ ys)
last_two-append before xs ys =
    take-after 2 2 (reverse ys) (reverse xs ++ before) (omega arith)
    ∙ ap (take 2) (sym (append_assoc (reverse ys) (reverse xs) before) ∙ ap (λ l. l ++ before) (sym (reverse-append xs ys)))

-- two places hold one more
pub one_more : (xs : List ℕ) (n c : ℕ) → length xs ≡ 2 → n < 2 → take (n + 1) (c ∷ get_or xs 0 0 ∷ []) ≡ last_two (take n xs) (c ∷ [])
one_more [] n c two h = absurd (omega arith)
one_more (x ∷ []) n c two h = absurd (omega arith)
one_more (x ∷ (y ∷ (z ∷ xs))) n c two h = absurd (omega arith)
one_more (x ∷ (y ∷ [])) zero c two h = refl
one_more (x ∷ (y ∷ [])) (suc zero) c two h = refl
one_more (x ∷ (y ∷ [])) (suc (suc n)) c two h = absurd (omega arith)

-- or one in place of the last
pub two_stay : (xs : List ℕ) (n c : ℕ) → length xs ≡ 2 → n ≤ 2 → 2 ≤ n → take n (c ∷ get_or xs 0 0 ∷ []) ≡ last_two (take n xs) (c ∷ [])
two_stay [] n c two h more = absurd (omega arith)
two_stay (x ∷ []) n c two h more = absurd (omega arith)
two_stay (x ∷ (y ∷ (z ∷ xs))) n c two h more = absurd (omega arith)
two_stay (x ∷ (y ∷ [])) zero c two h more = absurd (omega arith)
two_stay (x ∷ (y ∷ [])) (suc zero) c two h more = absurd (omega arith)
two_stay (x ∷ (y ∷ [])) (suc (suc zero)) c two h more = refl
two_stay (x ∷ (y ∷ [])) (suc (suc (suc n))) c two h more = absurd (omega arith)

-- two at most are kept
pub none_more : (r : RecentChars) → last_two (recent_chars r) [] ≡ recent_chars r
unfolding recent_chars
none_more r = take_all 2 (take r.len r.chars) (omega (arith, r.short, length-take r.len r.chars))

-- ---- what a call gives

pub on_ok : {T E : Type 0} (r : Result T E) (P Q : Type 0) → (P → Q) → OnOk r P → OnOk r Q
on_ok (Ok x) P Q f p = f p
on_ok (Err e) P Q f p = tt

pub fold_pushed : {X : Type 0} (xs ys : List X) → fold push xs ys ≡ xs ++ ys
fold_pushed xs [] = sym (append-nil xs)
fold_pushed xs (y ∷ ys) = fold_pushed (xs ++ y ∷ []) ys ∙ append_assoc xs (y ∷ []) ys

-- ---- steps

-- what a step appends and what it leaves are what there was
pub step_elements : (reading : Reading) (before : List ℕ) (c : ℕ) (text whole : List ℕ) (es fs : List Element) (p : Position) → whole ≡ c ∷ text
    → IsStep (step reading before c text) c before es fs p
    → fs ++ elements_after reading (consumed_last p) (unread_at p) ≡ es ++ elements_after reading before whole
step_elements reading before c text whole es fs p is h =
    let s = step reading before c text in
    ap (λ (l : List Element). l ++ elements_after reading (consumed_last p) (unread_at p)) h.elements
    ∙ append_assoc es s.elements (elements_after reading (consumed_last p) (unread_at p))
    ∙ ap (λ (l : List Element). es ++ l)
    (ap₂ (λ (b t : List ℕ). s.elements ++ elements_after reading b t) h.recent h.rest
    ∙ sym (elements_after_cons reading before c text)
    ∙ ap (elements_after reading before) (sym is))

-- nothing has no elements
pub none_unread : (reading : TextReading) (p : Position) → unread_at p ≡ [] → left_elements reading p ≡ []
none_unread reading p none =
    ap (elements_after (reading_of reading) (consumed_last p)) none ∙ elements_after_nil (reading_of reading) (consumed_last p)

-- it leaves fewer characters
pub step_shorter : (reading : Reading) (before : List ℕ) (c : ℕ) (text whole : List ℕ) (es fs : List Element) (p : Position) → whole ≡ c ∷ text
    → IsStep (step reading before c text) c before es fs p → length (unread_at p) < length whole
step_shorter reading before c text whole es fs p is h =
    let left : length (unread_at p) ≡ length (step reading before c text).rest = ap length h.rest in
    let all : length whole ≡ length (c ∷ text) = ap length is in
    let fits = (Rests-step reading before c text).fits in omega (arith, left, all, fits)
