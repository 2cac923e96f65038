-- Texts that are cut where a mark occurs for the first time.
use Rattle.std.proofs.Common.{◌≡◌, ℕ, ◌+◌, ◌<◌, ◌≤◌, List, [], ◌∷◌, ◌++◌, length, take, drop, Option, Some, None, refl, sym, ◌∙◌, ap, subst, append_assoc, arith, length-append, get_or, zero, suc, add-one}
use Rattle.std.specs.Prelude.{MatchOption}
use Rattle.std.specs.Str.Pattern.{FindsText, LacksTextAt, HasTextAt}
use Rattle.std.proofs.Math.Seq.{drop-append_seam}
use Rattle.std.proofs.lemmas.List.{take-append-drop, length-take-le}
use Rattle.std.proofs.lemmas.Str.Pattern.{split_text_parts}
use Rattle.std.specs.Str.{IsUtf8, IsCharBoundary}
use Rattle.std.proofs.lemmas.Str.{IsCharBoundary-start, IsCharBoundary-after_ascii}
use denote.Ref.{Bor}
use Rattle.icu_cldr_files.specs.xml.SpelledParts.{LacksText, IsCutAround, IsCutBefore}

-- a text in which a mark is nowhere lacks it
pub lacks_where_none : (mark s : List ℕ) → ((i : ℕ) → i ≤ length s → LacksTextAt mark s i) → LacksText mark s
lacks_where_none mark s none before after e =
    let whole : length s ≡ length before + length (mark ++ after) = ap length e ∙ length-append before (mark ++ after) in
    none (length before) (omega arith) after (ap (drop (length before)) e ∙ drop-append_seam before (mark ++ after))

-- what stands before the first occurrence of a mark lacks it
pub lacks_before_first : (mark s : List ℕ) (i : ℕ) → 0 < length mark → i ≤ length s → ((k : ℕ) → k < i → LacksTextAt mark s k) → LacksText mark (take i s)
lacks_before_first mark s i some inside none before after e =
    let front : length (take i s) ≡ length before + length (mark ++ after) = ap length e ∙ length-append before (mark ++ after) in
    let middle : length (mark ++ after) ≡ length mark + length after = length-append mark after in
    let short : length (take i s) ≡ i = length-take-le i s inside in
    let split : s ≡ before ++ (mark ++ (after ++ drop i s)) =
    sym (take-append-drop i s) ∙ (ap (λ t. t ++ drop i s) e ∙ (append_assoc before (mark ++ after) (drop i s) ∙ ap (λ t. before ++ t) (append_assoc mark after (drop i s)))) in
    none (length before) (omega arith) (after ++ drop i s) (ap (drop (length before)) split ∙ drop-append_seam before (mark ++ (after ++ drop i s)))

-- what `split_once` gives
pub cut_around_cases : (mark s : List ℕ) (r : Option (Bor (List ℕ) × Bor (List ℕ))) → 0 < length mark
    → MatchOption r (FindsText mark s None) (λ x. (i : ℕ) × (j : ℕ) × FindsText mark s (Some (i, j)) × (x.0.now ≡ take i s) × (x.1.now ≡ drop j s) × (i ≤ j) × (length x.0.now ≡ i) × (length x.1.now + j ≡ length s))
    → MatchOption r (LacksText mark s) (λ x. IsCutAround mark s x.0.now x.1.now)
cut_around_cases mark s None some h = lacks_where_none mark s h
cut_around_cases mark s (Some x) some h = record {
  whole = split_text_parts mark s (Some x) h;
  first =
      let inside : h.0 ≤ length s = omega (arith, h.5, h.7) in
      subst (λ t. LacksText mark t) (sym h.3) (lacks_before_first mark s h.0 some inside h.2.0);
}

-- a text cut where `find` finds a mark
pub cut_before_at : (mark s before rest : List ℕ) (i j : ℕ) → 0 < length mark → i ≤ length s
    → ((k : ℕ) → k < i → LacksTextAt mark s k) → HasTextAt mark s i j → before ≡ take i s → rest ≡ drop i s → IsCutBefore mark s before rest
cut_before_at mark s before rest i j some inside none has front back = record {
  whole = sym (take-append-drop i s) ∙ (ap (λ t. t ++ drop i s) (sym front) ∙ ap (λ t. before ++ t) (sym back));
  at = (drop j s, back ∙ has.split);
  first = subst (λ t. LacksText mark t) (sym front) (lacks_before_first mark s i some inside none);
}

-- a text may be cut behind characters of ASCII
pub boundary_behind : (bs : List ℕ) (n : ℕ) → IsUtf8 bs → n ≤ length bs → ((k : ℕ) → k < n → get_or bs k 0 < 128) → IsCharBoundary bs n
boundary_behind bs zero utf8 inside ascii = IsCharBoundary-start bs utf8
boundary_behind bs (suc n) utf8 inside ascii =
    let at : n < length bs = omega arith in
    let below : n < suc n = omega arith in
    let behind : IsCharBoundary bs (n + 1) = IsCharBoundary-after_ascii bs n utf8 at (ascii n below) in
    subst (λ m. IsCharBoundary bs m) (add-one n) behind

-- what stands behind a mark is shorter
pub shorter_around : (mark text before after : List ℕ) → IsCutAround mark text before after → length after + length mark ≤ length text
shorter_around mark text before after cut =
    let whole : length text ≡ length before + length (mark ++ after) = ap length cut.whole ∙ length-append before (mark ++ after) in
    let behind : length (mark ++ after) ≡ length mark + length after = length-append mark after in
    omega arith
