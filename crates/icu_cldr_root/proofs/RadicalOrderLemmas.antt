-- The order of ideographs by radicals, line by line.
use Rattle.std.proofs.Common.{◌≡◌, ℕ, Bool, true, false, List, [], ◌∷◌, ◌++◌, Option, Some, None, refl, sym, ap, ◌∙◌, append_assoc}
use Rattle.std.specs.Prelude.{◌||◌, IfSome}
use Rattle.std.specs.List.{AllZip, flat_map, list_any}
use Rattle.std.proofs.lemmas.List.{append-nil}
use Rattle.std.proofs.lemmas.List.Folds.{list_any-append}
use Rattle.icu_cldr_root.specs.FileLines.{BeginsWithLines, LinesRead}
use Rattle.icu_cldr_root.specs.IdeographOrder.{first_ideographs}
use Rattle.icu_cldr_root.specs.RadicalOrder.{IsRadicalOrder, RadicalLineSays, is_radical_end, radical_ranges}
use Rattle.icu_cldr_root.specs.declared.ideograph_order.IdeographOrder.{IdeographOrder}
use Rattle.icu_cldr_root.specs.declared.ideographs.CharRange.{CharRange}
use Rattle.icu_cldr_root.specs.declared.radical_line.RadicalLine.{RadicalLine}
use Rattle.icu_cldr_root.specs.declared.radical_line.RadicalLine.TheVariants as says

-- lines that say radicals, and no end of them
pub record SayRadicals (ranges : List CharRange) (lines : List (List ℕ)) (said : List RadicalLine) : Type 0 where
  pub say : AllZip RadicalLineSays lines said
  pub unended : list_any is_radical_end said ≡ false
  pub are : ranges ≡ flat_map radical_ranges said

-- no line
pub radicals_none : SayRadicals [] [] []
radicals_none = record { say = tt; unended = refl; are = refl }

says_more : (lines : List (List ℕ)) (said : List RadicalLine) (line : List ℕ) (one : RadicalLine) → AllZip RadicalLineSays lines said
    → RadicalLineSays line one → AllZip RadicalLineSays (lines ++ line ∷ []) (said ++ one ∷ [])
says_more [] [] line one all is = (is, tt)
says_more [] (x ∷ xs) line one all is = absurd all
says_more (l ∷ ls) [] line one all is = absurd all
says_more (l ∷ ls) (x ∷ xs) line one all is = (all.0, says_more ls xs line one all.1 is)

ranges_more : (said : List RadicalLine) (one : RadicalLine) → flat_map radical_ranges (said ++ one ∷ []) ≡ flat_map radical_ranges said ++ radical_ranges one
ranges_more [] one = append-nil (radical_ranges one)
ranges_more (x ∷ xs) one =
    ap (λ rs. radical_ranges x ++ rs) (ranges_more xs one)
    ∙ sym (append_assoc (radical_ranges x) (flat_map radical_ranges xs) (radical_ranges one))

neither : (a b : Bool) → a ≡ false → b ≡ false → (a || (b || false)) ≡ false
neither false false h l = refl
neither false true h l = cc
neither true b h l = cc

-- one line more
pub radicals_more : (old new : List CharRange) (lines : List (List ℕ)) (said : List RadicalLine) (line : List ℕ) (one : RadicalLine)
    → SayRadicals old lines said → RadicalLineSays line one → is_radical_end one ≡ false → new ≡ old ++ radical_ranges one
    → SayRadicals new (lines ++ line ∷ []) (said ++ one ∷ [])
radicals_more old new lines said line one have is other adds = record {
  say = says_more lines said line one have.say is;
  unended = list_any-append is_radical_end said (one ∷ []) ∙ neither (list_any is_radical_end said) (is_radical_end one) have.unended other;
  are = adds ∙ ap (λ rs. rs ++ radical_ranges one) have.are ∙ sym (ranges_more said one);
}

begins : (bytes : List ℕ) (left : Option (List ℕ)) (lines : List (List ℕ)) → LinesRead (Some bytes) lines left → BeginsWithLines bytes lines
begins bytes None lines read = absurd read
begins bytes (Some left) lines read = (left, read)

ends : (line : List ℕ) (one : RadicalLine) → is_radical_end one ≡ true → RadicalLineSays line one → RadicalLineSays line says.End
ends line says.Other h is = cc
ends line (says.Ideographs ranges) h is = cc
ends line says.End h is = is

no_ranges : (one : RadicalLine) → is_radical_end one ≡ true → radical_ranges one ≡ []
no_ranges says.Other h = refl
no_ranges (says.Ideographs ranges) h = cc
no_ranges says.End h = refl

-- the last of the lines
pub radicals_end : (known left : Option (List ℕ)) (old : List CharRange) (order : IdeographOrder) (lines : List (List ℕ)) (said : List RadicalLine) (line : List ℕ)
    (one : RadicalLine) → LinesRead known (lines ++ line ∷ []) left → SayRadicals old lines said → RadicalLineSays line one → is_radical_end one ≡ true
    → order.first.items ≡ old ++ radical_ranges one → IfSome known (λ bytes. IsRadicalOrder bytes (first_ideographs order))
unfolding first_ideographs
radicals_end None left old order lines said line one read have is end adds = tt
radicals_end (Some bytes) left old order lines said line one read have is end adds = record {
  lines = lines;
  last = line;
  said = said;
  begins = begins bytes left (lines ++ line ∷ []) read;
  say = have.say;
  unended = have.unended;
  ended = ends line one end is;
  are = adds ∙ ap (λ rs. old ++ rs) (no_ranges one end) ∙ append-nil old ∙ have.are;
}
