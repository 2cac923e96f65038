-- Orders of texts by short rules, each with the levels at which texts differ from those before them.
use Rattle.std.proofs.Common.{◌≡◌, refl, [], ◌∷◌, codes}
use Rattle.icu_options.specs.declared.settings.Strength.TheVariants.{Primary, Secondary, Tertiary, Quaternary, Identical}
use Rattle.icu_rule_parser.specs.declared.statement.LogicalPosition.TheVariants.{FirstVariable, LastVariable, FirstRegular, LastRegular, FirstPrimaryIgnorable, LastPrimaryIgnorable, LastSecondaryIgnorable, LastTertiaryIgnorable, FirstImplicit}
use Rattle.icu_rule_meaning.specs.Rules.{relation, suppression}
use Rattle.icu_rule_meaning.proofs.ComputedRules.{icu_tailoring}
use Rattle.icu_rule_meaning.proofs.WorkedDifferences.{to, before, at, differs, order_by}

-- ---- the four strengths and identity
-- &a<x => a < ax < x < b << b́ < X
strengths_1 :
    order_by
    (to (codes "a") ∷ differs Primary (codes "x") ∷ [])
    (codes "a")
    (codes "ax" ∷ codes "x" ∷ codes "b" ∷ (98 ∷ 0x301 ∷ []) ∷ codes "X" ∷ [])
    ≡ 1 ∷ 1 ∷ 1 ∷ 2 ∷ 1 ∷ []
unfolding icu_tailoring
strengths_1 = refl

-- &a<<x => a << á << x < b < X
strengths_2 :
    order_by
    (to (codes "a") ∷ differs Secondary (codes "x") ∷ [])
    (codes "a")
    ((97 ∷ 0x301 ∷ []) ∷ codes "x" ∷ codes "b" ∷ codes "X" ∷ [])
    ≡ 2 ∷ 2 ∷ 1 ∷ 1 ∷ []
unfolding icu_tailoring
strengths_2 = refl

-- &a<<<x => a <<< x <<< A << á < b
strengths_3 :
    order_by
    (to (codes "a") ∷ differs Tertiary (codes "x") ∷ [])
    (codes "a")
    (codes "x" ∷ codes "A" ∷ (97 ∷ 0x301 ∷ []) ∷ codes "b" ∷ [])
    ≡ 3 ∷ 3 ∷ 2 ∷ 1 ∷ []
unfolding icu_tailoring
strengths_3 = refl

-- &a<<<<x => a <<<< x <<< A < b
strengths_4 :
    order_by
    (to (codes "a") ∷ differs Quaternary (codes "x") ∷ [])
    (codes "a")
    (codes "x" ∷ codes "A" ∷ codes "b" ∷ [])
    ≡ 4 ∷ 3 ∷ 1 ∷ []
unfolding icu_tailoring
strengths_4 = refl

-- &a=x => a = x <<< A < b
strengths_5 :
    order_by
    (to (codes "a") ∷ differs Identical (codes "x") ∷ [])
    (codes "a")
    (codes "x" ∷ codes "A" ∷ codes "b" ∷ [])
    ≡ 0 ∷ 3 ∷ 1 ∷ []
unfolding icu_tailoring
strengths_5 = refl

-- &a<x<<y<<<z<<<<w=v => a < x << y <<< z <<<< v = w < b
strengths_6 :
    order_by
    (to (codes "a") ∷ differs Primary (codes "x") ∷ differs Secondary (codes "y") ∷ differs Tertiary (codes "z") ∷ differs Quaternary (codes "w") ∷ differs Identical (codes "v") ∷ [])
    (codes "a")
    (codes "x" ∷ codes "y" ∷ codes "z" ∷ codes "v" ∷ codes "w" ∷ codes "b" ∷ [])
    ≡ 1 ∷ 2 ∷ 3 ∷ 4 ∷ 0 ∷ 1 ∷ []
unfolding icu_tailoring
strengths_6 = refl

-- &a;x,y => a <<< A << x <<< y
strengths_7 :
    order_by
    (to (codes "a") ∷ differs Secondary (codes "x") ∷ differs Tertiary (codes "y") ∷ [])
    (codes "a")
    (codes "A" ∷ codes "x" ∷ codes "y" ∷ [])
    ≡ 3 ∷ 2 ∷ 3 ∷ []
unfolding icu_tailoring
strengths_7 = refl

-- &a<*xyz => a < x < y < z < b
strengths_8 :
    order_by
    (to (codes "a") ∷ differs Primary (codes "x") ∷ differs Primary (codes "y") ∷ differs Primary (codes "z") ∷ [])
    (codes "a")
    (codes "x" ∷ codes "y" ∷ codes "z" ∷ codes "b" ∷ [])
    ≡ 1 ∷ 1 ∷ 1 ∷ 1 ∷ []
unfolding icu_tailoring
strengths_8 = refl

-- &a<*x-z => a < x < y < z < b
strengths_9 :
    order_by
    (to (codes "a") ∷ differs Primary (codes "x") ∷ differs Primary (codes "y") ∷ differs Primary (codes "z") ∷ [])
    (codes "a")
    (codes "x" ∷ codes "y" ∷ codes "z" ∷ codes "b" ∷ [])
    ≡ 1 ∷ 1 ∷ 1 ∷ 1 ∷ []
unfolding icu_tailoring
strengths_9 = refl

-- &a=*x-z => a = x = y = z
strengths_10 :
    order_by
    (to (codes "a") ∷ differs Identical (codes "x") ∷ differs Identical (codes "y") ∷ differs Identical (codes "z") ∷ [])
    (codes "a")
    (codes "x" ∷ codes "y" ∷ codes "z" ∷ [])
    ≡ 0 ∷ 0 ∷ 0 ∷ []
unfolding icu_tailoring
strengths_10 = refl

-- ---- resets: the last of several counts; after what was tailored there
-- &a<x&a<y => a < y < x < b
resets_1 :
    order_by
    (to (codes "a") ∷ differs Primary (codes "x") ∷ to (codes "a") ∷ differs Primary (codes "y") ∷ [])
    (codes "a")
    (codes "y" ∷ codes "x" ∷ codes "b" ∷ [])
    ≡ 1 ∷ 1 ∷ 1 ∷ []
unfolding icu_tailoring
resets_1 = refl

-- &a<x<y&x<z => a < x < z < y < b
resets_2 :
    order_by
    (to (codes "a") ∷ differs Primary (codes "x") ∷ differs Primary (codes "y") ∷ to (codes "x") ∷ differs Primary (codes "z") ∷ [])
    (codes "a")
    (codes "x" ∷ codes "z" ∷ codes "y" ∷ codes "b" ∷ [])
    ≡ 1 ∷ 1 ∷ 1 ∷ 1 ∷ []
unfolding icu_tailoring
resets_2 = refl

-- &a<<x&a<y => a << x < y < b
resets_3 :
    order_by
    (to (codes "a") ∷ differs Secondary (codes "x") ∷ to (codes "a") ∷ differs Primary (codes "y") ∷ [])
    (codes "a")
    (codes "x" ∷ codes "y" ∷ codes "b" ∷ [])
    ≡ 2 ∷ 1 ∷ 1 ∷ []
unfolding icu_tailoring
resets_3 = refl

-- &a<x&a<<y => a << y < x < b
resets_4 :
    order_by
    (to (codes "a") ∷ differs Primary (codes "x") ∷ to (codes "a") ∷ differs Secondary (codes "y") ∷ [])
    (codes "a")
    (codes "y" ∷ codes "x" ∷ codes "b" ∷ [])
    ≡ 2 ∷ 1 ∷ 1 ∷ []
unfolding icu_tailoring
resets_4 = refl

-- &a<<<x&a<<y => a <<< x <<< A << y < b
resets_5 :
    order_by
    (to (codes "a") ∷ differs Tertiary (codes "x") ∷ to (codes "a") ∷ differs Secondary (codes "y") ∷ [])
    (codes "a")
    (codes "x" ∷ codes "A" ∷ codes "y" ∷ codes "b" ∷ [])
    ≡ 3 ∷ 3 ∷ 2 ∷ 1 ∷ []
unfolding icu_tailoring
resets_5 = refl

-- &a<b&b<a&a<c => b < a < c < d
resets_6 :
    order_by
    (to (codes "a") ∷ differs Primary (codes "b") ∷ to (codes "b") ∷ differs Primary (codes "a") ∷ to (codes "a") ∷ differs Primary (codes "c") ∷ [])
    (codes "b")
    (codes "a" ∷ codes "c" ∷ codes "d" ∷ [])
    ≡ 1 ∷ 1 ∷ 1 ∷ []
unfolding icu_tailoring
resets_6 = refl

-- &ab<x => ab < abc < x < ac < b
resets_7 :
    order_by
    (to (codes "ab") ∷ differs Primary (codes "x") ∷ [])
    (codes "ab")
    (codes "abc" ∷ codes "x" ∷ codes "ac" ∷ codes "b" ∷ [])
    ≡ 1 ∷ 1 ∷ 1 ∷ 1 ∷ []
unfolding icu_tailoring
resets_7 = refl

-- &A<x<<<X => a <<< A < x <<< X < b
resets_8 :
    order_by
    (to (codes "A") ∷ differs Primary (codes "x") ∷ differs Tertiary (codes "X") ∷ [])
    (codes "a")
    (codes "A" ∷ codes "x" ∷ codes "X" ∷ codes "b" ∷ [])
    ≡ 3 ∷ 1 ∷ 3 ∷ 1 ∷ []
unfolding icu_tailoring
resets_8 = refl

-- &a<x&y<x => a < b < y < x < z
resets_9 :
    order_by
    (to (codes "a") ∷ differs Primary (codes "x") ∷ to (codes "y") ∷ differs Primary (codes "x") ∷ [])
    (codes "a")
    (codes "b" ∷ codes "y" ∷ codes "x" ∷ codes "z" ∷ [])
    ≡ 1 ∷ 1 ∷ 1 ∷ 1 ∷ []
unfolding icu_tailoring
resets_9 = refl

-- &a<<x&x<<<y => a << x <<< y < b
resets_10 :
    order_by
    (to (codes "a") ∷ differs Secondary (codes "x") ∷ to (codes "x") ∷ differs Tertiary (codes "y") ∷ [])
    (codes "a")
    (codes "x" ∷ codes "y" ∷ codes "b" ∷ [])
    ≡ 2 ∷ 3 ∷ 1 ∷ []
unfolding icu_tailoring
resets_10 = refl

-- ---- before
-- &[before 1]b<x => a <<< A < x < b < c
before_1 :
    order_by
    (before Primary (codes "b") ∷ differs Primary (codes "x") ∷ [])
    (codes "a")
    (codes "A" ∷ codes "x" ∷ codes "b" ∷ codes "c" ∷ [])
    ≡ 3 ∷ 1 ∷ 1 ∷ 1 ∷ []
unfolding icu_tailoring
before_1 = refl

-- &[before 2]b<<x => a < x << b <<< B
before_2 :
    order_by
    (before Secondary (codes "b") ∷ differs Secondary (codes "x") ∷ [])
    (codes "a")
    (codes "x" ∷ codes "b" ∷ codes "B" ∷ [])
    ≡ 1 ∷ 2 ∷ 3 ∷ []
unfolding icu_tailoring
before_2 = refl

-- &[before 3]b<<<x => a < x <<< b <<< B
before_3 :
    order_by
    (before Tertiary (codes "b") ∷ differs Tertiary (codes "x") ∷ [])
    (codes "a")
    (codes "x" ∷ codes "b" ∷ codes "B" ∷ [])
    ≡ 1 ∷ 3 ∷ 3 ∷ []
unfolding icu_tailoring
before_3 = refl

-- &[before 1]b<x&[before 1]b<y => a < x < y < b
before_4 :
    order_by
    (before Primary (codes "b") ∷ differs Primary (codes "x") ∷ before Primary (codes "b") ∷ differs Primary (codes "y") ∷ [])
    (codes "a")
    (codes "x" ∷ codes "y" ∷ codes "b" ∷ [])
    ≡ 1 ∷ 1 ∷ 1 ∷ []
unfolding icu_tailoring
before_4 = refl

-- &[before 2]b<<x&[before 2]b<<y => a < x << y << b
before_5 :
    order_by
    (before Secondary (codes "b") ∷ differs Secondary (codes "x") ∷ before Secondary (codes "b") ∷ differs Secondary (codes "y") ∷ [])
    (codes "a")
    (codes "x" ∷ codes "y" ∷ codes "b" ∷ [])
    ≡ 1 ∷ 2 ∷ 2 ∷ []
unfolding icu_tailoring
before_5 = refl

-- &[before 3]B<<<x => b <<< x <<< B
before_6 :
    order_by
    (before Tertiary (codes "B") ∷ differs Tertiary (codes "x") ∷ [])
    (codes "b")
    (codes "x" ∷ codes "B" ∷ [])
    ≡ 3 ∷ 3 ∷ []
unfolding icu_tailoring
before_6 = refl

-- &a<x&[before 1]x<y => a < y < x < b
before_7 :
    order_by
    (to (codes "a") ∷ differs Primary (codes "x") ∷ before Primary (codes "x") ∷ differs Primary (codes "y") ∷ [])
    (codes "a")
    (codes "y" ∷ codes "x" ∷ codes "b" ∷ [])
    ≡ 1 ∷ 1 ∷ 1 ∷ []
unfolding icu_tailoring
before_7 = refl

-- &a<<x&[before 2]x<<y => a << y << x < b
before_8 :
    order_by
    (to (codes "a") ∷ differs Secondary (codes "x") ∷ before Secondary (codes "x") ∷ differs Secondary (codes "y") ∷ [])
    (codes "a")
    (codes "y" ∷ codes "x" ∷ codes "b" ∷ [])
    ≡ 2 ∷ 2 ∷ 1 ∷ []
unfolding icu_tailoring
before_8 = refl

-- &[before 2]́<<x => a << ax << á << à < b
before_9 :
    order_by
    (before Secondary (0x301 ∷ []) ∷ differs Secondary (codes "x") ∷ [])
    (codes "a")
    (codes "ax" ∷ (97 ∷ 0x301 ∷ []) ∷ (97 ∷ 0x300 ∷ []) ∷ codes "b" ∷ [])
    ≡ 2 ∷ 2 ∷ 2 ∷ 1 ∷ []
unfolding icu_tailoring
before_9 = refl

-- ---- positions
-- &[last variable]<x => \u002D < x < \u007E < \u0024 < 1 < a
positions_1 :
    order_by
    (at LastVariable ∷ differs Primary (codes "x") ∷ [])
    (45 ∷ [])
    (codes "x" ∷ (126 ∷ []) ∷ (36 ∷ []) ∷ codes "1" ∷ codes "a" ∷ [])
    ≡ 1 ∷ 1 ∷ 1 ∷ 1 ∷ 1 ∷ []
unfolding icu_tailoring
positions_1 = refl

-- &[first variable]<x => x < \u002D < \u005C < a
positions_2 :
    order_by
    (at FirstVariable ∷ differs Primary (codes "x") ∷ [])
    (codes "x")
    ((45 ∷ []) ∷ (92 ∷ []) ∷ codes "a" ∷ [])
    ≡ 1 ∷ 1 ∷ 1 ∷ []
unfolding icu_tailoring
positions_2 = refl

-- &[last regular]<x => a < z < α < あ < x < 一
positions_3 :
    order_by
    (at LastRegular ∷ differs Primary (codes "x") ∷ [])
    (codes "a")
    (codes "z" ∷ (0x3B1 ∷ []) ∷ (0x3042 ∷ []) ∷ codes "x" ∷ (0x4E00 ∷ []) ∷ [])
    ≡ 1 ∷ 1 ∷ 1 ∷ 1 ∷ 1 ∷ []
unfolding icu_tailoring
positions_3 = refl

-- &[first regular]<x => \u0060 < x < \u007E < a
positions_4 :
    order_by
    (at FirstRegular ∷ differs Primary (codes "x") ∷ [])
    (96 ∷ [])
    (codes "x" ∷ (126 ∷ []) ∷ codes "a" ∷ [])
    ≡ 1 ∷ 1 ∷ 1 ∷ []
unfolding icu_tailoring
positions_4 = refl

-- &[last primary ignorable]<<x => a << á << ax < b
positions_5 :
    order_by
    (at LastPrimaryIgnorable ∷ differs Secondary (codes "x") ∷ [])
    (codes "a")
    ((97 ∷ 0x301 ∷ []) ∷ codes "ax" ∷ codes "b" ∷ [])
    ≡ 2 ∷ 2 ∷ 1 ∷ []
unfolding icu_tailoring
positions_5 = refl

-- &[first primary ignorable]<<x => a << ax << á < b
positions_6 :
    order_by
    (at FirstPrimaryIgnorable ∷ differs Secondary (codes "x") ∷ [])
    (codes "a")
    (codes "ax" ∷ (97 ∷ 0x301 ∷ []) ∷ codes "b" ∷ [])
    ≡ 2 ∷ 2 ∷ 1 ∷ []
unfolding icu_tailoring
positions_6 = refl

-- &[last tertiary ignorable]<<<x => a <<< ax <<< A << á < b
positions_7 :
    order_by
    (at LastTertiaryIgnorable ∷ differs Tertiary (codes "x") ∷ [])
    (codes "a")
    (codes "ax" ∷ codes "A" ∷ (97 ∷ 0x301 ∷ []) ∷ codes "b" ∷ [])
    ≡ 3 ∷ 3 ∷ 2 ∷ 1 ∷ []
unfolding icu_tailoring
positions_7 = refl

-- &[last secondary ignorable]<<<x => a <<< ax <<< A << á < b
positions_8 :
    order_by
    (at LastSecondaryIgnorable ∷ differs Tertiary (codes "x") ∷ [])
    (codes "a")
    (codes "ax" ∷ codes "A" ∷ (97 ∷ 0x301 ∷ []) ∷ codes "b" ∷ [])
    ≡ 3 ∷ 3 ∷ 2 ∷ 1 ∷ []
unfolding icu_tailoring
positions_8 = refl

-- &[first implicit]<x => a < 一 < x < 丁
positions_9 :
    order_by
    (at FirstImplicit ∷ differs Primary (codes "x") ∷ [])
    (codes "a")
    ((0x4E00 ∷ []) ∷ codes "x" ∷ (0x4E01 ∷ []) ∷ [])
    ≡ 1 ∷ 1 ∷ 1 ∷ []
unfolding icu_tailoring
positions_9 = refl

-- &\x01<<x => a << ax << á < b
positions_10 :
    order_by
    (to (1 ∷ []) ∷ differs Secondary (codes "x") ∷ [])
    (codes "a")
    (codes "ax" ∷ (97 ∷ 0x301 ∷ []) ∷ codes "b" ∷ [])
    ≡ 2 ∷ 2 ∷ 1 ∷ []
unfolding icu_tailoring
positions_10 = refl

-- &́<<x => a << á << ax << ä
positions_11 :
    order_by
    (to (0x301 ∷ []) ∷ differs Secondary (codes "x") ∷ [])
    (codes "a")
    ((97 ∷ 0x301 ∷ []) ∷ codes "ax" ∷ (97 ∷ 0x308 ∷ []) ∷ [])
    ≡ 2 ∷ 2 ∷ 2 ∷ []
unfolding icu_tailoring
positions_11 = refl

-- ---- contractions, extensions, prefixes
-- &c<ch => c < cH < cz < ch < d < h
contexts_1 :
    order_by
    (to (codes "c") ∷ differs Primary (codes "ch") ∷ [])
    (codes "c")
    (codes "cH" ∷ codes "cz" ∷ codes "ch" ∷ codes "d" ∷ codes "h" ∷ [])
    ≡ 1 ∷ 1 ∷ 1 ∷ 1 ∷ 1 ∷ []
unfolding icu_tailoring
contexts_1 = refl

-- &c<ch<<<Ch<<<CH => c < cH < ch <<< Ch <<< CH < d
contexts_2 :
    order_by
    (to (codes "c") ∷ differs Primary (codes "ch") ∷ differs Tertiary (codes "Ch") ∷ differs Tertiary (codes "CH") ∷ [])
    (codes "c")
    (codes "cH" ∷ codes "ch" ∷ codes "Ch" ∷ codes "CH" ∷ codes "d" ∷ [])
    ≡ 1 ∷ 1 ∷ 3 ∷ 3 ∷ 1 ∷ []
unfolding icu_tailoring
contexts_2 = refl

-- &ae<<ä => ad < ae << ä << ä́ < af
contexts_3 :
    order_by
    (to (codes "ae") ∷ differs Secondary (0xE4 ∷ []) ∷ [])
    (codes "ad")
    (codes "ae" ∷ (0xE4 ∷ []) ∷ (97 ∷ 0x308 ∷ 0x301 ∷ []) ∷ codes "af" ∷ [])
    ≡ 1 ∷ 2 ∷ 2 ∷ 1 ∷ []
unfolding icu_tailoring
contexts_3 = refl

-- &a<<x/e => a < ad < ae << x < af
contexts_4 :
    order_by
    (to (codes "a") ∷ relation Secondary [] (codes "x") (codes "e") ∷ [])
    (codes "a")
    (codes "ad" ∷ codes "ae" ∷ codes "x" ∷ codes "af" ∷ [])
    ≡ 1 ∷ 1 ∷ 2 ∷ 1 ∷ []
unfolding icu_tailoring
contexts_4 = refl

-- &t<<<þ/h => t < th <<< þ < ti
contexts_5 :
    order_by
    (to (codes "t") ∷ relation Tertiary [] (0xFE ∷ []) (codes "h") ∷ [])
    (codes "t")
    (codes "th" ∷ (0xFE ∷ []) ∷ codes "ti" ∷ [])
    ≡ 1 ∷ 3 ∷ 1 ∷ []
unfolding icu_tailoring
contexts_5 = refl

-- &a<x/y&a<y => a < ay < y < x < xy
contexts_6 :
    order_by
    (to (codes "a") ∷ relation Primary [] (codes "x") (codes "y") ∷ to (codes "a") ∷ differs Primary (codes "y") ∷ [])
    (codes "a")
    (codes "ay" ∷ codes "y" ∷ codes "x" ∷ codes "xy" ∷ [])
    ≡ 1 ∷ 1 ∷ 1 ∷ 1 ∷ []
unfolding icu_tailoring
contexts_6 = refl

-- &a<y&a<x/y => a < ay < x < xy < y
contexts_7 :
    order_by
    (to (codes "a") ∷ differs Primary (codes "y") ∷ to (codes "a") ∷ relation Primary [] (codes "x") (codes "y") ∷ [])
    (codes "a")
    (codes "ay" ∷ codes "x" ∷ codes "xy" ∷ codes "y" ∷ [])
    ≡ 1 ∷ 1 ∷ 1 ∷ 1 ∷ []
unfolding icu_tailoring
contexts_7 = refl

-- &[before 3]a<<<a|x => a < ax <<< aa <<< aA < b
contexts_8 :
    order_by
    (before Tertiary (codes "a") ∷ relation Tertiary (codes "a") (codes "x") [] ∷ [])
    (codes "a")
    (codes "ax" ∷ codes "aa" ∷ codes "aA" ∷ codes "b" ∷ [])
    ≡ 1 ∷ 3 ∷ 3 ∷ 1 ∷ []
unfolding icu_tailoring
contexts_8 = refl

-- &b<a|c => ab < ac < ad < bc < ca
contexts_9 :
    order_by
    (to (codes "b") ∷ relation Primary (codes "a") (codes "c") [] ∷ [])
    (codes "ab")
    (codes "ac" ∷ codes "ad" ∷ codes "bc" ∷ codes "ca" ∷ [])
    ≡ 1 ∷ 1 ∷ 1 ∷ 1 ∷ []
unfolding icu_tailoring
contexts_9 = refl

-- &b<a|c&d<cx => ab < acx < ad < ae < dx < cx
contexts_10 :
    order_by
    (to (codes "b") ∷ relation Primary (codes "a") (codes "c") [] ∷ to (codes "d") ∷ differs Primary (codes "cx") ∷ [])
    (codes "ab")
    (codes "acx" ∷ codes "ad" ∷ codes "ae" ∷ codes "dx" ∷ codes "cx" ∷ [])
    ≡ 1 ∷ 1 ∷ 1 ∷ 1 ∷ 1 ∷ []
unfolding icu_tailoring
contexts_10 = refl

-- &d<cx&b<a|c => ab < acx < ad < ae < dx < cx
contexts_11 :
    order_by
    (to (codes "d") ∷ differs Primary (codes "cx") ∷ to (codes "b") ∷ relation Primary (codes "a") (codes "c") [] ∷ [])
    (codes "ab")
    (codes "acx" ∷ codes "ad" ∷ codes "ae" ∷ codes "dx" ∷ codes "cx" ∷ [])
    ≡ 1 ∷ 1 ∷ 1 ∷ 1 ∷ 1 ∷ []
unfolding icu_tailoring
contexts_11 = refl

-- &b<a|cx => ab < acx < acy < ad
contexts_12 :
    order_by
    (to (codes "b") ∷ relation Primary (codes "a") (codes "cx") [] ∷ [])
    (codes "ab")
    (codes "acx" ∷ codes "acy" ∷ codes "ad" ∷ [])
    ≡ 1 ∷ 1 ∷ 1 ∷ []
unfolding icu_tailoring
contexts_12 = refl

-- &b<a|c<xa|c => ab < ac < ad < xac
contexts_13 :
    order_by
    (to (codes "b") ∷ relation Primary (codes "a") (codes "c") [] ∷ relation Primary (codes "xa") (codes "c") [] ∷ [])
    (codes "ab")
    (codes "ac" ∷ codes "ad" ∷ codes "xac" ∷ [])
    ≡ 1 ∷ 1 ∷ 1 ∷ []
unfolding icu_tailoring
contexts_13 = refl

-- &z<å => a << Å < z < å << ǻ << ạ̊
contexts_14 :
    order_by
    (to (codes "z") ∷ differs Primary (97 ∷ 0x30A ∷ []) ∷ [])
    (codes "a")
    ((65 ∷ 0x30A ∷ []) ∷ codes "z" ∷ (97 ∷ 0x30A ∷ []) ∷ (0x1FB ∷ []) ∷ (97 ∷ 0x323 ∷ 0x30A ∷ []) ∷ [])
    ≡ 2 ∷ 1 ∷ 1 ∷ 2 ∷ 2 ∷ []
unfolding icu_tailoring
contexts_14 = refl

-- &z<ạ̊ => a << å < z < ạ̊ = ạ̊
contexts_15 :
    order_by
    (to (codes "z") ∷ differs Primary (97 ∷ 0x323 ∷ 0x30A ∷ []) ∷ [])
    (codes "a")
    ((97 ∷ 0x30A ∷ []) ∷ codes "z" ∷ (97 ∷ 0x30A ∷ 0x323 ∷ []) ∷ (97 ∷ 0x323 ∷ 0x30A ∷ []) ∷ [])
    ≡ 2 ∷ 1 ∷ 1 ∷ 0 ∷ []
unfolding icu_tailoring
contexts_15 = refl

-- &a<и => a < и < b < й < к
contexts_16 :
    order_by
    (to (codes "a") ∷ differs Primary (0x438 ∷ []) ∷ [])
    (codes "a")
    ((0x438 ∷ []) ∷ codes "b" ∷ (0x439 ∷ []) ∷ (0x43A ∷ []) ∷ [])
    ≡ 1 ∷ 1 ∷ 1 ∷ 1 ∷ []
unfolding icu_tailoring
contexts_16 = refl

-- &a<й => a < й < b < и < к
contexts_17 :
    order_by
    (to (codes "a") ∷ differs Primary (0x438 ∷ 0x306 ∷ []) ∷ [])
    (codes "a")
    ((0x439 ∷ []) ∷ codes "b" ∷ (0x438 ∷ []) ∷ (0x43A ∷ []) ∷ [])
    ≡ 1 ∷ 1 ∷ 1 ∷ 1 ∷ []
unfolding icu_tailoring
contexts_17 = refl

-- [suppressContractions[и]] => и << й < ик < к
contexts_18 :
    order_by
    (suppression (record { first = 0x438; last = 0x438 } ∷ []) ∷ [])
    (0x438 ∷ [])
    ((0x439 ∷ []) ∷ (0x438 ∷ 0x43A ∷ []) ∷ (0x43A ∷ []) ∷ [])
    ≡ 2 ∷ 1 ∷ 1 ∷ []
unfolding icu_tailoring
contexts_18 = refl

-- &a<1⃣ => 1 < 12 < 2 < a < 1\u20E3 < b
contexts_19 :
    order_by
    (to (codes "a") ∷ differs Primary (49 ∷ 0x20E3 ∷ []) ∷ [])
    (codes "1")
    (codes "12" ∷ codes "2" ∷ codes "a" ∷ (49 ∷ 0x20E3 ∷ []) ∷ codes "b" ∷ [])
    ≡ 1 ∷ 1 ∷ 1 ∷ 1 ∷ 1 ∷ []
unfolding icu_tailoring
contexts_19 = refl

-- &a<1 => 2 < a < 1 < 12 < b
contexts_20 :
    order_by
    (to (codes "a") ∷ differs Primary (codes "1") ∷ [])
    (codes "2")
    (codes "a" ∷ codes "1" ∷ codes "12" ∷ codes "b" ∷ [])
    ≡ 1 ∷ 1 ∷ 1 ∷ 1 ∷ []
unfolding icu_tailoring
contexts_20 = refl

-- ---- quotes and escapes
-- &a<'-' => a < \u002D < b
quotes_1 :
    order_by
    (to (codes "a") ∷ differs Primary (45 ∷ []) ∷ [])
    (codes "a")
    ((45 ∷ []) ∷ codes "b" ∷ [])
    ≡ 1 ∷ 1 ∷ []
unfolding icu_tailoring
quotes_1 = refl

-- &a<\- => a < \u002D < b
quotes_2 :
    order_by
    (to (codes "a") ∷ differs Primary (45 ∷ []) ∷ [])
    (codes "a")
    ((45 ∷ []) ∷ codes "b" ∷ [])
    ≡ 1 ∷ 1 ∷ []
unfolding icu_tailoring
quotes_2 = refl

-- &a<\u0078 => a < x < b
quotes_3 :
    order_by
    (to (codes "a") ∷ differs Primary (codes "x") ∷ [])
    (codes "a")
    (codes "x" ∷ codes "b" ∷ [])
    ≡ 1 ∷ 1 ∷ []
unfolding icu_tailoring
quotes_3 = refl

-- &a<x#<y\n<z => a < x < z < y
quotes_4 :
    order_by
    (to (codes "a") ∷ differs Primary (codes "x") ∷ differs Primary (codes "z") ∷ [])
    (codes "a")
    (codes "x" ∷ codes "z" ∷ codes "y" ∷ [])
    ≡ 1 ∷ 1 ∷ 1 ∷ []
unfolding icu_tailoring
quotes_4 = refl
