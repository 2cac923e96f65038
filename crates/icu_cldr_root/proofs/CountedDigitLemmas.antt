-- Digits of all ranges, range by range.
use Rattle.std.proofs.Common.{◌≡◌, ℕ, zero, suc, ◌+◌, ◌-◌, ◌%◌, ◌<◌, ◌≤◌, Bool, true, false, List, [], ◌∷◌, refl, sym, ap, subst, ◌∙◌, if◌then◌else◌, add-one, arith}
use Rattle.std.specs.Prelude.{◌==◌, ◌&&◌, ◌||◌, nat_le, nat_lt, min, MatchBool}
use Rattle.std.specs.BTreeMap.{get}
use Rattle.std.specs.Char.{IsScalar}
use Rattle.std.specs.Ordering.{nat_cmp}
use Rattle.std.proofs.lemmas.Bool.Decides.{nat_tests}
use Rattle.std.proofs.lemmas.Bool.{and_parts}
use Rattle.ucd_table.specs.Rows.{Range, HasExactly, IsRising, in_ranges, is_range, ranges_rise}
use Rattle.ucd_perl.specs.Perl.{is_digit_char}
use Rattle.icu_table_data.specs.Data.{Data}
use Rattle.icu_table_data.proofs.CharLemmas.{scalar_below}
use Rattle.icu_table_mappings.specs.DigitEntries.{decimal_value, digits_before}
use Rattle.icu_cldr_root.specs.inner.Digits.{IsDigitOrAbsent, MakesDigits, MakesDigitsBelow, MakesAllDigits}
use Rattle.icu_cldr_root.specs.inner.LineEntries.{Plain}
use Rattle.icu_table_mappings.specs.GrownLists.{Extends}
use Rattle.icu_cldr_root.proofs.DigitRangeLemmas.{by_test, or_absent_further}

-- ---- tests

at_most : (m n : ℕ) → nat_le m n ≡ true → m ≤ n
at_most m n h = grind (arith, nat_tests)

pub within : (a b c : ℕ) → a ≤ c → c ≤ b → (nat_le a c && nat_le c b) ≡ true
within a b c h l = grind (arith, nat_tests)

below : (a b c : ℕ) → c < a → (nat_le a c && nat_le c b) ≡ false
below a b c h = grind (arith, nat_tests)

above : (a b c : ℕ) → b < c → (nat_le a c && nat_le c b) ≡ false
above a b c h = grind (arith, nat_tests)

-- ---- ranges that rise

-- a range that is the first of those that rise from a code on
record IsNext (n : ℕ) (r : Range) (rs : List Range) : Type 0 where
  from : n ≤ r.0
  ends : r.0 ≤ r.1
  bound : r.1 ≤ 0x10_FFFF
  rest : ranges_rise (r.1 + 1) rs ≡ true

is_next : (n : ℕ) (r : Range) (rs : List Range) → ranges_rise n (r ∷ rs) ≡ true → IsNext n r rs
unfolding ranges_rise
is_next n r rs h =
    let parts = and_parts (nat_le n r.0 && is_range r) (ranges_rise (r.1 + 1) rs) h in
    let first = and_parts (nat_le n r.0) (is_range r) parts.0 in
    let range = and_parts (nat_le r.0 r.1) (nat_le r.1 0x10_FFFF) first.1 in
    record { from = at_most n r.0 first.0; ends = at_most r.0 r.1 range.0; bound = at_most r.1 0x10_FFFF range.1; rest = parts.1 }

-- below them there is nothing
none_below : (n : ℕ) (rs : List Range) (c : ℕ) → ranges_rise n rs ≡ true → c < n → in_ranges rs c ≡ false
unfolding in_ranges
none_below n [] c up h = refl
none_below n (r ∷ rs) c up h =
    let next = is_next n r rs up in
    let from : n ≤ r.0 = next.from in
    let ends : r.0 ≤ r.1 = next.ends in
    ap (λ b. b || in_ranges rs c) (below r.0 r.1 c (omega arith)) ∙ none_below (r.1 + 1) rs c next.rest (omega arith)

-- ---- counting

more_before : (c : ℕ) → is_digit_char c ≡ true → digits_before (c + 1) ≡ digits_before c + 1
unfolding digits_before
more_before c h = rw add-one (ap (λ b. if b then suc (digits_before c) else 0) h ∙ rw add-one refl)

-- digits that follow one another
counted : (k a start : ℕ) → ((c : ℕ) → a ≤ c → c < a + k → is_digit_char c ≡ true) → digits_before a + start ≡ a → digits_before (a + k) + start ≡ a + k
counted zero a start digits from = subst (λ x. digits_before x + start ≡ x) (none a) from where
  none : (a : ℕ) → a ≡ a + 0
  none a = omega arith
counted (suc k) a start digits from =
    let before : digits_before (a + k) + start ≡ a + k = counted k a start (λ c up below. digits c up (omega arith)) from in
    let here : is_digit_char (a + k) ≡ true = digits (a + k) (omega arith) (omega arith) in
    let more : digits_before (a + k + 1) ≡ digits_before (a + k) + 1 = more_before (a + k) here in
    subst (λ x. digits_before x + start ≡ x) (next a k) (omega arith) where
      next : (a k : ℕ) → a + k + 1 ≡ a + suc k
      next a k = omega arith

-- where the character before is no digit, counting begins anew
anew : (c : ℕ) → 0 < c → is_digit_char (c - 1) ≡ false → digits_before c + c ≡ c
unfolding digits_before
anew zero some h = absurd (omega arith)
anew (suc c) some h =
    let other : is_digit_char c ≡ false = subst (λ x. is_digit_char x ≡ false) (less c) h in
    let none : digits_before (suc c) ≡ 0 = ap (λ b. if b then suc (digits_before c) else 0) other in
    omega arith where
      less : (c : ℕ) → suc c - 1 ≡ c
      less c = omega arith

-- ---- range by range

-- the digits of the ranges so far, below an end, were made, and these ranges are left; start is where counting began
pub record DigitsSoFar (d : Data) (old now : Plain) (start end : ℕ) (left : List Range) : Type 0 where
  pub rising : ranges_rise end left ≡ true
  pub members : (c : ℕ) → end ≤ c → c ≤ 0x10_FFFF → in_ranges left c ≡ is_digit_char c
  pub counts : digits_before end + start ≡ end
  pub digits : MakesDigitsBelow d end old now

pub no_digits_yet : (d : Data) (old : Plain) (all : List Range) → IsRising all → HasExactly all is_digit_char → DigitsSoFar d old old 0 0 all
unfolding digits_before
no_digits_yet d old all rises has = record {
  rising = rises;
  members = λ c up bound. has c bound;
  counts = refl;
  digits = λ c scalar.
      subst (λ b. MatchBool b (IsDigitOrAbsent d (decimal_value c) (get nat_cmp old c) (get nat_cmp old c)) (get nat_cmp old c ≡ get nat_cmp old c))
      (sym (none (is_digit_char c) c)) refl;
} where
  none : (b : Bool) (c : ℕ) → (b && nat_lt c 0) ≡ false
  none true c = grind (arith, nat_tests)
  none false c = refl

module _ (d new : Data) (old now after : Plain) (start end start2 : ℕ) (left rest : List Range) (r : Range)
    (steps : left ≡ r ∷ rest) (so_far : DigitsSoFar d old now start end left) (grows : Extends d new)
    (begins : start2 ≡ (if r.0 == end then start else r.0)) (made : MakesDigits new start2 r.0 (r.1 + 1) now after) where
  next_one : IsNext end r rest
  next_one = is_next end r rest (subst (λ rs. ranges_rise end rs ≡ true) steps so_far.rising)

  in_first : (c : ℕ) → end ≤ c → c ≤ 0x10_FFFF → ((nat_le r.0 c && nat_le c r.1) || in_ranges rest c) ≡ is_digit_char c
  unfolding in_ranges
  in_first c up bound = subst (λ rs. in_ranges rs c ≡ is_digit_char c) steps (so_far.members c up bound)

  -- between the last range and this one there is no digit
  in_gap : (c : ℕ) → end ≤ c → c < r.0 → is_digit_char c ≡ false
  in_gap c up low =
      let ends : r.0 ≤ r.1 = next_one.ends in
      let bound : r.1 ≤ 0x10_FFFF = next_one.bound in
      sym (in_first c up (omega arith)) ∙ ap (λ b. b || in_ranges rest c) (below r.0 r.1 c low)
      ∙ none_below (r.1 + 1) rest c next_one.rest (omega arith)

  -- in it each is one
  in_range : (c : ℕ) → r.0 ≤ c → c ≤ r.1 → is_digit_char c ≡ true
  in_range c up low =
      let from : end ≤ r.0 = next_one.from in
      let bound : r.1 ≤ 0x10_FFFF = next_one.bound in
      sym (in_first c (omega arith) (omega arith)) ∙ ap (λ b. b || in_ranges rest c) (within r.0 r.1 c up low)

  later : (c : ℕ) → r.1 + 1 ≤ c → c ≤ 0x10_FFFF → in_ranges rest c ≡ is_digit_char c
  later c up bound =
      let from : end ≤ r.0 = next_one.from in
      let ends : r.0 ≤ r.1 = next_one.ends in
      sym (ap (λ b. b || in_ranges rest c) (above r.0 r.1 c (omega arith))) ∙ in_first c (omega arith) bound

  counts_at_first : (b : Bool) → (r.0 == end) ≡ b → digits_before r.0 + start2 ≡ r.0
  counts_at_first true same =
      let at : end ≡ r.0 = sym (same_number r.0 end same) in
      subst (λ s. digits_before r.0 + s ≡ r.0) (sym (begins ∙ ap (λ b. if b then start else r.0) same)) (subst (λ x. digits_before x + start ≡ x) at so_far.counts) where
        same_number : (m n : ℕ) → (m == n) ≡ true → m ≡ n
        same_number m n h = grind (arith, nat_tests)
  counts_at_first false other =
      let from : end ≤ r.0 = next_one.from in
      let more : end < r.0 = past end r.0 from other in
      subst (λ s. digits_before r.0 + s ≡ r.0) (sym (begins ∙ ap (λ b. if b then start else r.0) other)) (anew r.0 (omega arith) (in_gap (r.0 - 1) (omega arith) (omega arith))) where
        past : (e x : ℕ) → e ≤ x → (x == e) ≡ false → e < x
        past e x h o = grind (arith, nat_tests)

  counts_in : (c : ℕ) → r.0 ≤ c → c ≤ r.1 + 1 → digits_before c + start2 ≡ c
  counts_in c up low =
      let at : r.0 + (c - r.0) ≡ c = omega arith in
      subst (λ x. digits_before x + start2 ≡ x) at
      (counted (c - r.0) r.0 start2 (λ x over under. in_range x over (omega arith)) (counts_at_first (r.0 == end) refl))

  -- a character of the range
  made_here : (c : ℕ) → IsScalar c → r.0 ≤ c → c ≤ r.1
      → MatchBool (is_digit_char c && nat_lt c (r.1 + 1)) (IsDigitOrAbsent new (decimal_value c) (get nat_cmp old c) (get nat_cmp after c)) (get nat_cmp after c ≡ get nat_cmp old c)
  made_here c scalar up low =
      let from : end ≤ r.0 = next_one.from in
      let value : c - start2 ≡ digits_before c = let n = counts_in c up (omega arith) in omega arith in
      let test : (is_digit_char c && nat_lt c (r.1 + 1)) ≡ true = ap (λ b. b && nat_lt c (r.1 + 1)) (in_range c up low) ∙ less c r.1 low in
      let was : get nat_cmp now c ≡ get nat_cmp old c =
      subst (λ b. MatchBool b (IsDigitOrAbsent d (decimal_value c) (get nat_cmp old c) (get nat_cmp now c)) (get nat_cmp now c ≡ get nat_cmp old c))
      (not_yet (is_digit_char c) c end (omega arith)) (so_far.digits c scalar) in
      let is : IsDigitOrAbsent new ((c - start2) % 10) (get nat_cmp now c) (get nat_cmp after c) =
      subst (λ b. MatchBool b (IsDigitOrAbsent new ((c - start2) % 10) (get nat_cmp now c) (get nat_cmp after c)) (get nat_cmp after c ≡ get nat_cmp now c))
      (in_half r.0 c r.1 up low) (made c scalar) in
      subst (λ b. MatchBool b (IsDigitOrAbsent new (decimal_value c) (get nat_cmp old c) (get nat_cmp after c)) (get nat_cmp after c ≡ get nat_cmp old c)) (sym test)
      (subst (λ v. IsDigitOrAbsent new (v % 10) (get nat_cmp old c) (get nat_cmp after c)) value
      (subst (λ o. IsDigitOrAbsent new ((c - start2) % 10) o (get nat_cmp after c)) was is)) where
        less : (x y : ℕ) → x ≤ y → nat_lt x (y + 1) ≡ true
        less x y h = grind (arith, nat_tests)

        not_yet : (b : Bool) (x e : ℕ) → e ≤ x → (b && nat_lt x e) ≡ false
        not_yet true x e h = grind (arith, nat_tests)
        not_yet false x e h = refl

        in_half : (a x b : ℕ) → a ≤ x → x ≤ b → (nat_le a x && nat_lt x (b + 1)) ≡ true
        in_half a x b h l = grind (arith, nat_tests)

  -- any other character
  made_elsewhere : (c : ℕ) → IsScalar c → (nat_le r.0 c && nat_lt c (r.1 + 1)) ≡ false
      → (is_digit_char c && nat_lt c (r.1 + 1)) ≡ (is_digit_char c && nat_lt c end)
      → MatchBool (is_digit_char c && nat_lt c (r.1 + 1)) (IsDigitOrAbsent new (decimal_value c) (get nat_cmp old c) (get nat_cmp after c)) (get nat_cmp after c ≡ get nat_cmp old c)
  made_elsewhere c scalar out same =
      let stays : get nat_cmp after c ≡ get nat_cmp now c =
      subst (λ b. MatchBool b (IsDigitOrAbsent new ((c - start2) % 10) (get nat_cmp now c) (get nat_cmp after c)) (get nat_cmp after c ≡ get nat_cmp now c)) out (made c scalar) in
      subst (λ b. MatchBool b (IsDigitOrAbsent new (decimal_value c) (get nat_cmp old c) (get nat_cmp after c)) (get nat_cmp after c ≡ get nat_cmp old c)) (sym same)
      (by_test (is_digit_char c && nat_lt c end) _ _ _ _
      (λ h. subst (IsDigitOrAbsent new (decimal_value c) (get nat_cmp old c)) (sym stays) (or_absent_further d new (decimal_value c) (get nat_cmp old c) (get nat_cmp now c) grows h))
      (λ h. stays ∙ h) (so_far.digits c scalar))

  same_test : (c : ℕ) (b : Bool) → is_digit_char c ≡ b → (nat_le r.0 c && nat_lt c (r.1 + 1)) ≡ false → (is_digit_char c && nat_lt c (r.1 + 1)) ≡ (is_digit_char c && nat_lt c end)
  same_test c false is out = ap (λ b. b && nat_lt c (r.1 + 1)) is ∙ sym (ap (λ b. b && nat_lt c end) is)
  same_test c true is out =
      ap (λ b. b && nat_lt c (r.1 + 1)) is
      ∙ by_place r.0 r.1 c end next_one.from next_one.ends out (λ up low. let no : is_digit_char c ≡ false = in_gap c up low in cc)
      ∙ sym (ap (λ b. b && nat_lt c end) is) where
        by_place : (a b x e : ℕ) → e ≤ a → a ≤ b → (nat_le a x && nat_lt x (b + 1)) ≡ false → (e ≤ x → x < a → ⊥) → nat_lt x (b + 1) ≡ nat_lt x e
        by_place a b x e from ends out gap = grind (arith, nat_tests, gap)

  made_at : (c : ℕ) (b : Bool) → (nat_le r.0 c && nat_lt c (r.1 + 1)) ≡ b → IsScalar c
      → MatchBool (is_digit_char c && nat_lt c (r.1 + 1)) (IsDigitOrAbsent new (decimal_value c) (get nat_cmp old c) (get nat_cmp after c)) (get nat_cmp after c ≡ get nat_cmp old c)
  made_at c true at scalar = made_here c scalar (low_end r.0 c r.1 at) (high_end r.0 c r.1 at) where
    low_end : (a x b : ℕ) → (nat_le a x && nat_lt x (b + 1)) ≡ true → a ≤ x
    low_end a x b h = grind (arith, nat_tests)

    high_end : (a x b : ℕ) → (nat_le a x && nat_lt x (b + 1)) ≡ true → x ≤ b
    high_end a x b h = grind (arith, nat_tests)
  made_at c false out scalar = made_elsewhere c scalar out (same_test c (is_digit_char c) refl out)

  -- one range more
  pub next_range : DigitsSoFar new old after start2 (r.1 + 1) rest
  next_range = record {
    rising = next_one.rest;
    members = later;
    counts = counts_in (r.1 + 1) (let ends : r.0 ≤ r.1 = next_one.ends in omega arith) (omega arith);
    digits = λ c scalar. made_at c (nat_le r.0 c && nat_lt c (r.1 + 1)) refl scalar;
  }

-- counting begins no later than a range
pub start_below : (d : Data) (old now : Plain) (start end start2 : ℕ) (left rest : List Range) (r : Range) → left ≡ r ∷ rest
    → DigitsSoFar d old now start end left → start2 ≡ (if r.0 == end then start else r.0) → start2 ≤ r.0
start_below d old now start end start2 left rest r steps so_far begins = by_place (r.0 == end) refl where
  by_place : (b : Bool) → (r.0 == end) ≡ b → start2 ≤ r.0
  by_place true same =
      let is : start2 ≡ start = begins ∙ ap (λ b. if b then start else r.0) same in
      let at : r.0 ≡ end = same_number r.0 end same in
      let counts : digits_before end + start ≡ end = so_far.counts in
      omega arith where
        same_number : (m n : ℕ) → (m == n) ≡ true → m ≡ n
        same_number m n h = grind (arith, nat_tests)
  by_place false other = let is : start2 ≡ r.0 = begins ∙ ap (λ b. if b then start else r.0) other in omega arith

-- one range more, whose end is below the greatest number
pub range_more : (d new : Data) (old now after : Plain) (start end start2 end2 : ℕ) (left rest : List Range) (r : Range) → left ≡ r ∷ rest
    → DigitsSoFar d old now start end left → Extends d new → start2 ≡ (if r.0 == end then start else r.0) → end2 ≡ min (r.1 + 1) 4294967295
    → MakesDigits new start2 r.0 end2 now after → DigitsSoFar new old after start2 end2 rest
range_more d new old now after start end start2 end2 left rest r steps so_far grows begins is_end made =
    let next : IsNext end r rest = is_next end r rest (subst (λ rs. ranges_rise end rs ≡ true) steps so_far.rising) in
    let bound : r.1 ≤ 0x10_FFFF = next.bound in
    let at : end2 ≡ r.1 + 1 = omega arith in
    subst (λ e. DigitsSoFar new old after start2 e rest) (sym at)
    (next_range d new old now after start end start2 left rest r steps so_far grows begins (subst (λ e. MakesDigits new start2 r.0 e now after) at made))

-- no range is left
pub all_digits : (d : Data) (old now : Plain) (start end : ℕ) (left : List Range) → left ≡ [] → DigitsSoFar d old now start end left → MakesAllDigits d old now
unfolding in_ranges
all_digits d old now start end left done so_far c scalar =
    subst (λ b. MatchBool b (IsDigitOrAbsent d (decimal_value c) (get nat_cmp old c) (get nat_cmp now c)) (get nat_cmp now c ≡ get nat_cmp old c))
    (whole (is_digit_char c) c end (λ up. sym (so_far.members c up (omega (arith, scalar_below c scalar))) ∙ ap (λ rs. in_ranges rs c) done)) (so_far.digits c scalar) where
      whole : (b : Bool) (x e : ℕ) → (e ≤ x → b ≡ false) → (b && nat_lt x e) ≡ b
      whole false x e past = refl
      whole true x e past = inside x e (λ up. let no : true ≡ false = past up in cc) where
        inside : (x e : ℕ) → (e ≤ x → ⊥) → nat_lt x e ≡ true
        inside x e past = grind (arith, nat_tests, past)
