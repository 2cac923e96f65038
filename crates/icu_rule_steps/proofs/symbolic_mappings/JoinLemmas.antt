-- One turn of the marks after the suffix of a mapping.
use Rattle.std.proofs.Common.{◌≡◌, ℕ, ◌+◌, ◌<◌, ◌≤◌, Bool, true, false, List, [], ◌∷◌, ◌++◌, length, drop, Some, None, refl, sym, ap, ◌∙◌, append_assoc, arith}
use Rattle.std.specs.Prelude.{slice_get}
use Rattle.std.proofs.lemmas.Bool.{leb-false}
use Rattle.std.proofs.lemmas.Bool.Decides.{nat_tests}
use Rattle.std.proofs.lemmas.List.{append-nil}
use Rattle.std.proofs.Math.ListN.{drop_of_length-le}
use Rattle.ucd_normal.specs.CanonicalCombiningClass.{canonical_combining_class as class_of}
use Rattle.unicode_normalization.specs.Order.{is_starter}
use Rattle.icu_element_matches.specs.Matches.{is_blocked}
use Rattle.icu_element_matches.specs.inner.Joining.{greatest_class}
use Rattle.icu_element_matches.proofs.MarkLemmas.{blocked_by_greatest, greatest_more, here}
use Rattle.icu_rule_meaning.specs.TailoredMappings.{SymbolicMapping, SymbolicMatch, is_blocked_by, joined_marks, mapping_with}

-- the same marks block in the tables and while rules are read
pub same_blocking : (passed : List ℕ) (m : ℕ) → is_blocked_by passed m ≡ is_blocked passed m
unfolding is_blocked
same_blocking passed m = refl

module _ (mappings : List SymbolicMapping) (found : SymbolicMapping) (passed text : List ℕ) (i m : ℕ) (is : slice_get text i ≡ Some m) where
  next_mark : joined_marks mappings found passed (drop i text) ≡ joined_marks mappings found passed (m ∷ drop (i + 1) text)
  next_mark = ap (joined_marks mappings found passed) (here text i m is)

  pub ends_at_starter : is_starter m ≡ true → joined_marks mappings found passed (drop i text) ≡ record { elements = found.elements; suffix = found.suffix; rest = passed ++ drop i text }
  unfolding joined_marks
  ends_at_starter h =
      let ended : List ℕ → SymbolicMatch = λ l. record { elements = found.elements; suffix = found.suffix; rest = passed ++ l } in
      next_mark ∙ rw h (ap ended (sym (here text i m is)))

  pub passes_blocked : is_starter m ≡ false → is_blocked_by passed m ≡ true → joined_marks mappings found passed (drop i text) ≡ joined_marks mappings found (passed ++ m ∷ []) (drop (i + 1) text)
  unfolding joined_marks
  passes_blocked h b = next_mark ∙ rw (h, b)

  pub joins_longer : (longer : SymbolicMapping) → is_starter m ≡ false → is_blocked_by passed m ≡ false → mapping_with mappings (found.suffix ++ m ∷ []) ≡ Some longer → joined_marks mappings found passed (drop i text) ≡ joined_marks mappings longer passed (drop (i + 1) text)
  unfolding joined_marks
  joins_longer longer h b r = next_mark ∙ rw (h, b, r)

  pub passes_other : is_starter m ≡ false → is_blocked_by passed m ≡ false → mapping_with mappings (found.suffix ++ m ∷ []) ≡ None → joined_marks mappings found passed (drop i text) ≡ joined_marks mappings found (passed ++ m ∷ []) (drop (i + 1) text)
  unfolding joined_marks
  passes_other h b r = next_mark ∙ rw (h, b, r)

pub ends_with_text : (mappings : List SymbolicMapping) (found : SymbolicMapping) (passed text : List ℕ) (i : ℕ) → length text ≤ i → joined_marks mappings found passed (drop i text) ≡ record { elements = found.elements; suffix = found.suffix; rest = passed }
unfolding joined_marks
ends_with_text mappings found passed text i past = ap (joined_marks mappings found passed) (drop_of_length-le text past)

-- the mapping as it is, with this left of the text
abbrev pub as_found : SymbolicMapping → List ℕ → SymbolicMatch
as_found found rest = record { elements = found.elements; suffix = found.suffix; rest = rest }

-- no mark of a greater class than those that were passed over joins
abbrev pub NoneJoins : List SymbolicMapping → SymbolicMapping → List ℕ → Type 0
NoneJoins mappings found passed = (m : ℕ) → greatest_class passed < class_of m → mapping_with mappings (found.suffix ++ m ∷ []) ≡ None

passes : (mappings : List SymbolicMapping) (found : SymbolicMapping) (passed text : List ℕ) (m : ℕ) → NoneJoins mappings found passed
    → is_starter m ≡ false → (b : Bool) → is_blocked_by passed m ≡ b
    → joined_marks mappings found passed (m ∷ text) ≡ joined_marks mappings found (passed ++ m ∷ []) text
passes mappings found passed text m h starter true blocked = passes_blocked mappings found passed (m ∷ text) 0 m refl starter blocked
passes mappings found passed text m h starter false free =
    let mark : 0 < class_of m = grind (arith, nat_tests, starter) in
    let above : greatest_class passed < class_of m =
    leb-false (class_of m) (greatest_class passed) (sym (blocked_by_greatest passed m mark) ∙ sym (same_blocking passed m) ∙ free) in
    passes_other mappings found passed (m ∷ text) 0 m refl starter free (h m above)

stays : (mappings : List SymbolicMapping) (found : SymbolicMapping) (passed text : List ℕ) (m : ℕ) → NoneJoins mappings found passed
    → joined_marks mappings found (passed ++ m ∷ []) text ≡ as_found found ((passed ++ m ∷ []) ++ text)
    → (b : Bool) → is_starter m ≡ b → joined_marks mappings found passed (m ∷ text) ≡ as_found found (passed ++ m ∷ text)
stays mappings found passed text m h behind true starter = ends_at_starter mappings found passed (m ∷ text) 0 m refl starter
stays mappings found passed text m h behind false mark =
    passes mappings found passed text m h mark (is_blocked_by passed m) refl
    ∙ behind ∙ ap (as_found found) (append_assoc passed (m ∷ []) text)

none_more : (mappings : List SymbolicMapping) (found : SymbolicMapping) (passed : List ℕ) (m : ℕ) → NoneJoins mappings found passed
    → NoneJoins mappings found (passed ++ m ∷ [])
none_more mappings found passed m h n above = h n (omega (arith, above, greatest_more passed m))

-- where none joins, the marks that are left stay
pub none_joins : (mappings : List SymbolicMapping) (found : SymbolicMapping) (passed text : List ℕ) → NoneJoins mappings found passed
    → joined_marks mappings found passed text ≡ as_found found (passed ++ text)
unfolding joined_marks
none_joins mappings found passed [] h = ap (as_found found) (sym (append-nil passed))
none_joins mappings found passed (m ∷ text) h =
    stays mappings found passed text m h
    (none_joins mappings found (passed ++ m ∷ []) text (none_more mappings found passed m h)) (is_starter m) refl
