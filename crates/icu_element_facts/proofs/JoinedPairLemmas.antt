-- Characters behind two that a contraction joins, and what is kept of pairs.
use Rattle.std.proofs.Common.{◌≡◌, ◌≢◌, ℕ, Bool, true, false, not, List, [], ◌∷◌, ◌++◌, Option, Some, None, refl, sym, subst, inl, inr, ◌<◌, length, length-append, arith}
use Rattle.std.specs.Prelude.{slice_index_or, OnOk, Result, Ok, Err}
use Rattle.std.proofs.lemmas.List.{get_or_push, get_or_append_left}
use Rattle.std.proofs.lemmas.Bool.{cases_eq, and_parts, eq-eqb, true≢false}
use Rattle.icu_table_entries.specs.declared.entry.EntryKind.{EntryKind}
use Rattle.icu_table_entries.specs.declared.entry.EntryKind.TheVariants.{Digit}
use Rattle.icu_table_data.specs.Data.{Mapping}
use Rattle.icu_element_matches.specs.MatchesAhead.{is_decided, are_decided}
use Rattle.icu_element_reading.specs.TextElements.{Reading, Step}
use Rattle.icu_element_facts.specs.Followers.{DiffersFromPair, NoneBeginsWithBoth}
use Rattle.icu_element_facts.specs.KeptPairs.{IsKeptPair}
use Rattle.icu_element_facts.specs.declared.kept_pairs.KeptPair.{KeptPair}

-- ---- mappings that go on no further

none_by_decided : (chars : List ℕ) (x d : ℕ) → is_decided chars (x ∷ []) ≡ true → DiffersFromPair x d chars
unfolding is_decided
none_by_decided [] x d h = tt
none_by_decided (y ∷ []) x d h = tt
none_by_decided (y ∷ (z ∷ zs)) x d h = λ same. absurd (true≢false (sym (rw (eq-eqb y x same) at h)))

-- where none goes on behind a character, none begins with it and another
pub none_further : (mappings : List Mapping) (x d : ℕ) → are_decided mappings (x ∷ []) ≡ true → NoneBeginsWithBoth mappings x d
none_further [] x d h = tt
none_further (mapping ∷ mappings) x d h =
    let parts = and_parts (is_decided mapping.chars (x ∷ [])) _ h in
    (none_by_decided mapping.chars x d parts.0, none_further mappings x d parts.1)

pub negated : (b : Bool) → not b ≡ false → b ≡ true
negated true h = refl
negated false h = cc

pub still_ok : {T E P Q : Type 0} (r : Result T E) → OnOk r P → (P → Q) → OnOk r Q
still_ok (Ok x) h turn = turn h
still_ok (Err e) h turn = tt

-- ---- the step

pub no_secondary : (o : Option ℕ) (f : ℕ → Step) (y : Step) → o ≡ None → (elim o as (λ _. Step) [ Some s ↦ f s | None ↦ y ]) ≡ y
no_secondary (Some s) f y h = cc
no_secondary None f y h = refl

pub not_digit : (k : EntryKind) (x y : Step) → k ≢ Digit → (elim k as (λ _. Step) [ Digit ↦ x | _ ↦ y ]) ≡ y
not_digit Digit x y n = absurd (n refl)
not_digit _ x y n = refl

-- ---- lists of pairs

-- one more comes after those there are
pub pairs_more : (reading : Reading) (pairs : List KeptPair) (p : KeptPair) → ((k : ℕ) (other : KeptPair) → k < length pairs → IsKeptPair reading (slice_index_or pairs k other)) → IsKeptPair reading p
    → (k : ℕ) (other : KeptPair) → k < length (pairs ++ p ∷ []) → IsKeptPair reading (slice_index_or (pairs ++ p ∷ []) k other)
pairs_more reading pairs p are is = λ k other below.
    elim (cases_eq k (length pairs)) [
      | inl last ↦ subst (IsKeptPair reading) (sym (get_or_push pairs p other k (sym last))) is
      | inr before ↦
          let inside : k < length pairs = omega (arith, length-append pairs (p ∷ []), before, below) in
          subst (IsKeptPair reading) (sym (get_or_append_left pairs (p ∷ []) other k inside)) (are k other inside)
    ]
