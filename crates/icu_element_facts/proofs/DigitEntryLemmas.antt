-- What a digit's entry that meets the conditions may be read by.
use Rattle.std.proofs.Common.{◌≡◌, ℕ, List, subst, refl}
use Rattle.icu_table_entries.specs.declared.entry.EntryKind.{EntryKind}
use Rattle.icu_table_entries.specs.declared.entry.EntryKind.TheVariants.{Prefix, Contraction, Digit}
use Rattle.icu_table_entries.specs.Entries.{kind_of}
use Rattle.icu_table_data.specs.Data.{Data}
use Rattle.icu_table_data.specs.Reachable.{reachable_digit, reachable_contraction, reachable_from}
use Rattle.icu_element_matches.specs.WellFormedEntries.{MeetAll, IsWellFormedFrom, IsWellFormedMatch}

no_context : (k : EntryKind) (a b d : List ℕ) → k ≡ Digit → (elim k as (λ _. List ℕ) [ Prefix ↦ a | _ ↦ elim k as (λ _. List ℕ) [ Contraction ↦ b | _ ↦ d ] ]) ≡ d
no_context Digit a b d is = refl
no_context _ a b d is = cc

pub well_formed_digit : (home : Data) (c e : ℕ) → kind_of e ≡ Digit → IsWellFormedFrom home c e → IsWellFormedMatch home c e
unfolding reachable_from reachable_contraction
well_formed_digit home c e is well_formed = subst (MeetAll home c) (no_context (kind_of e) _ _ (reachable_digit home e) is) well_formed
