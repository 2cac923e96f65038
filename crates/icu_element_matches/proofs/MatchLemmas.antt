-- What a well-formed entry says of what its match comes to.
use Rattle.std.proofs.Common.{◌≡◌, ℕ, ◌<◌, Bool, true, List, ◌∷◌, length, IsTrue}
use Rattle.std.specs.List.{AllByRecursion, Contains}
use Rattle.std.proofs.lemmas.Bool.{ltb-true}
use Rattle.icu_table_entries.specs.declared.entry.EntryKind.{EntryKind}
use Rattle.icu_table_entries.specs.declared.entry.EntryKind.TheVariants.{Expansion32, Expansion, Prefix, Contraction, Digit, Offset}
use Rattle.icu_table_entries.specs.Entries.{kind_of, entry_index}
use Rattle.icu_table_data.specs.declared.reachable_condition.ReachableCondition.{ReachableCondition}
use Rattle.icu_table_data.specs.declared.reachable_condition.ReachableCondition.TheVariants.{Indices}
use Rattle.icu_table_data.specs.Data.{Data, homed}
use Rattle.icu_table_data.specs.DataConditions.{is_inside}
use Rattle.icu_table_data.specs.Reachable.{reachable_digit, reachable_contraction, reachable_from}
use Rattle.icu_table_data.specs.ReachableConditions.{meets}
use Rattle.icu_table_data.proofs.ListLemmas.{all_members, of_member, weaker, all_of}
use Rattle.icu_element_matches.specs.WellFormedEntries.{IsWellFormedFrom, IsWellFormedMatch, MeetAll}
use Rattle.icu_element_matches.specs.Matches.{after_prefix, match_of}
use Rattle.icu_element_matches.proofs.ReachableLemmas.{after_prefix-reachable, match_of-reachable}

-- the entry meets each condition with the character
abbrev Meets : Data → ℕ → ℕ → Type 0
Meets home c f = (condition : ReachableCondition) → IsTrue (meets condition home c f)

all_meet : (home : Data) (c : ℕ) (es : List ℕ) → MeetAll home c es → AllByRecursion (Meets home c) es
all_meet home c es well_formed = weaker (Contains es) (Meets home c) (λ f among condition. well_formed condition f among) es (all_members es)

-- what a match comes to is well-formed
pub well_formed_match : (home : Data) (c e : ℕ) (before text : List ℕ) → IsWellFormedFrom home c e → IsWellFormedMatch home c (match_of (homed home e) before text).entry
well_formed_match home c e before text well_formed = λ condition f among.
    let m = match_of (homed home e) before text in
    of_member (Meets home c) (reachable_digit home m.entry) f
    (match_of-reachable (Meets home c) (λ _. Unit {0}) (homed home e) before text (all_meet home c (reachable_from home e) well_formed) (all_of (λ _. Unit {0}) (λ _. tt) text)).entry among condition

-- ---- what an entry refers to is there

at_prefix : (k : EntryKind) (a b d f g h : Bool) → k ≡ Prefix → IsTrue (elim k as (λ _. Bool) [ Expansion32 ↦ a | Expansion ↦ b | Prefix ↦ d | Contraction ↦ f | Digit ↦ g | Offset ↦ h | _ ↦ true ]) → IsTrue d
at_prefix Prefix a b d f g h is t = t
at_prefix _ a b d f g h is t = cc

at_contraction : (k : EntryKind) (a b d f g h : Bool) → k ≡ Contraction → IsTrue (elim k as (λ _. Bool) [ Expansion32 ↦ a | Expansion ↦ b | Prefix ↦ d | Contraction ↦ f | Digit ↦ g | Offset ↦ h | _ ↦ true ]) → IsTrue f
at_contraction Contraction a b d f g h is t = t
at_contraction _ a b d f g h is t = cc

prefix_there : (home : Data) (e : ℕ) → kind_of e ≡ Prefix → IsTrue (is_inside home e) → entry_index e < length home.contexts
unfolding is_inside
prefix_there home e is inside = ltb-true _ _ (at_prefix (kind_of e) _ _ _ _ _ _ is inside)

contraction_there : (home : Data) (e : ℕ) → kind_of e ≡ Contraction → IsTrue (is_inside home e) → entry_index e < length home.contexts
unfolding is_inside
contraction_there home e is inside = ltb-true _ _ (at_contraction (kind_of e) _ _ _ _ _ _ is inside)

head_from : (P : ℕ → Type 0) (k : EntryKind) (e : ℕ) (xs zs : List ℕ) → k ≡ Prefix → AllByRecursion P (elim k as (λ _. List ℕ) [ Prefix ↦ e ∷ xs | _ ↦ zs ]) → P e
head_from P Prefix e xs zs is all = all.0
head_from P _ e xs zs is all = cc

head_after : (P : ℕ → Type 0) (k : EntryKind) (e : ℕ) (xs zs : List ℕ) → k ≡ Contraction → AllByRecursion P (elim k as (λ _. List ℕ) [ Contraction ↦ e ∷ xs | _ ↦ zs ]) → P e
head_after P Contraction e xs zs is all = all.0
head_after P _ e xs zs is all = cc

pub prefix_inside : (home : Data) (c e : ℕ) → IsWellFormedFrom home c e → kind_of e ≡ Prefix → entry_index e < length home.contexts
unfolding reachable_from
prefix_inside home c e well_formed is =
    prefix_there home e is (head_from (Meets home c) (kind_of e) e _ _ is (all_meet home c (reachable_from home e) well_formed) Indices)

pub contraction_inside : (home : Data) (c e : ℕ) (before : List ℕ) → IsWellFormedFrom home c e → kind_of (after_prefix (homed home e) before) ≡ Contraction → entry_index (after_prefix (homed home e) before) < length home.contexts
unfolding reachable_contraction
contraction_inside home c e before well_formed is =
    let f : ℕ = after_prefix (homed home e) before in
    let reachable : AllByRecursion (Meets home c) (reachable_contraction home f) = after_prefix-reachable (Meets home c) (homed home e) before (all_meet home c (reachable_from home e) well_formed) in
    contraction_there home f is (head_after (Meets home c) (kind_of f) f _ _ is reachable Indices)
