-- What holds of each branch of a choice holds of the choice.
use Rattle.std.proofs.Common.{◌≡◌, Bool, true, false, List, [], ◌∷◌, Option, Some, None, if◌then◌else◌, IfSome, refl}
use Rattle.icu_table_entries.specs.declared.entry.EntryKind.{EntryKind}
use Rattle.icu_table_entries.specs.declared.entry.EntryKind.TheVariants.{Contraction, Digit}

pub either : {A : Type 0} (P : A → Type 0) (b : Bool) (x y : A) → P x → P y → P (if b then x else y)
either P true x y p q = p
either P false x y p q = q

pub maybe : {A B : Type 0} (Q : A → Type 0) (P : B → Type 0) (o : Option A) (f : A → B) (y : B) → IfSome o Q → ((x : A) → Q x → P (f x)) → P y → P (elim o as (λ _. B) [ Some x ↦ f x | None ↦ y ])
maybe Q P (Some x) f y h p q = p x h
maybe Q P None f y h p q = q

-- what holds of both cases of an option's choice holds of it, where nothing need be known of the value
pub maybe_any : {A B : Type 0} (P : B → Type 0) (o : Option A) (f : A → B) (y : B) → ((x : A) → P (f x)) → P y → P (elim o as (λ _. B) [ Some x ↦ f x | None ↦ y ])
maybe_any P (Some x) f y p q = p x
maybe_any P None f y p q = q

pub at_nil : {A B : Type 0} (P : B → Type 0) (l : List A) (x y : B) → P x → P y → P (elim l as (λ _. B) [ [] ↦ x | _ ∷ _ ↦ y ])
at_nil P [] x y p q = p
at_nil P (_ ∷ _) x y p q = q

-- ---- where each branch is what f makes of another, so is the choice

pub either_by : {A B : Type 0} (f : A → B) (b : Bool) (x : B) (x' : A) (y : B) (y' : A) → x ≡ f x' → y ≡ f y' → (if b then x else y) ≡ f (if b then x' else y')
either_by f true x x' y y' p q = p
either_by f false x x' y y' p q = q

pub maybe_by : {A B C : Type 0} (f : B → C) (o : Option A) (g : A → C) (g' : A → B) (y : C) (y' : B) → ((a : A) → o ≡ Some a → g a ≡ f (g' a)) → y ≡ f y'
    → (elim o as (λ _. C) [ Some a ↦ g a | None ↦ y ]) ≡ f (elim o as (λ _. B) [ Some a ↦ g' a | None ↦ y' ])
maybe_by f (Some a) g g' y y' p q = p a refl
maybe_by f None g g' y y' p q = q

pub nil_by : {X A B : Type 0} (f : A → B) (l : List X) (x : B) (x' : A) (y : B) (y' : A) → (l ≡ [] → x ≡ f x') → y ≡ f y'
    → (elim l as (λ _. B) [ [] ↦ x | _ ∷ _ ↦ y ]) ≡ f (elim l as (λ _. A) [ [] ↦ x' | _ ∷ _ ↦ y' ])
nil_by f [] x x' y y' p q = p refl
nil_by f (_ ∷ _) x x' y y' p q = q

pub contraction_by : {A B : Type 0} (f : A → B) (k : EntryKind) (x : B) (x' : A) (y : B) (y' : A) → (k ≡ Contraction → x ≡ f x') → y ≡ f y'
    → (elim k as (λ _. B) [ Contraction ↦ x | _ ↦ y ]) ≡ f (elim k as (λ _. A) [ Contraction ↦ x' | _ ↦ y' ])
contraction_by f Contraction x x' y y' p q = p refl
contraction_by f _ x x' y y' p q = q

pub digit_by : {A B : Type 0} (f : A → B) (k : EntryKind) (x : B) (x' : A) (y : B) (y' : A) → (k ≡ Digit → x ≡ f x') → y ≡ f y'
    → (elim k as (λ _. B) [ Digit ↦ x | _ ↦ y ]) ≡ f (elim k as (λ _. A) [ Digit ↦ x' | _ ↦ y' ])
digit_by f Digit x x' y y' p q = p refl
digit_by f _ x x' y y' p q = q
