-- What lines say of their file, line by line.
use Rattle.std.proofs.Common.{◌≡◌, List, [], ◌∷◌, ◌++◌, None, refl, sym, ap, ◌∙◌, option_map, string_bytes}
use Rattle.std.specs.List.{flat_map}
use Rattle.std.specs.Option.{option_or}
use Rattle.std.proofs.lemmas.List.{append-nil}
use Rattle.std.proofs.lemmas.List.Sums.{fold-append}
use Rattle.std.proofs.lemmas.Grind.{flat_map-append}
use Rattle.icu_cldr_root.specs.FileFacts.{SaysFacts, fixed_by, reserved_by, version_by, version_said}
use Rattle.icu_cldr_root.specs.inner.Taken.{AddsFacts}
use Rattle.icu_cldr_root.specs.declared.file_facts.FileFacts.{FileFacts}
use Rattle.icu_cldr_root.specs.declared.line.Line.{Line}
use Rattle.icu_cldr_root.specs.declared.line.Line.TheVariants as says

version_more : (said : List Line) (line : Line) → version_said (said ++ line ∷ []) ≡ option_or (version_by line) (version_said said)
version_more said line = fold-append (λ version l. option_or (version_by l) version) None said (line ∷ [])

list_more : {A : Type 0} (f : Line → List A) (said : List Line) (line : Line) → flat_map f (said ++ line ∷ []) ≡ flat_map f said ++ f line
list_more f said line = flat_map-append f said (line ∷ []) ∙ ap (λ xs. flat_map f said ++ xs) (append-nil (f line))

module _ (old new : FileFacts) (said : List Line) (has : SaysFacts old said) where
  same_version : (line : Line) → version_by line ≡ None → new.version ≡ old.version → option_map string_bytes new.version ≡ version_said (said ++ line ∷ [])
  same_version line none same =
      ap (option_map string_bytes) same ∙ has.version
      ∙ sym (version_more said line ∙ ap (λ o. option_or o (version_said said)) none)

  same_fixed : (line : Line) → fixed_by line ≡ [] → new.fixed.items ≡ old.fixed.items → new.fixed.items ≡ flat_map fixed_by (said ++ line ∷ [])
  same_fixed line none same =
      same ∙ has.fixed
      ∙ sym (list_more fixed_by said line ∙ ap (λ fs. flat_map fixed_by said ++ fs) none ∙ append-nil (flat_map fixed_by said))

  same_reserved : (line : Line) → reserved_by line ≡ [] → new.reserved.items ≡ old.reserved.items → new.reserved.items ≡ flat_map reserved_by (said ++ line ∷ [])
  same_reserved line none same =
      same ∙ has.reserved
      ∙ sym (list_more reserved_by said line ∙ ap (λ rs. flat_map reserved_by said ++ rs) none ∙ append-nil (flat_map reserved_by said))

  unchanged : (line : Line) → version_by line ≡ None → fixed_by line ≡ [] → reserved_by line ≡ [] → new ≡ old → SaysFacts new (said ++ line ∷ [])
  unchanged line version fixed reserved same = record {
    version = same_version line version (ap (λ (f : FileFacts). f.version) same);
    fixed = same_fixed line fixed (ap (λ (f : FileFacts). f.fixed.items) same);
    reserved = same_reserved line reserved (ap (λ (f : FileFacts). f.reserved.items) same);
  }

  -- what the line says was added
  pub facts_more : (line : Line) → AddsFacts old new line → SaysFacts new (said ++ line ∷ [])
  facts_more (says.Version v) adds = record {
    version = ap (option_map string_bytes) adds.0 ∙ sym (version_more said (says.Version v));
    fixed = same_fixed (says.Version v) refl adds.1;
    reserved = same_reserved (says.Version v) refl adds.2;
  }
  facts_more (says.Fixed f) adds = record {
    version = same_version (says.Fixed f) refl adds.0;
    fixed = adds.1 ∙ ap (λ fs. fs ++ f ∷ []) has.fixed ∙ sym (list_more fixed_by said (says.Fixed f));
    reserved = same_reserved (says.Fixed f) refl adds.2;
  }
  facts_more (says.Reserved r) adds = record {
    version = same_version (says.Reserved r) refl adds.0;
    fixed = same_fixed (says.Reserved r) refl adds.1;
    reserved = adds.2 ∙ ap (λ rs. rs ++ r ∷ []) has.reserved ∙ sym (list_more reserved_by said (says.Reserved r));
  }
  facts_more says.Nothing adds = unchanged says.Nothing refl refl refl adds
  facts_more (says.Ideographs r) adds = unchanged (says.Ideographs r) refl refl refl adds
  facts_more (says.LeadByte l) adds = unchanged (says.LeadByte l) refl refl refl adds
  facts_more (says.NumericLead n) adds = unchanged (says.NumericLead n) refl refl refl adds
  facts_more (says.Mapping m) adds = unchanged (says.Mapping m) refl refl refl adds
