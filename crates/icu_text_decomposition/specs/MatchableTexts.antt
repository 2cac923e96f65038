-- What is left of a text from which marks are taken.
use Rattle.std.specs.Prelude.{ℕ, List}
use Rattle.icu_text_encodings.specs.declared.encoded_text.EncodedText.{Ghosts}
use Rattle.icu_text_decomposition.specs.declared.matchable_text.MatchableText.{MatchableText}
use Rattle.icu_text_decomposition.specs.inner.Taking.{unread_of, passed_of}

-- the characters that are still to be read
abbrev pub unread_text : {T : Type 0} {encoded : Ghosts T} → (T → List ℕ) → MatchableText T encoded → List ℕ
unread_text text t = unread_of text t.taking

-- how many of them were passed over
abbrev pub passed_count : {T : Type 0} {encoded : Ghosts T} → (T → List ℕ) → MatchableText T encoded → ℕ
passed_count text t = passed_of text t.taking
