-- An error of a frame that is true of bytes leaves no frame.
use Rattle.std.proofs.Common.{◌≡◌, ℕ, ◌+◌, ◌<◌, ◌^◌, List, [], ◌++◌, length, Result, Ok, Err, refl, sym, ap, ◌∙◌, inl, inr, arith}
use Rattle.std.specs.Prelude.{IfErr, MatchResult}
use Rattle.std.proofs.lemmas.List.{length-append}
use Rattle.icu_table_files.proofs.fingerprint.WordForms.{cut}
use Rattle.icu_table_files.proofs.FileLemmas.{framed_length}
use Rattle.std.specs.Int.{w64, to_be_bytes}
use Rattle.sha2.specs.Sha256.{sha256}
use Rattle.sha2.proofs.Facts256.{length-sha256}
use Rattle.icu_table_files.specs.parts.Frames.{framed, magic_word}
use Rattle.icu_table_files.specs.parts.FrameErrors.{HasOtherSum, HasVersion, IsFrameError, IsUnframed, SaysLess, SaysMore, headed}
use Rattle.icu_table_files.specs.declared.parts.frame_error.FrameError.{FrameError}
use Rattle.icu_table_files.specs.declared.parts.frame_error.FrameError.TheVariants.{Empty, Foreign, Version, CutOff, LeftOver, Damaged}
use Rattle.icu_table_files.proofs.parts.SpeltNumberLemmas.{number_tells, wide64}

-- what stands behind a word
behind : (x : ℕ) (r s : List ℕ) → to_be_bytes w64 x ++ r ≡ to_be_bytes w64 x ++ s → r ≡ s
behind x r s e = (cut (to_be_bytes w64 x) (to_be_bytes w64 x) r s refl e).1

-- the length of a header's rest, and the rest, are those of the frame
headed_tells : (len : ℕ) (rest body : List ℕ) → len < 2 ^ 64 → length body < 2 ^ 64 → headed len rest ≡ framed body → (len ≡ length body) × (rest ≡ sha256 body ++ body)
headed_tells len rest body f g e =
    let a = behind magic_word _ _ e in
    let b = behind 1 _ _ a in
    number_tells w64 (2 ^ 64) wide64 len (length body) rest (sha256 body ++ body) f g b

more_is_wrong : (bytes body : List ℕ) → SaysMore bytes → length body < 2 ^ 64 → framed body ≡ bytes → ⊥
more_is_wrong bytes body h g e =
    let k = headed_tells h.len h.rest body h.small g (h.is ∙ sym e) in
    omega (arith, h.more, k.0, ap length k.1, length-append (sha256 body) body, length-sha256 body)

pub unframed : (bytes : List ℕ) (e : FrameError) → IsFrameError bytes e → IsUnframed bytes
unframed bytes Empty h body g e = omega (arith, framed_length body, ap length e, ap length h)
unframed bytes Foreign h body g e = h (to_be_bytes w64 1 ++ (to_be_bytes w64 (length body) ++ (sha256 body ++ body))) e
unframed bytes (Version version) h body g e =
    let a = behind magic_word _ _ (h.is ∙ sym e) in
    h.other (number_tells w64 (2 ^ 64) wide64 version 1 h.rest (to_be_bytes w64 (length body) ++ (sha256 body ++ body)) h.small (omega arith) a).0
unframed bytes (CutOff at) h body g e =
    elim h.1 [
      | inl short ↦ omega (arith, framed_length body, ap length e, short)
      | inr says ↦ more_is_wrong bytes body says g e
    ]
unframed bytes (LeftOver end) h body g e =
    let k = headed_tells h.len h.rest body h.small g (h.is ∙ sym e) in
    omega (arith, h.less, k.0, ap length k.1, length-append (sha256 body) body, length-sha256 body)
unframed bytes Damaged h body g e =
    let k = headed_tells (length h.body) (h.sum ++ h.body) body h.small g (h.is ∙ sym e) in
    let parts = cut h.sum (sha256 body) h.body body (h.whole ∙ sym (length-sha256 body)) k.1 in
    h.other (parts.0 ∙ ap sha256 (sym parts.1))

-- of what may be a frame's body, an error leaves no frame
pub errors_refuse : {A : Type 0} (bytes : List ℕ) (P : A → Type 0) (r : Result A FrameError) → MatchResult r P (IsFrameError bytes) → IfErr r (λ _. IsUnframed bytes)
errors_refuse bytes P (Ok x) h = tt
errors_refuse bytes P (Err e) h = unframed bytes e h
