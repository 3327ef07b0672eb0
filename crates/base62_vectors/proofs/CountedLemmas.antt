-- The result of a counted call, and its steps, for a number whose one canonical text is known.
use Rattle.std.proofs.Common.{◌≡◌, ℕ, ◌+◌, ◌<◌, ◌≤◌, List, length, take, Result, Ok, Err, refl, sym, ap, ◌∙◌, arith}
use Rattle.std.proofs.lemmas.Bool.{false≢true}
use Rattle.std.proofs.lemmas.List.{length-take-le}
use Rattle.base62.specs.declared.fault.EncodeError.{EncodeError}
use Rattle.base62.specs.declared.fault.EncodeError.TheVariants.{BufferTooSmall}
use Rattle.base62.specs.Canonical.{IsCanonical}
use Rattle.base62.specs.Steps.{EncodesCounted, encoding_steps}

module _ {B : List ℕ} {n : ℕ} {old new : List ℕ} {before after : ℕ} (text : List ℕ)
    (only : (other : List ℕ) → IsCanonical B other n → other ≡ text) where
  -- 22 bytes are enough
  pub counted : (result : Result ℕ EncodeError) → 22 ≤ length old → EncodesCounted B n old new before after result
      → (result ≡ Ok (length text)) × (after ≡ before + encoding_steps (length text))
  counted (Ok len) room encodes =
      let written = encodes.answer.text in
      let is = sym (length-take-le len new written.0) ∙ ap length (only (take len new) written.1) in
      (ap Ok is, encodes.steps ∙ ap (λ d. before + encoding_steps d) is)
  counted (Err e) room encodes = absurd (false≢true (encodes.answer.roomy room))

  -- a shorter buffer than the text is rejected
  pub uncounted : (result : Result ℕ EncodeError) → length old < length text → EncodesCounted B n old new before after result
      → (result ≡ Err BufferTooSmall) × (after ≡ before)
  uncounted (Ok len) short encodes =
      let some = encodes.answer.fits.0 refl in absurd (omega (arith, ap length (only some.0 some.1), some.2))
  uncounted (Err BufferTooSmall) short encodes = (refl, encodes.steps)
