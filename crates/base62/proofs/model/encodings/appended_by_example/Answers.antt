use Rattle.std.proofs.Common.{◌≡◌, ◌++◌, codes, drop, length, refl, ap, arith}
use Rattle.std.specs.String.{string_len}
use Rattle.std.proofs.lemmas.Bool.{false≢true}
use Rattle.base62.proofs.LiteralLemmas.{canonical_1337, leading_1337, too_long_1337}
use Rattle.base62.proofs.OnLiterals.{base62_on_literals}
use Rattle.base62.proofs.model.encodings.appended_by_example.Goals as goal

pub returns-clause-text : goal.returns-clause-text
unfolding base62_on_literals
returns-clause-text c = λ old new was is grows.
    let before : string_len old ≡ 2 = omega (arith, ap length was) in
    let after : string_len new ≡ 4 = omega (arith, ap length is) in record {
      ok = (codes "LZ", canonical_1337, rw (was, is) refl);
      back = rw (before, is) refl;
      short = (omega (arith, before, after), omega (arith, before, after));
      err = tt;
      fits = λ _. refl;
      roomy = λ _. refl;
      capacity = grows;
    }

pub returns-clause-refused : goal.returns-clause-refused
returns-clause-refused c = λ old e was small.
    let size = ap length was in record {
      ok = tt;
      back = tt;
      short = tt;
      err = (refl, refl);
      fits = λ fits. absurd (too_long_1337 (fits.0, fits.1, omega (arith, fits.2, size, small)));
      roomy = λ room. absurd (omega (arith, room, size, small));
      capacity = omega arith;
    }

pub returns-clause-leading_zero : goal.returns-clause-leading_zero
returns-clause-leading_zero c = λ old new was is h.
    let text = h.ok.0 in
    let same : codes "> 0LZ" ≡ codes "> " ++ text = rw (was, is) at h.ok.2 in leading_1337 (rw (ap (drop 2) same) h.ok.1)

pub returns-clause-refused_with_room : goal.returns-clause-refused_with_room
returns-clause-refused_with_room c = λ old new e room h. false≢true (h.fits (codes "LZ", canonical_1337, omega (arith, room)))
