use Rattle.std.proofs.Common.{refl, lit≤}
use Rattle.std.proofs.lemmas.Bool.{false≢true}
use Rattle.base62.proofs.LiteralLemmas.{canonical_1337, encodes_1337, refuses_1337, fits_1337, leading_1337}
use Rattle.base62.proofs.OnLiterals.{base62_on_literals}
use Rattle.base62.proofs.model.encodings.buffers_by_example.Goals as goal

pub returns-clause-longer : goal.returns-clause-longer
returns-clause-longer c = encodes_1337

pub returns-clause-just_fits : goal.returns-clause-just_fits
unfolding base62_on_literals
returns-clause-just_fits c = record {
  fits = (λ _. fits_1337, λ _. refl);
  text = (lit≤ tt, canonical_1337);
  back = refl;
  others = refl;
  short = (lit≤ tt, lit≤ tt);
  refused = tt;
  roomy = λ _. refl;
}

pub returns-clause-refused : goal.returns-clause-refused
returns-clause-refused c = refuses_1337

pub returns-clause-refused_with_room : goal.returns-clause-refused_with_room
returns-clause-refused_with_room c = λ h. false≢true (h.fits.1 fits_1337)

pub returns-clause-leading_zero : goal.returns-clause-leading_zero
returns-clause-leading_zero c = λ h. leading_1337 h.text.1
