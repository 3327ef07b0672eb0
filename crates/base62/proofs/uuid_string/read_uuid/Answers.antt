use Rattle.std.proofs.Common.{◌≡◌, length, map, arith, inl, inr, ap, sym, ◌∙◌}
use Rattle.std.specs.Char.{to_ascii_lowercase}
use Rattle.std.proofs.lemmas.List.{length-map}
use Rattle.base62.specs.UuidString.{digits, hyphenated}
use Rattle.base62.proofs.UuidStringLemmas.{length-digits, length-hyphenated, lowercase_hyphenated, hyphenated_once}
use Rattle.base62.proofs.uuid_string.read_uuid.Goals as goal

pub returns-in-Some-clause-stored : goal.returns-in-Some-clause-stored
returns-in-Some-clause-stored c = λ uuid is.
    let d = c.in-Some.digits in
    let text = c.without_hyphens.ensures.found d c.in-Some.is in
    let size : length d ≡ 32 = omega arith in
    let lower = c.read_pairs.ensures.digits uuid is in
    record {
      bytes = c.read_pairs.ensures.stored uuid is;
      digits = inr (ap (map to_ascii_lowercase) text ∙ lowercase_hyphenated d size ∙ ap hyphenated lower);
    }

pub returns-in-Some-clause-accepted : goal.returns-in-Some-clause-accepted
returns-in-Some-clause-accepted c = λ uuid are.
    let d = c.in-Some.digits in
    let size : length d ≡ 32 = omega arith in
    let text = ap (map to_ascii_lowercase) (c.without_hyphens.ensures.found d c.in-Some.is) ∙ lowercase_hyphenated d size in
    let bytes = are.bytes.size in
    let all : length (digits uuid) ≡ 32 = omega (arith, length-digits uuid) in
    let long : length (map to_ascii_lowercase d) ≡ 32 = simp length-map size in
    elim are.digits [
      | inl e ↦ absurd (omega (arith, all, ap length (sym e ∙ text), length-hyphenated (map to_ascii_lowercase d) long))
      | inr e ↦ c.read_pairs.ensures.accepted uuid are.bytes (hyphenated_once (map to_ascii_lowercase d) (digits uuid) long all (sym text ∙ e))
    ]

pub returns-in-None-clause-stored : goal.returns-in-None-clause-stored
returns-in-None-clause-stored c = λ uuid is.
    record {
      bytes = c.read_pairs-in-None.ensures.stored uuid is;
      digits = inl (c.read_pairs-in-None.ensures.digits uuid is);
    }

pub returns-in-None-clause-accepted : goal.returns-in-None-clause-accepted
returns-in-None-clause-accepted c = λ uuid are.
    let bytes = are.bytes.size in
    elim are.digits [
      | inl e ↦ c.read_pairs-in-None.ensures.accepted uuid are.bytes e
      | inr e ↦ absurd (c.without_hyphens.ensures.none (digits uuid) c.in-None.is (omega (arith, length-digits uuid)) e)
    ]
