use Rattle.std.proofs.Common.{◌≡◌, replicate, get_or, refl, ap, lit≤, inl, inr, arith}
use Rattle.base62.specs.Uuid.{IsUuid}
use Rattle.base62.proofs.UuidStringLemmas.{no_string, bytes_replicate}
use Rattle.base62.proofs.model.uuids.uuid_strings_by_example.Goals as goal

ab : IsUuid (replicate 16 171)
ab = record { size = refl; bytes = bytes_replicate 16 171 (lit≤ tt) }

pub returns-clause-digits : goal.returns-clause-digits
returns-clause-digits c = inl (record { bytes = ab; digits = inl refl })

pub returns-clause-hyphens : goal.returns-clause-hyphens
returns-clause-hyphens c = inl (record { bytes = ab; digits = inr refl })

pub returns-clause-braces : goal.returns-clause-braces
returns-clause-braces c = inr (inl (record { size = lit≤ tt; opens = refl; closes = refl }, record { bytes = ab; digits = inr refl }))

pub returns-clause-plain_braces : goal.returns-clause-plain_braces
returns-clause-plain_braces c = inr (inl (record { size = lit≤ tt; opens = refl; closes = refl }, record { bytes = ab; digits = inl refl }))

pub returns-clause-urn : goal.returns-clause-urn
returns-clause-urn c = inr (inr (record { size = lit≤ tt; urn = refl }, record { bytes = ab; digits = inr refl }))

pub returns-clause-plain_urn : goal.returns-clause-plain_urn
returns-clause-plain_urn c = inr (inr (record { size = lit≤ tt; urn = refl }, record { bytes = ab; digits = inl refl }))

pub returns-clause-other_uuid : goal.returns-clause-other_uuid
returns-clause-other_uuid c = λ is. elim is [
  | inl are ↦ elim are.digits [
    | inl e ↦ let second : 98 ≡ 99 = ap (λ text. get_or text 1 0) e in omega (arith, second)
    | inr e ↦ let second : 98 ≡ 99 = ap (λ text. get_or text 1 0) e in omega (arith, second)
  ]
  | inr other ↦ elim other [
    | inl both ↦ let first = both.0.opens in omega (arith, first)
    | inr both ↦ let first : 97 ≡ 117 = ap (λ text. get_or text 0 0) both.0.urn in omega (arith, first)
  ]
]

pub returns-clause-digit_less : goal.returns-clause-digit_less
returns-clause-digit_less c = no_string _ refl

pub returns-clause-no_digit : goal.returns-clause-no_digit
returns-clause-no_digit c = no_string _ refl

pub returns-clause-one_hyphen : goal.returns-clause-one_hyphen
returns-clause-one_hyphen c = no_string _ refl

pub returns-clause-hyphen_moved : goal.returns-clause-hyphen_moved
returns-clause-hyphen_moved c = no_string _ refl

pub returns-clause-open_brace : goal.returns-clause-open_brace
returns-clause-open_brace c = no_string _ refl

pub returns-clause-two_braces : goal.returns-clause-two_braces
returns-clause-two_braces c = no_string _ refl

pub returns-clause-braces_after_urn : goal.returns-clause-braces_after_urn
returns-clause-braces_after_urn c = no_string _ refl

pub returns-clause-no_urn : goal.returns-clause-no_urn
returns-clause-no_urn c = no_string _ refl

pub returns-clause-none : goal.returns-clause-none
returns-clause-none c = no_string _ refl
