use Rattle.std.proofs.Common.{sym, ◌∙◌, inl, inr}
use Rattle.std.proofs.lemmas.Bool.{false≢true}
use Rattle.base62.proofs.UuidStringLemmas.{no_braces, no_urn, urn_no_braces, inner_slice, urn_slice}
use Rattle.base62.proofs.uuid_string.read_uuid_string.Goals as goal

pub returns-then-is_in_braces-clause-stored : goal.returns-then-is_in_braces-clause-stored
returns-then-is_in_braces-clause-stored c = λ uuid is. inr (inl (c.is_in_braces.ensures.0 c.if-is_in_braces.true, rw (inner_slice c.args.string.now) at (c.read_uuid.ensures.stored uuid is)))

pub returns-then-is_in_braces-clause-accepted : goal.returns-then-is_in_braces-clause-accepted
returns-then-is_in_braces-clause-accepted c = λ uuid is.
    let text = c.args.string.now in
    let braces = c.is_in_braces.ensures.0 c.if-is_in_braces.true in
    elim is [
      | inl digits ↦ absurd (no_braces text uuid digits braces)
      | inr other ↦ elim other [
        | inl both ↦ c.read_uuid.ensures.accepted uuid (rw (inner_slice text) both.1)
        | inr both ↦ absurd (urn_no_braces text both.0 braces)
      ]
    ]

pub returns-then-has_urn-clause-stored : goal.returns-then-has_urn-clause-stored
returns-then-has_urn-clause-stored c = λ uuid is. inr (inr (c.has_urn.ensures.0 c.if-has_urn.true, rw (urn_slice c.args.string.now) at (c.read_uuid-then-has_urn.ensures.stored uuid is)))

pub returns-then-has_urn-clause-accepted : goal.returns-then-has_urn-clause-accepted
returns-then-has_urn-clause-accepted c = λ uuid is.
    let text = c.args.string.now in
    let urn = c.has_urn.ensures.0 c.if-has_urn.true in
    elim is [
      | inl digits ↦ absurd (no_urn text uuid digits urn)
      | inr other ↦ elim other [
        | inl both ↦ absurd (urn_no_braces text urn both.0)
        | inr both ↦ c.read_uuid-then-has_urn.ensures.accepted uuid (rw (urn_slice text) both.1)
      ]
    ]

pub returns-else-has_urn-clause-accepted : goal.returns-else-has_urn-clause-accepted
returns-else-has_urn-clause-accepted c = λ uuid is. elim is [
  | inl digits ↦ c.read_uuid-else-has_urn.ensures.accepted uuid digits
  | inr other ↦ elim other [
    | inl both ↦ absurd (false≢true (sym c.if-is_in_braces.false ∙ c.is_in_braces.ensures.1 both.0))
    | inr both ↦ absurd (false≢true (sym c.if-has_urn.false ∙ c.has_urn.ensures.1 both.0))
  ]
]
