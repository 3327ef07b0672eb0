-- An input has one output, and what the reply to each command is.
use Rattle.std.proofs.Common.{◌≡◌, ◌≢◌, ℕ, ◌^◌, ◌<◌, Some, None, if◌then◌else◌, Bool, true, false, List, [], ◌∷◌, ◌++◌, drop, codes, nat_eq, refl, sym, ◌∙◌}
use Rattle.std.specs.Bool.{MatchBool}
use Rattle.std.specs.List.{starts_with}
use Rattle.std.proofs.lemmas.Bool.{false_from_ne_true}
use Rattle.std.proofs.lemmas.Bool.Decides.{Decides-eqb}
use Rattle.std.proofs.lemmas.Option.{none-some}
use Rattle.std.proofs.lemmas.Slice.Eq.{starts_is}
use Rattle.base62.specs.Alphabet.{standard, alternative}
use Rattle.base62.specs.Canonical.{IsCanonical}
use Rattle.base62_cli.specs.Reply.{IsReply, IsEncodeReply, decimal_value, decode_reply, is_number}
use Rattle.base62_cli.specs.Output.{AreReplies}
use Rattle.base62_cli.proofs.NumberLemmas.{number_parts}

-- exactly one text has the property
pub record ExactlyOne (P : List ℕ → Type 0) : Type 0 where
  pub exists : (text : List ℕ) × P text
  pub only : (a b : List ℕ) → P a → P b → a ≡ b

-- if each side of a choice has one text, the choice has one
one_of_two : (test : Bool) (F G : List ℕ → Type 0) → (test ≡ true → ExactlyOne F) → ExactlyOne G
    → ExactlyOne (λ x. MatchBool test (F x) (G x))
one_of_two true F G f g = f refl
one_of_two false F G f g = g

-- a text that is told is one
stated : (text : List ℕ) → ExactlyOne (λ x. x ≡ text)
stated text = record { exists = (text, refl); only = λ a b p q. p ∙ sym q }

-- a line begins with a command
abbrev pub begins : List ℕ → List ℕ → Bool
begins line command = starts_with nat_eq line command

-- a line and an input have one reply, if a number below 2^128 has one text over each built-in alphabet
module _ (standard_text : (n : ℕ) → n < 2 ^ 128 → ExactlyOne (λ text. IsCanonical standard text n))
    (alternative_text : (n : ℕ) → n < 2 ^ 128 → ExactlyOne (λ text. IsCanonical alternative text n)) where
  -- a text to be encoded has one reply
  one_encode_reply : (B text : List ℕ)
      → ((n : ℕ) → n < 2 ^ 128 → ExactlyOne (λ t. IsCanonical B t n))
      → ExactlyOne (IsEncodeReply B text)
  one_encode_reply B text one =
      let n = decimal_value text in
      one_of_two (is_number text) (λ r. IsCanonical B r n) (λ r. r ≡ codes "fault: not a number") (λ e. one n (number_parts text e).2) (stated (codes "fault: not a number"))

  -- so has each line
  one_reply : (line : List ℕ) → ExactlyOne (IsReply line)
  unfolding IsReply
  one_reply line =
      let text : List ℕ = drop 4 line in
      one_of_two (begins line (codes "enc ")) (IsEncodeReply standard text) _ (λ _. one_encode_reply standard text standard_text)
      (one_of_two (begins line (codes "alt ")) (IsEncodeReply alternative text) _ (λ _. one_encode_reply alternative text alternative_text)
      (one_of_two (begins line (codes "dec ")) _ _ (λ _. stated (decode_reply standard text))
      (one_of_two (begins line (codes "adc ")) _ _ (λ _. stated (decode_reply alternative text)) (stated (codes "fault: unknown command")))))

  -- and so have the lines of an input, in order
  pub one_replies : (lines : List (List ℕ)) → ExactlyOne (AreReplies lines)
  unfolding AreReplies
  one_replies [] = stated []
  one_replies (line ∷ lines) =
      let r = one_reply line in
      let o = one_replies lines in record {
        exists = (r.exists.0 ++ 10 ∷ o.exists.0, (r.exists.0, o.exists.0, r.exists.1, o.exists.1, refl));
        only = λ a b p q. p.4 ∙ rw (r.only p.0 q.0 p.2 q.2, o.only p.1 q.1 p.3 q.3) refl ∙ sym q.4;
      }

-- the reply to each command and its text
module _ (text reply : List ℕ) where
  pub reply_to_enc : IsEncodeReply standard text reply → IsReply (codes "enc " ++ text) reply
  unfolding IsReply
  reply_to_enc h = h

  pub reply_to_alt : IsEncodeReply alternative text reply → IsReply (codes "alt " ++ text) reply
  unfolding IsReply
  reply_to_alt h = h

  pub reply_to_dec : reply ≡ decode_reply standard text → IsReply (codes "dec " ++ text) reply
  unfolding IsReply
  reply_to_dec h = h

  pub reply_to_adc : reply ≡ decode_reply alternative text → IsReply (codes "adc " ++ text) reply
  unfolding IsReply
  reply_to_adc h = h

-- a line that is not a text behind a command does not begin with it
begins_not : (line command : List ℕ) → ((text : List ℕ) → line ≢ command ++ text)
    → begins line command ≡ false
begins_not line command none = false_from_ne_true (begins line command) (λ e. none _ ((starts_is Decides-eqb line command (begins line command) refl).0 e))

-- the reply to any other line
pub reply_to_other : (line : List ℕ) → ((text : List ℕ) → line ≢ codes "enc " ++ text)
    → ((text : List ℕ) → line ≢ codes "alt " ++ text)
    → ((text : List ℕ) → line ≢ codes "dec " ++ text)
    → ((text : List ℕ) → line ≢ codes "adc " ++ text)
    → IsReply line (codes "fault: unknown command")
unfolding IsReply
reply_to_other line enc alt dec adc =
    rw (begins_not line (codes "enc ") enc, begins_not line (codes "alt ") alt, begins_not line (codes "dec ") dec, begins_not line (codes "adc ") adc) refl

-- if `number_of` gave nothing, the text is not a number
pub not_a_number : (test : Bool) (n : ℕ) (P Q : Type 0) → (if test then Some n else None) ≡ None
    → Q → MatchBool test P Q
not_a_number true n P Q e q = absurd (none-some n (sym e))
not_a_number false n P Q e q = q
