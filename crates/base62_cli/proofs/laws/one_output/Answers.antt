use Rattle.std.proofs.Common.{ℕ, List}
use Rattle.base62.specs.Alphabet.{standard, alternative}
use Rattle.base62_cli.specs.Lines.{lines_of}
use Rattle.base62_cli.specs.Output.{AreReplies}
use Rattle.base62_cli.proofs.ReplyLemmas.{ExactlyOne, one_replies}
use Rattle.base62_cli.proofs.laws.one_output.Goals as goal

-- each input has one output, by the law of one text
one : (c : goal.After-one_text) → (input : List ℕ) → ExactlyOne (AreReplies (lines_of input))
one c input =
    let texts = c.one_text.ensures in
    let alphabets = c.built_in_alphabets.ensures in
    one_replies
    (λ n small. record { exists = texts.exists standard alphabets.standard n small; only = texts.only standard alphabets.standard n })
    (λ n small. record { exists = texts.exists alternative alphabets.alternative n small; only = texts.only alternative alphabets.alternative n })
    (lines_of input)

pub returns-clause-exists : goal.returns-clause-exists
returns-clause-exists c = λ input. (one c input).exists

pub returns-clause-only : goal.returns-clause-only
returns-clause-only c = λ input. (one c input).only
