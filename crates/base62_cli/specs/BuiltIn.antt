-- The built-in alphabet of a command.
use Rattle.std.specs.Prelude.{ℕ, List}
use Rattle.base62.specs.Alphabet.{standard, alternative}
use Rattle.base62_cli.specs.declared.reply.BuiltIn.{BuiltIn}
use Rattle.base62_cli.specs.declared.reply.BuiltIn.TheVariants.{Standard, Alternative}

-- its letters, each at the place of its digit
abbrev pub alphabet_of : BuiltIn → List ℕ
alphabet_of Standard = standard
alphabet_of Alternative = alternative
