-- A shorter text with leading zeros is the key.
use Rattle.std.proofs.Common.{◌≡◌, Some, ◌∙◌, sym, subst, arith}
use Rattle.std.specs.String.{string_bytes}
use Rattle.std.specs.declared.fmt.Alignment.TheVariants.{Right}
use Rattle.std.proofs.lemmas.Result.{IfOk-weaker}
use Rattle.base62.specs.Alphabet.{standard}
use Rattle.base62.specs.Key.{IsKey}
use Rattle.base62.specs.Padding.{displayed, padded_to}
use Rattle.base62_uses.proofs.strings.key_column.Goals as goal

pub returns : goal.returns
unfolding displayed standard
returns c =
    let n = c.args.number in
    let text = c.encode_fmt.result in
    let is = c.encode_fmt.ensures in
    let ok = c.built_in_alphabets.ensures.standard in
    let laws = c.texts_of_ascii.ensures in
    let padded = laws.right 22 48 text (laws.letters standard text laws.standard is.denotes.letters) (omega arith) in
    let short = (c.one_text.ensures.lengths standard ok n c.ranges.number.fits text is).1 in
    let key = c.fixed_widths.ensures.filled_up standard ok 22 n text is.denotes short in
    IfOk-weaker c.format.result (λ column. string_bytes column ≡ padded_to (Some 22) 48 Right text) _
    (λ column shown. subst (λ string. IsKey standard string n) (sym (shown ∙ padded)) key) (rw c.laid_out.ensures at c.format.ensures.ok)
