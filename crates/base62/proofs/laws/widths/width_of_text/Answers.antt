use Rattle.base62.proofs.ResultLemmas.{decoding_accepts}
use Rattle.base62.proofs.ValueLemmas.{value-lt_most}
use Rattle.base62.proofs.WidthLemmas.{fixed_decodes, filled_up}
use Rattle.base62.proofs.laws.widths.width_of_text.Goals as goal

pub returns-clause-small : goal.returns-clause-small
returns-clause-small c = λ n is short.
    let ok = c.letters_are_distinct.ensures in
    rw (decoding_accepts c.args.alphabet.now ok c.args.text.now n is).0.value_is at (value-lt_most c.args.alphabet.now ok c.args.text.now c.args.width short)

pub returns-clause-fixed : goal.returns-clause-fixed
returns-clause-fixed c = λ n is size. record { size = size; denotes = (decoding_accepts c.args.alphabet.now c.letters_are_distinct.ensures c.args.text.now n is).0 }

pub returns-clause-number : goal.returns-clause-number
returns-clause-number c = λ n small is. fixed_decodes c.args.alphabet.now c.letters_are_distinct.ensures c.args.width n small c.args.text.now is

pub returns-clause-filled_up : goal.returns-clause-filled_up
returns-clause-filled_up c = λ n denotes short. filled_up c.args.alphabet.now c.letters_are_distinct.ensures c.args.width n c.args.text.now denotes short
