use Rattle.base62.proofs.laws.texts.text_of_number.Goals as goal

pub returns : goal.returns
returns c = λ decoded plain other canonical.
    let B = c.args.alphabet.now in
    let own = (c.accepted_and_refused.ensures B c.letters_are_distinct.ensures c.args.text.now).canonical c.args.number decoded in
    c.one_text.ensures.only B c.letters_are_distinct.ensures c.args.number other _ canonical (rw plain at own)
