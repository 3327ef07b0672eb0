use Rattle.std.proofs.Common.{sym, ◌∙◌, arith}
use Rattle.std.proofs.lemmas.Fmt.{IsAscii-from_digits}
use Rattle.std.proofs.lemmas.Str.{IsUtf8-from_ascii}
use Rattle.std.proofs.lemmas.Str.Parse.{parse_plain}
use Rattle.base62_cli.proofs.NumberLemmas.{numerals, number_parts, plus_no_number, no_plus, the_number, no_number, parsed_number}
use Rattle.base62_cli.proofs.reply.number_of.Goals as goal

pub returns-then-starts_with : goal.returns-then-starts_with
returns-then-starts_with c = no_number c.args.text.now (plus_no_number c.args.text.now (sym c.starts_with.ensures.value ∙ c.if-starts_with.true))

pub returns-in_default : goal.returns-in_default
returns-in_default c =
    let text = c.args.text.now in
    let numerals = numerals c.sums_over_places.ensures.none c.sums_over_places.ensures.front in
    no_number text (λ is. c.in_default.ensures.cases.0 (IsUtf8-from_ascii text (IsAscii-from_digits text (numerals.to text (number_parts text is).1))))

pub returns-in-Ok-parse : goal.returns-in-Ok-parse
returns-in-Ok-parse c =
    let text = c.args.text.now in
    let numerals = numerals c.sums_over_places.ensures.none c.sums_over_places.ensures.front in
    let plain = no_plus text (sym c.starts_with.ensures.value ∙ c.if-starts_with.false) in
    let parsed = parse_plain numerals 64 text c.parse.result (rw c.in-Ok.ensures.cases.0 at c.parse.ensures.value.0) plain in
    let read = rw c.in-Ok-parse.is at parsed in
    the_number text c.from.result read.0.0 read.0.1 (omega (arith, read.0.2)) (c.from.ensures ∙ read.1)

pub returns : goal.returns
returns c =
    let text = c.args.text.now in
    let numerals = numerals c.sums_over_places.ensures.none c.sums_over_places.ensures.front in
    let plain = no_plus text (sym c.starts_with.ensures.value ∙ c.if-starts_with.false) in
    c.ok.ensures.value ∙ parsed_number text c.parse-2.result (parse_plain numerals 128 text c.parse-2.result (rw c.in-Ok.ensures.cases.0 at c.parse-2.ensures.value.0) plain)
