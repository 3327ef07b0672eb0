use Rattle.std.proofs.Common.{refl, codes}
use Rattle.std.proofs.lemmas.Bool.Decides.{Decides-eqb}
use Rattle.std.proofs.lemmas.Result.{on_ok_weaker}
use Rattle.std.proofs.lemmas.Slice.Eq.{strip_prefix_is}
use Rattle.base62.specs.Alphabet.{standard, alternative}
use Rattle.base62_cli.specs.Reply.{decode_reply}
use Rattle.base62_cli.proofs.ReplyLemmas.{reply_to_enc, reply_to_alt, reply_to_dec, reply_to_adc, reply_to_other}
use Rattle.base62_cli.proofs.reply.push_reply.Goals as goal

pub returns-in-Some : goal.returns-in-Some
returns-in-Some c =
    let line = c.args.line.now in
    let text = c.in-Some.text.now in
    let cut = rw c.in-Some.is at (strip_prefix_is Decides-eqb line (codes "enc ") _ c.strip_prefix.ensures.cases) in
    on_ok_weaker c.push_encoded.result (λ h. (h.0, rw cut (reply_to_enc text h.0 h.1), h.2)) c.push_encoded.ensures

pub returns-in-Some-strip_prefix : goal.returns-in-Some-strip_prefix
returns-in-Some-strip_prefix c =
    let line = c.args.line.now in
    let text = c.in-Some-strip_prefix.text.now in
    let cut = rw c.in-Some-strip_prefix.is at (strip_prefix_is Decides-eqb line (codes "alt ") _ c.strip_prefix-in_default.ensures.cases) in
    on_ok_weaker c.push_encoded-in-Some-strip_prefix.result (λ h. (h.0, rw cut (reply_to_alt text h.0 h.1), h.2)) c.push_encoded-in-Some-strip_prefix.ensures

pub returns-in-Some-strip_prefix-2 : goal.returns-in-Some-strip_prefix-2
returns-in-Some-strip_prefix-2 c =
    let line = c.args.line.now in
    let text = c.in-Some-strip_prefix-2.text.now in
    let cut = rw c.in-Some-strip_prefix-2.is at (strip_prefix_is Decides-eqb line (codes "dec ") _ c.strip_prefix-in_default-strip_prefix.ensures.cases) in
    on_ok_weaker c.push_decoded.result (λ h. (decode_reply standard text, rw cut (reply_to_dec text _ refl), h)) c.push_decoded.ensures

pub returns-in-Some-strip_prefix-3 : goal.returns-in-Some-strip_prefix-3
returns-in-Some-strip_prefix-3 c =
    let line = c.args.line.now in
    let text = c.in-Some-strip_prefix-3.text.now in
    let cut = rw c.in-Some-strip_prefix-3.is at (strip_prefix_is Decides-eqb line (codes "adc ") _ c.strip_prefix-in_default-strip_prefix-2.ensures.cases) in
    on_ok_weaker c.push_decoded-in-Some-strip_prefix-3.result (λ h. (decode_reply alternative text, rw cut (reply_to_adc text _ refl), h)) c.push_decoded-in-Some-strip_prefix-3.ensures

pub returns-in_default-strip_prefix-3 : goal.returns-in_default-strip_prefix-3
returns-in_default-strip_prefix-3 c =
    let line = c.args.line.now in
    let not_enc = rw c.in_default.is at (strip_prefix_is Decides-eqb line (codes "enc ") _ c.strip_prefix.ensures.cases) in
    let not_alt = rw c.in_default-strip_prefix.is at (strip_prefix_is Decides-eqb line (codes "alt ") _ c.strip_prefix-in_default.ensures.cases) in
    let not_dec = rw c.in_default-strip_prefix-2.is at (strip_prefix_is Decides-eqb line (codes "dec ") _ c.strip_prefix-in_default-strip_prefix.ensures.cases) in
    let not_adc = rw c.in_default-strip_prefix-3.is at (strip_prefix_is Decides-eqb line (codes "adc ") _ c.strip_prefix-in_default-strip_prefix-2.ensures.cases) in
    on_ok_weaker c.append.result (λ h. (codes "fault: unknown command", reply_to_other line not_enc not_alt not_dec not_adc, h)) c.append.ensures
