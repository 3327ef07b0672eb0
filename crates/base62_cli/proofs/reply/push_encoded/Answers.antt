use Rattle.std.proofs.Common.{◌∙◌, refl, sym, codes}
use Rattle.std.proofs.lemmas.Result.{on_ok_weaker}
use Rattle.base62_cli.proofs.ReplyLemmas.{not_a_number}
use Rattle.base62_cli.proofs.reply.push_encoded.Goals as goal

pub returns-in_default : goal.returns-in_default
returns-in_default c =
    on_ok_weaker c.append.result (λ h. (codes "fault: not a number", not_a_number _ _ _ _ (sym c.number_of.ensures ∙ c.in_default.is) refl, h)) c.append.ensures
