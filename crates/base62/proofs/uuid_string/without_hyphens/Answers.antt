use Rattle.std.proofs.Common.{◌≡◌, length, replicate, arith, ap, sym, ◌∙◌}
use Rattle.std.specs.Cmp.Lexicographic.{bytes_decides}
use Rattle.std.proofs.lemmas.Bool.{false≢true, not-false, not-true}
use Rattle.std.proofs.lemmas.List.{length-map}
use Rattle.base62.proofs.UuidStringLemmas.{copied_together_is, length-hyphenated, hyphens_at, hyphens}
use Rattle.base62.proofs.uuid_string.without_hyphens.Goals as goal

pub returns-then-text-ne36-clause-none : goal.returns-then-text-ne36-clause-none
returns-then-text-ne36-clause-none c = λ digits _ size e.
    omega (arith, simp length-map at (ap length e), length-hyphenated digits size)

pub returns-then-ne-clause-none : goal.returns-then-ne-clause-none
returns-then-ne-clause-none c = λ digits _ size e.
    let text = c.args.text.now in
    false≢true (sym (not-true _ (sym c.ne.ensures ∙ c.if-ne.true)) ∙ (bytes_decides (hyphens text) (replicate 4 45)).1 (hyphens_at text digits size e))

pub returns-clause-found : goal.returns-clause-found
returns-clause-found c = λ digits is.
    let text = c.args.text.now in
    let same : c.copy_at-5.new.to ≡ digits = cc in
    let test = (bytes_decides (hyphens text) (replicate 4 45)).0 (not-false _ (sym c.ne.ensures ∙ c.if-ne.false)) in
    rw (← same, c.copy_at-5.ensures, c.copy_at-4.ensures, c.copy_at-3.ensures, c.copy_at-2.ensures, c.copy_at.ensures) (copied_together_is text c.if-text-ne36.false test)
