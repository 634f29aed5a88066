-- A line's word is its id, which has 16 bits, or its number; what is seen has 32 bits, so the sum fits.
use mathlib.Core.Path.{ap, ◌∙◌}
use Prim.Native.Nat.{ℕ}
use borrow.Author.Rules.{rules}
use Rattle.unfold_laws.specs.WordCode.{packed}
use Rattle.value_tables.specs.TableLaws.{codes_many}
use Rattle.unfold.proofs.WordsLaws.{id_word, line_word}
use Rattle.unfold.proofs.place_word.Goals as goal

pub returns-then-source : goal.returns-then-source
returns-then-source c =
    ap (λ (x : ℕ). packed x c.args.seen) (c.id_at.ensures ∙ id_word _ _ _ c.if-source.true)

pub overflow_add-result-2 : goal.overflow_add-result-2
overflow_add-result-2 c = search (rules, codes_many c.args.source.now.lines.now, c.requires)

pub returns : goal.returns
returns c =
    ap (λ (x : ℕ). packed x c.args.seen) (line_word _ _ _ c.if-source.false c.requires)
