-- The words from one place to the other are filled with 0, as far as there are words (cleared_fill).
use Rattle.std.proofs.Common.{◌≤◌, ◌∙◌, ap, ℕ, length, replicate, arith}
use Rattle.std.proofs.Common.{rules}
use Rattle.std.proofs.lemmas.List.{places}
use Rattle.word_list.specs.Clear.{cleared_fill}
use Rattle.word_list.proofs.clear.Goals as goal

pub returns-then-from-end : goal.returns-then-from-end
returns-then-from-end c =
    let args = c.args in
    let long : c.min-end.result ≤ length args.words.now = omega (arith, c.min-end.ensures) in
    cleared_fill args.from args.to c.min-end.result args.words.now c.fill.new.self c.min-end.ensures c.if-from-end.true
    (c.fill.ensures.after (λ y e. e) ∙ ap (λ (n : ℕ). replicate n 0) (search (rules, places)))
