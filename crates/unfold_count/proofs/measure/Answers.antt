-- Where the words are not one to each line, or the lines too many, they stay and all is counted; else all are filled.
use mathlib.Core.Path.{refl, sym, ◌∙◌}
use native.Mathlib.Omega.{arith}
use Rattle.unfold_count.proofs.measure.Goals as goal

pub returns-then-counts-n : goal.returns-then-counts-n
returns-then-counts-n c =
    record {
      totals = c.count_all.ensures;
      words = λ e s. absurd (c.if-counts-n.true (e ∙ sym c.lines_in-n.ensures));
      kept = λ h. refl;
    }

pub returns-then-n : goal.returns-then-n
returns-then-n c =
    record {
      totals = c.count_all-then-n.ensures;
      words = λ e s. absurd (omega (arith, s, c.if-n.true, c.lines_in-n.ensures));
      kept = λ h. refl;
    }

pub fill-requires : goal.fill-requires
fill-requires c =
    (c.if-counts-n.false ∙ c.lines_in-n.ensures, omega (arith, c.if-n.false, c.if-counts-n.false))

pub returns : goal.returns
returns c =
    record {
      totals = c.fill.ensures.totals;
      words = λ e s. c.fill.ensures.words;
      kept = λ h. absurd (h (c.if-counts-n.false ∙ c.lines_in-n.ensures) (omega (arith, c.if-n.false, c.lines_in-n.ensures)));
    }
