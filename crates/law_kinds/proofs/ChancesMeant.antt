-- Each chance means what it says, and no other does (Req 04): it rests on the theorems of ChanceLaws of specs/.
use Rattle.std.specs.Prelude.{Bool, true, false, cond, not, ◌&&◌, ◌||◌, ◌≡◌, refl, ℕ}
use Rattle.std.proofs.Common.{sym, ◌∙◌, arith}
use Rattle.std.proofs.Math.Path.{ap}
use Rattle.spec_base.specs.Basic.{all, meets, within}
use Rattle.spec_text.specs.declared.Line.{Line}
use Rattle.spec_text.specs.declared.StatementKind.{StatementKind}
use Rattle.spec_text.specs.Reading.{kind_sets, sets_allowed}
use Rattle.spec_graph.specs.Program.{Statement, statement_of}
use Rattle.spec_graph.specs.Edge.{R, W, T, has_writes, has_tests, inserts, deletes, Letter, holds, shared}
use Rattle.spec_graph.specs.Edge.Letter.{A, B, C, D, E}
use Rattle.spec_kinds.specs.declared.Chance.{Chance}
use Rattle.spec_kinds.specs.declared.Chance.TheVariants.{Impossible, Certain, Hanging}
use Rattle.spec_kinds.specs.Meaning.{Pair, holds_in, sets_meet, meets_in, Means}
use Rattle.spec_kinds.specs.Table.{kinds}
use Rattle.law_base.specs.BoolLaws.{true_false, and_true, and_right, not_true, implied}
use Rattle.law_base.specs.SetLaws.{nonzero_has, within_has, has_meets, meets_comm, meets_self, meets_empty}
use Rattle.law_kinds.specs.declared.SetClass.{SetClass}
use Rattle.law_kinds.specs.declared.SetClass.TheVariants.{Lacking, Any, Filled, Whole}
use Rattle.law_kinds.specs.EveryKind.{every_kind, everywhere, every_entry}
use Rattle.law_kinds.specs.KindSets.{KindSets, sets_of, Fits, Allowed, allowed_over}
use Rattle.law_kinds.specs.SetMeaning.{line_of_sets}
use Rattle.law_kinds.specs.Chances.{meeting, chance_of, told}
use Rattle.law_kinds.specs.ChanceLaws.{sample, shares, least, pair_by, meeting_pair, apart_pair, chance_told}

abbrev is_hanging : Chance → Bool
is_hanging Impossible = false
is_hanging Certain = false
is_hanging Hanging = true

-- over all entries together: where a letter hangs on its sets it holds for sets that share attribute 0, and does not for the least sets
abbrev hangs : Letter → StatementKind → StatementKind → Bool
hangs letter k l =
    not (is_hanging (chance_of letter k l))
    || (holds letter (statement_of k (sample shares k)) (statement_of l (sample shares l))
    && not (holds letter (statement_of k (sample (least 1) k)) (statement_of l (sample (least 2) l))))

all_hang : everywhere hangs ≡ true
unfolding holds chance_of statement_of W R T
all_hang = refl

-- Req 04: each chance means what it says
pub chance_means : (letter : Letter) (k l : StatementKind) → Means letter k l (chance_of letter k l)
unfolding statement_of meeting_pair apart_pair pair_by
chance_means letter k l = go (chance_of letter k l) refl
  where
    so : (x : Pair k l) → holds_in letter x ≡ told (chance_of letter k l) (meets_in letter x)
    so x =
        let left = allowed_over k x.left x.attributes x.word x.allowed_left in
        let right = allowed_over l x.right x.attributes x.word x.allowed_right in
        chance_told (statement_of k x.left) (statement_of l x.right) left right letter

    go : (c : Chance) → chance_of letter k l ≡ c → Means letter k l c
    go Impossible e = λ x. so x ∙ ap (λ (c : Chance). told c (meets_in letter x)) e
    go Certain e = λ x. so x ∙ ap (λ (c : Chance). told c (meets_in letter x)) e
    go Hanging e =
        let both = and_true _ _ (implied _ _ (every_entry hangs all_hang letter k l) (ap is_hanging e)) in (
          λ x. so x ∙ ap (λ (c : Chance). told c (meets_in letter x)) e,
          (meeting_pair k l, refl, both.0),
          (apart_pair k l, refl, not_true _ both.1),
        )

-- and no other chance does: an entry that says something else is false
pub means_one : (letter : Letter) (k l : StatementKind) (c d : Chance) → Means letter k l c → Means letter k l d → c ≡ d
means_one letter k l Impossible Impossible f g = refl
means_one letter k l Certain Certain f g = refl
means_one letter k l Hanging Hanging f g = refl
means_one letter k l Impossible Certain f g = absurd (true_false (g (meeting_pair k l)) (f (meeting_pair k l)))
means_one letter k l Certain Impossible f g = absurd (true_false (f (meeting_pair k l)) (g (meeting_pair k l)))
means_one letter k l Impossible Hanging f g = absurd (true_false g.1.2 (f g.1.0))
means_one letter k l Hanging Impossible f g = absurd (true_false f.1.2 (g f.1.0))
means_one letter k l Certain Hanging f g = absurd (true_false (f g.2.0) g.2.2)
means_one letter k l Hanging Certain f g = absurd (true_false (g f.2.0) f.2.2)
