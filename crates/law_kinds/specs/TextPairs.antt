-- What a table of kinds says is so of every accepted text: two statements of one over one relation are a pair that the rules speak of.
use mathlib.Core.List.{List, Memᴰ}
use Rattle.std.specs.Prelude.{◌≡◌, ℕ}
use Rattle.spec_text.specs.declared.Line.{Line}
use Rattle.spec_text.specs.declared.LineKind.TheVariants.{St}
use Rattle.spec_text.specs.declared.StatementKind.{StatementKind}
use Rattle.spec_text.specs.Reading.{relation_set, read}
use Rattle.spec_text.specs.Reading.Outcome.{accepted}
use Rattle.spec_graph.specs.Program.{statement_of}
use Rattle.spec_graph.specs.Edge.{Letter, holds}
use Rattle.spec_kinds.specs.declared.Chance.{Chance}
use Rattle.spec_kinds.specs.declared.Chance.TheVariants.{Impossible, Certain, Hanging}
use Rattle.spec_kinds.specs.Meaning.{Pair, holds_in, sets_meet, meets_in, Means}
use Rattle.law_text.specs.ReadingLaws.{relation_set_lem, statement_relation, statement_allowed}
use Rattle.law_kinds.specs.Chances.{told}

-- what a chance says of a letter tells whether it holds
pub means_told : (letter : Letter) {k l : StatementKind} (c : Chance) → Means letter k l c → (x : Pair k l)
    → holds_in letter x ≡ told c (meets_in letter x)
means_told letter Impossible m x = m x
means_told letter Certain m x = m x
means_told letter Hanging m x = m.0 x

module _ (text : List ℕ) {lines : List Line} (is_read : read text ≡ accepted lines) (k l : StatementKind) {p q : Line}
    (in_p : Memᴰ p lines) (isP : p.kind ≡ St k) (in_q : Memᴰ q lines) (is_q : q.kind ≡ St l) (one : p.rel ≡ q.rel) where
  pub text_pair : Pair k l
  text_pair =
      let there = relation_set_lem text is_read p.rel (statement_relation text is_read in_p k isP) in
      record {
        full = relation_set lines p.rel;
        attributes = there.0;
        word = there.1;
        left = p;
        right = q;
        allowed_left = statement_allowed text is_read in_p k isP;
        allowed_right = rw one (statement_allowed text is_read in_q l is_q);
      }

  -- T9, EA to EE: between them a letter holds as its entry says
  pub text_told : (letter : Letter) (c : Chance) → Means letter k l c
      → holds letter (statement_of k p) (statement_of l q) ≡ told c (sets_meet letter (statement_of k p) (statement_of l q))
  unfolding text_pair
  text_told letter c m = means_told letter c m text_pair
