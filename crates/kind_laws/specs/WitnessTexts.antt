-- Every pair that an entry speaks of is that of a text: some accepted text has two statements of these kinds on one relation with these sets. So
-- with `text_pair` (law_kinds/TextPairs) pairs are neither fewer nor more than what texts have.
use Rattle.std.specs.Prelude.{true, cond, ◌≡◌, ℕ, ◌<◌, ◌^◌, ltb}
use Rattle.std.proofs.Math.Bool.{not}
use mathlib.Core.List.{List, [], ◌∷◌, Memᴰ}
use Rattle.std.proofs.Math.Option.{none}
use Rattle.std.proofs.Math.Path.{refl}
use Rattle.std.proofs.Common.{ap, arith, eq-eqb, ne_eqb, eqb-true, lt-ltb}
use Rattle.std.specs.Int.Bits.{bit_and}
use Rattle.std.proofs.lemmas.Nat.{and_le_r}
use Rattle.spec_base.specs.Basic.{within}
use Rattle.spec_text.specs.declared.Line.{Line}
use Rattle.spec_text.specs.declared.LineKind.TheVariants.{Rl, Pr, St}
use Rattle.spec_text.specs.declared.StatementKind.{StatementKind}
use Rattle.spec_text.specs.declared.StatementKind.TheVariants.{Is, Ks, Ps, Ku, Pu, Kd, Pd, Kl}
use Rattle.spec_text.specs.Text.{forms_of}
use Rattle.spec_text.specs.Text.Form.{number, set, nothing}
use Rattle.spec_text.specs.Reading.{sort, is_relation, is_key, is_program, is_statement_or_flow, is_link, is_statement_of, is_statement, program, relation}
use Rattle.spec_text.specs.Reading.{open_blocks, blocks_after_lines, blocks_after, none_open, in_body, relation_set, bounded, within_bounds, ordered, named}
use Rattle.spec_text.specs.Reading.{sets_allowed, sets_fit, link_fits, fault, read}
use Rattle.law_text.specs.ReadingLaws.{passes_faultless}
use Rattle.spec_text.specs.Reading.Outcome.{accepted}
use Rattle.spec_graph.specs.Program.{Statement, statement_of}
use Rattle.spec_graph.specs.Edge.{R, W, T, Letter, holds}
use Rattle.spec_graph.specs.Edge.Letter.{A, B, C, D, E}
use Rattle.spec_kinds.specs.Meaning.{Pair, holds_in}
use Rattle.law_base.specs.BoolLaws.{and_of}
use Rattle.law_base.specs.ListLaws.{get_elem?_member}
use Rattle.law_text.specs.Written.{written}
use Rattle.law_text.specs.WrittenLaws.{written_short}
use Rattle.law_text.specs.TextLaws.{fits, all_fit, line_fits}
use Rattle.law_kinds.specs.declared.SetClass.{SetClass}
use Rattle.law_kinds.specs.declared.SetClass.TheVariants.{Lacking, Any, Filled, Whole}
use Rattle.law_kinds.specs.KindSets.{sets_of, is_there, Fits, allowed_over, fits_within}
use Rattle.law_kinds.specs.SetMeaning.{Chosen, line_of_sets}
use Rattle.law_kinds.proofs.SetsMeant.{sets_allowed_lem, reads_are, writes_are, tests_are}
use Rattle.value_laws.specs.Givens.{SoundLines, sound_read}

-- ---- the line of a statement fits its forms

-- a set within a word's is of one word
within_word : (x full : ℕ) → within x full ≡ true → full < 2 ^ 64 → ltb x (2 ^ 64) ≡ true
within_word x full h word =
    let same = eqb-true (bit_and x full) x h in lt-ltb x (2 ^ 64) (omega (arith, and_le_r x full))

-- a set of a class is written as a set, or as nothing
class_fits : (c : SetClass) (full x : ℕ) → full < 2 ^ 64 → Fits c full x → fits (cond (is_there c) set nothing) x ≡ true
unfolding fits
class_fits Lacking full x word h = eq-eqb x 0 h
class_fits Any full x word h = within_word x full h word
class_fits Filled full x word h = within_word x full h.0 word
class_fits Whole full x word h = within_word x full (fits_within Whole full x h) word

-- T5: the forms of a statement's fields, by which sets its kind has
forms_by_lem : (k : StatementKind)
    → forms_of (St k)
    ≡ number ∷ number ∷ nothing ∷ cond (is_there (sets_of k).reads) set nothing
    ∷ cond (is_there (sets_of k).writes) set nothing ∷ cond (is_there (sets_of k).tests) set nothing ∷ []
unfolding forms_of
forms_by_lem Is = refl
forms_by_lem Ks = refl
forms_by_lem Ps = refl
forms_by_lem Ku = refl
forms_by_lem Pu = refl
forms_by_lem Kd = refl
forms_by_lem Pd = refl
forms_by_lem Kl = refl

line_fits_lem : (i : ℕ) (k : StatementKind) {full r w t : ℕ} → i < 256 → full < 2 ^ 64 → Chosen k full r w t → line_fits (line_of_sets i k r w t) ≡ true
unfolding line_fits all_fit fits
line_fits_lem i k {full} {r} {w} {t} small word f =
    rw (forms_by_lem k)
    (and_of (lt-ltb i 256 small)
    (and_of refl
    (and_of refl
    (and_of (class_fits (sets_of k).reads full r word f.reads)
    (and_of (class_fits (sets_of k).writes full w word f.writes)
    (and_of (class_fits (sets_of k).tests full t word f.tests) refl))))))

-- ---- a text of a relation and one program with the two statements

-- a line that passes the five tests has no fault
fault_free : (before : List Line) (l : Line) → within_bounds before l ≡ true → ordered before l ≡ true → named before l ≡ true
    → sets_fit before l ≡ true → link_fits before l ≡ true → fault before l ≡ none
fault_free before l a b c d e = passes_faultless before l (record { bounds = a; order = b; names = c; sets = d; link = e })

-- the same three sets
pub record SameSets (s t : Statement) : Type 0 where
  pub reads : R s ≡ R t
  pub writes : W s ≡ W t
  pub tests : T s ≡ T t

-- some accepted text has this pair: two statements of these kinds on one relation, with the same attributes and the same sets
pub record TextOf {k l : StatementKind} (x : Pair k l) : Type 0 where
  pub text : List ℕ
  pub lines : List Line
  pub is_read : read text ≡ accepted lines
  pub left : Line
  pub right : Line
  pub in_left : Memᴰ left lines
  pub in_right : Memᴰ right lines
  pub is_left : left.kind ≡ St k
  pub is_right : right.kind ≡ St l
  pub apart : left.id ≡ right.id → ⊥
  pub one : left.rel ≡ right.rel
  pub full : relation_set lines left.rel ≡ x.full
  pub left_sets : SameSets (statement_of k left) (statement_of k x.left)
  pub right_sets : SameSets (statement_of l right) (statement_of l x.right)

module _ {k l : StatementKind} (x : Pair k l) where
  chosen : (j : StatementKind) (line : Line) → sets_allowed x.full j line ≡ true
      → let s = statement_of j line in Chosen j x.full (R s) (W s) (T s)
  unfolding statement_of
  chosen j line h = let a = allowed_over j line x.attributes x.word h in record { reads = a.reads; writes = a.writes; tests = a.tests }

  abbrev in_text : ℕ → StatementKind → Line → Line
  in_text i j line = let s = statement_of j line in line_of_sets i j (R s) (W s) (T s)

  abbrev relation_line : Line
  relation_line = record { kind = Rl; id = 0; rel = 0; to = 0; reads = x.full; writes = 0; tests = 0 }

  abbrev program_line : Line
  program_line = record { kind = Pr; id = 0; rel = 0; to = 0; reads = 0; writes = 0; tests = 0 }

  abbrev p : Line
  p = in_text 0 k x.left

  abbrev q : Line
  q = in_text 1 l x.right

  relation_fits : line_fits relation_line ≡ true
  unfolding line_fits all_fit fits forms_of
  relation_fits = and_of refl (and_of refl (and_of refl (and_of (lt-ltb x.full (2 ^ 64) x.word) (and_of refl (and_of refl refl)))))

  closed : none_open (relation_line ∷ program_line ∷ p ∷ q ∷ []) ≡ true
  unfolding none_open program is_program sort open_blocks blocks_after_lines blocks_after
  closed = refl

  sound : SoundLines [] (relation_line ∷ program_line ∷ p ∷ q ∷ [])
  unfolding
      sort is_relation is_key is_program is_statement_or_flow is_link is_statement_of is_statement program relation relation_set bounded within_bounds in_body
      none_open open_blocks blocks_after_lines blocks_after ordered named sets_fit link_fits line_fits all_fit fits forms_of
  sound =
      let left = chosen k x.left x.allowed_left in
      let right = chosen l x.right x.allowed_right in
      let first = fault_free [] relation_line refl refl refl (ap not (ne_eqb x.full 0 x.attributes)) refl in
      let second = fault_free (relation_line ∷ []) program_line refl refl refl refl refl in
      let third = fault_free (relation_line ∷ program_line ∷ []) p refl refl refl (sets_allowed_lem 0 left) refl in
      let fourth = fault_free (relation_line ∷ program_line ∷ p ∷ []) q refl refl refl (sets_allowed_lem 1 right) refl in (
        relation_fits,
        first,
        (refl, second, (line_fits_lem 0 k (omega arith) x.word left, third, (line_fits_lem 1 l (omega arith) x.word right, fourth, tt))),
      )

  -- T1 to T9
  pub pair_text : TextOf x
  unfolding relation_set relation is_relation sort
  pair_text =
      let lines = relation_line ∷ program_line ∷ p ∷ q ∷ [] in
      let left = chosen k x.left x.allowed_left in
      let right = chosen l x.right x.allowed_right in
      record {
        text = written lines;
        lines = lines;
        is_read = sound_read lines sound closed (omega (arith, written_short lines));
        left = p;
        right = q;
        in_left = get_elem?_member lines 2 refl;
        in_right = get_elem?_member lines 3 refl;
        is_left = refl;
        is_right = refl;
        apart = λ e. omega arith;
        one = refl;
        full = refl;
        left_sets = record { reads = reads_are 0 left; writes = writes_are 0 left; tests = tests_are 0 left };
        right_sets = record { reads = reads_are 1 right; writes = writes_are 1 right; tests = tests_are 1 right };
      }

-- a letter holds between them as it does in the pair
pub text_letter : {k l : StatementKind} (x : Pair k l) (t : TextOf x) (letter : Letter)
    → holds letter (statement_of k t.left) (statement_of l t.right) ≡ holds_in letter x
unfolding holds statement_of
text_letter x t A = rw (t.left_sets.writes, t.right_sets.writes) refl
text_letter x t B = rw (t.left_sets.writes, t.right_sets.reads) refl
text_letter x t C = rw (t.left_sets.writes, t.right_sets.tests) refl
text_letter x t D = rw (t.left_sets.reads, t.right_sets.writes) refl
text_letter x t E = rw (t.left_sets.tests, t.right_sets.writes) refl
