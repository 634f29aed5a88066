-- The class that `sets_of` names says which sets T9 allows a kind: these and no others (SetMeaning of specs/). What rests on that each kind allows
-- what its classes allow stands here, so that a changed class is refused by name.
use Rattle.std.specs.Prelude.{Bool, ◌≡◌, ℕ, ◌<◌, ◌^◌, eqb}
use Rattle.std.proofs.Math.Bool.{true, cond, not}
use Rattle.std.proofs.Math.Path.{refl, ap}
use Rattle.std.proofs.Common.{sym, ◌∙◌, arith, eq-eqb, ne_eqb}
use Rattle.spec_text.specs.declared.Line.{Line}
use Rattle.spec_text.specs.declared.LineKind.TheVariants.{St}
use Rattle.spec_text.specs.declared.StatementKind.{StatementKind}
use Rattle.spec_text.specs.declared.StatementKind.TheVariants.{Is, Ks, Ps, Ku, Pu, Kd, Pd, Kl}
use Rattle.spec_text.specs.Reading.{kind_sets, sets_allowed}
use Rattle.spec_graph.specs.Program.{Statement, statement_of}
use Rattle.spec_graph.specs.Edge.{R, W, T, has_reads, has_writes, has_tests}
use Rattle.law_base.specs.BoolLaws.{and_of}
use Rattle.law_kinds.specs.declared.SetClass.{SetClass}
use Rattle.law_kinds.specs.declared.SetClass.TheVariants.{Lacking, Any, Filled, Whole}
use Rattle.law_kinds.specs.EveryKind.{kinds_agree}
use Rattle.law_kinds.specs.KindSets.{sets_of, is_there, Fits, allowed_over, fits_within}
use Rattle.law_kinds.specs.SetMeaning.{SetMeans, Chosen, line_of_sets, some_set, some_fits, there_set}

module _ (i : ℕ) {k : StatementKind} {full r w t : ℕ} (f : Chosen k full r w t) where
  kind_allows : kind_sets full k (line_of_sets i k r w t) ≡ true
  unfolding kind_sets
  kind_allows = go k f.reads f.writes
    where
      not_empty : (x : ℕ) → (x ≡ 0 → ⊥) → not (eqb x 0) ≡ true
      not_empty x h = ap not (ne_eqb x 0 h)

      go : (j : StatementKind) → Fits (sets_of j).reads full r → Fits (sets_of j).writes full w → kind_sets full j (line_of_sets i j r w t) ≡ true
      go Is a b = eq-eqb w full b
      go Ks a b = not_empty r a.1
      go Ps a b = refl
      go Ku a b = not_empty w b.1
      go Pu a b = not_empty w b.1
      go Kd a b = eq-eqb w full b
      go Pd a b = eq-eqb w full b
      go Kl a b = not_empty r a.1

  pub sets_allowed_lem : sets_allowed full k (line_of_sets i k r w t) ≡ true
  sets_allowed_lem =
      let reads = fits_within (sets_of k).reads full r f.reads in
      let writes = fits_within (sets_of k).writes full w f.writes in
      let tests = fits_within (sets_of k).tests full t f.tests in
      and_of (and_of (and_of reads writes) tests) kind_allows

  pub reads_are : R (statement_of k (line_of_sets i k r w t)) ≡ r
  unfolding R statement_of
  reads_are =
      ap (λ (b : Bool). cond b r 0) (kinds_agree has_reads (λ k. is_there (sets_of k).reads) refl k)
      ∙ there_set (sets_of k).reads full r f.reads

  pub writes_are : W (statement_of k (line_of_sets i k r w t)) ≡ w
  unfolding W statement_of
  writes_are =
      ap (λ (b : Bool). cond b w 0) (kinds_agree has_writes (λ k. is_there (sets_of k).writes) refl k)
      ∙ there_set (sets_of k).writes full w f.writes

  pub tests_are : T (statement_of k (line_of_sets i k r w t)) ≡ t
  unfolding T statement_of
  tests_are =
      ap (λ (b : Bool). cond b t 0) (kinds_agree has_tests (λ k. is_there (sets_of k).tests) refl k)
      ∙ there_set (sets_of k).tests full t f.tests

-- T5, T9, Req 03: what each kind's reads, writes and tests may be; a line is made with the set that fits and some of the other two
pub reads_mean : (k : StatementKind) → SetMeans R k (sets_of k).reads
unfolding statement_of
reads_mean k = record {
  fits = λ l some word h. (allowed_over k l some word h).reads;
  allowed = λ {full} x some word h.
      let f : Chosen k full x _ _ =
      record { reads = h; writes = some_fits (sets_of k).writes full some; tests = some_fits (sets_of k).tests full some } in
      (_, sets_allowed_lem 0 f, reads_are 0 f);
}

pub writes_mean : (k : StatementKind) → SetMeans W k (sets_of k).writes
unfolding statement_of
writes_mean k = record {
  fits = λ l some word h. (allowed_over k l some word h).writes;
  allowed = λ {full} x some word h.
      let f : Chosen k full _ x _ =
      record { reads = some_fits (sets_of k).reads full some; writes = h; tests = some_fits (sets_of k).tests full some } in
      (_, sets_allowed_lem 0 f, writes_are 0 f);
}

pub tests_mean : (k : StatementKind) → SetMeans T k (sets_of k).tests
unfolding statement_of
tests_mean k = record {
  fits = λ l some word h. (allowed_over k l some word h).tests;
  allowed = λ {full} x some word h.
      let f : Chosen k full _ _ x =
      record { reads = some_fits (sets_of k).reads full some; writes = some_fits (sets_of k).writes full some; tests = h } in
      (_, sets_allowed_lem 0 f, tests_are 0 f);
}
