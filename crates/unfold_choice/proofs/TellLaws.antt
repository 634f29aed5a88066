-- The paths through `put`, `tell_run` and `tell_block`.
use mathlib.Core.List.{List, [], ◌∷◌, ◌++◌}
use mathlib.Core.Path.{◌≡◌, refl, sym, ap, ◌∙◌}
use Prim.Native.Nat.{ℕ, zero, suc, ◌+◌, ◌-◌, ◌/◌, ◌%◌, ◌≤◌, ◌<◌}
use native.Mathlib.Numerals.{sub-one}
use native.Mathlib.Omega.{arith}
use lib.ListN.{length, get_or, set}
use borrow.Author.Tests.{lt-ltb, le-ltb, eq-eqb, ne_eqb, le-leb, lt-leb}
use Rattle.unfold_laws.specs.declared.Counted.{Counted}
use Rattle.unfold_laws.specs.Codes.{after, item_at, count_at}
use Rattle.unfold_count.specs.Counted.{PlaceCounted, RunCounted, place_at}
use Rattle.unfold_choice.specs.declared.ChoiceTable.{ChoiceTable}
use Rattle.unfold_choice.specs.ChoiceWord.{choice_word}
use Rattle.unfold_choice.specs.ChoiceTable.{put_word, put_all}
use Rattle.unfold_choice.specs.ChoiceTableLaws.{put_append}
use Rattle.unfold_choice.specs.Telling.{tell_loop, tell_branch, tell_block, tell_at}
use Rattle.unfold_choice.specs.LinesTold.{tell_past, tell_stop, tell_statement, tell_block_lem, tell_loop_lem, tell_branch_lem}

pub put_full : (t : ChoiceTable) (word : ℕ) → 64 ≤ t.count → t ≡ put_word t word
unfolding put_word
put_full t word h = sym (simp (le-ltb t.count 64 h))

pub put_room : (t : ChoiceTable) (word : ℕ) → t.count < 64 → record { count = t.count + 1; words = set t.words t.count word } ≡ put_word t word
unfolding put_word
put_room t word h = sym (simp (lt-ltb t.count 64 h))

module _ (codes : List ℕ) (at k : ℕ) (t : ChoiceTable) where
  -- nothing is put
  puts_none : (words : List ℕ) → words ≡ [] → t ≡ put_all t words
  unfolding put_all
  puts_none words e = rw e refl

  pub run_none : (left : ℕ) → left ≡ 0 → t ≡ put_all t (tell_at left codes at k)
  unfolding tell_at
  run_none zero z = puts_none (tell_at 0 codes at k) refl
  run_none (suc left) z = let y : suc left ≡ 0 = z in absurd (omega arith)

  pub run_past : (left : ℕ) → length codes ≤ at → t ≡ put_all t (tell_at left codes at k)
  run_past left h = puts_none _ (tell_past codes at k left h)

  pub run_stop : (left : ℕ) → at < length codes → 2 < get_or codes at 0 → t ≡ put_all t (tell_at left codes at k)
  run_stop left h c = puts_none _ (tell_stop codes at k left h c)

  pub run_statement : (left : ℕ) (r : ChoiceTable) → (left ≡ 0 → ⊥) → at < length codes → get_or codes at 0 ≡ 0
      → r ≡ put_all t (tell_at (left - 1) codes (at + 1) k) → r ≡ put_all t (tell_at left codes at k)
  run_statement zero r z h c e = absurd (z refl)
  run_statement (suc left) r z h c e = (rw sub-one at e) ∙ ap (put_all t) (sym (tell_statement codes at k left h c))

  pub run_block : (left : ℕ) (x more : Counted) (mid r : ChoiceTable) → (left ≡ 0 → ⊥) → at < length codes → get_or codes at 0 ≤ 2
      → (get_or codes at 0 ≡ 0 → ⊥) → PlaceCounted (left - 1) codes at x → RunCounted (left - 1) codes x.end more
      → mid ≡ put_all t (tell_block (tell_at (left - 1) codes) (count_at (left - 1) codes) codes at (k / more.count))
      → r ≡ put_all mid (tell_at (left - 1) codes x.end (k % more.count)) → r ≡ put_all t (tell_at left codes at k)
  unfolding place_at
  run_block zero x more mid r z h c b p q first second = absurd (z refl)
  run_block (suc left) x more mid r z h c b p q first second =
      (rw sub-one at second) ∙ rw (rw sub-one at first) (sym (put_append t _ _)
      ∙ ap (put_all t) (sym (tell_block_lem codes at k left h c b ∙ rw (item, onward))))
    where
      item : item_at (count_at left codes) codes at ≡ x
      item = sym (rw (sub-one, lt-leb (length codes) at h) at p.counting.same)

      onward : count_at left codes x.end ≡ more
      onward = rw sub-one at (sym q.counting.same)

  module _ (left : ℕ) (body : Counted) (b : RunCounted left codes (at + 1) body) where
    abbrev Put : ChoiceTable → Type 0
    Put r = r ≡ put_all t (tell_block (tell_at left codes) (count_at left codes) codes at k)

    -- what the block tells is put
    puts_as : (r : ChoiceTable) (words : List ℕ) → r ≡ put_all t words
        → tell_block (tell_at left codes) (count_at left codes) codes at k ≡ words → Put r
    puts_as r words e same = e ∙ ap (put_all t) (sym same)

    pub loop_none : (r : ChoiceTable) → get_or codes at 0 ≡ 1 → k ≡ 0 → r ≡ put_word t (choice_word at 0) → Put r
    unfolding put_all tell_loop
    loop_none r c z e =
        puts_as r (choice_word at 0 ∷ []) e
        (tell_loop_lem codes at k (tell_at left codes) (count_at left codes) c ∙ simp (eq-eqb k 0 z))

    pub loop_one : (r one : ChoiceTable) → get_or codes at 0 ≡ 1 → (k ≡ 0 → ⊥) → k ≤ body.count → one ≡ put_word t (choice_word at 1)
        → r ≡ put_all one (tell_at left codes (at + 1) (k - 1)) → Put r
    unfolding put_all tell_loop
    loop_one r one c z h p e =
        puts_as r (choice_word at 1 ∷ tell_at left codes (at + 1) (k - 1)) (rw p at e)
        (tell_loop_lem codes at k (tell_at left codes) (count_at left codes) c
        ∙ rw (← b.counting.same) (simp (ne_eqb k 0 z, le-leb k body.count h)))

    pub loop_two : (r two turn : ChoiceTable) → get_or codes at 0 ≡ 1 → (k ≡ 0 → ⊥) → body.count < k → two ≡ put_word t (choice_word at 2)
        → turn ≡ put_all two (tell_at left codes (at + 1) ((k - 1 - body.count) / body.count))
        → r ≡ put_all turn (tell_at left codes (at + 1) ((k - 1 - body.count) % body.count)) → Put r
    unfolding put_all tell_loop
    loop_two r two turn c z h p first second =
        let a = tell_at left codes (at + 1) ((k - 1 - body.count) / body.count) in
        let d = tell_at left codes (at + 1) ((k - 1 - body.count) % body.count) in
        puts_as r (choice_word at 2 ∷ (a ++ d)) ((rw (first, p) at second) ∙ sym (put_append (put_word t (choice_word at 2)) a d))
        (tell_loop_lem codes at k (tell_at left codes) (count_at left codes) c
        ∙ rw (← b.counting.same) (simp (ne_eqb k 0 z, lt-leb k body.count h)))

    pub branch_one : (r one : ChoiceTable) → (get_or codes at 0 ≡ 1 → ⊥) → k < body.count → one ≡ put_word t (choice_word at 1)
        → r ≡ put_all one (tell_at left codes (at + 1) k) → Put r
    unfolding put_all tell_branch
    branch_one r one c h p e =
        puts_as r (choice_word at 1 ∷ tell_at left codes (at + 1) k) (rw p at e)
        (tell_branch_lem codes at k (tell_at left codes) (count_at left codes) c ∙ rw (← b.counting.same) (simp (lt-ltb k body.count h)))

    pub branch_two : (r two : ChoiceTable) (other : ℕ) → other ≡ after (length codes) body.end → (get_or codes at 0 ≡ 1 → ⊥)
        → body.count ≤ k → two ≡ put_word t (choice_word at 2) → r ≡ put_all two (tell_at left codes other (k - body.count)) → Put r
    unfolding put_all tell_branch
    branch_two r two other o c h p e =
        puts_as r (choice_word at 2 ∷ tell_at left codes other (k - body.count)) (rw p at e)
        (tell_branch_lem codes at k (tell_at left codes) (count_at left codes) c ∙ rw (← b.counting.same, o) (simp (le-ltb k body.count h)))
