-- What is told over the numbers of lines is told of the run that is read off them: in a program of an accepted text every block is closed, so that
-- each run ends where its lines end.
use Rattle.std.specs.Prelude.{Bool, true, false, cond, ◌≡◌, eqb, leb, ltb}
use mathlib.Core.List.{List, [], ◌∷◌, ◌++◌, tail}
use Rattle.std.proofs.Math.Path.{refl, ap, subst}
use Rattle.std.proofs.Common.{sym, ap₂, ◌∙◌, mul_comm, le-mul_of_pos_right, mod-lt, mod-eq_of_lt, div-lt_iff_lt-mul, add-zero}
use Prim.Native.Nat.{ℕ, zero, suc, ◌+◌, ◌*◌, ◌-◌, ◌/◌, ◌%◌, ◌<◌, ◌≤◌}
use Rattle.std.proofs.Math.Nat.{one-mul}
use Rattle.std.proofs.Math.Numerals.{add-one}
use native.Mathlib.Omega.{arith}
use Rattle.std.proofs.Math.ListN.{length, get_or, drop, length-drop, drop_of_length-le}
use borrow.Author.Tests.{ltb-true, ltb-false, lt-ltb, le-ltb, le-leb, lt-leb, leb-true, leb-false, eq-eqb, ne_eqb, eqb-false}
use Rattle.spec_text.specs.declared.Line.{Line}
use Rattle.spec_text.specs.declared.LineKind.{LineKind}
use Rattle.spec_text.specs.declared.LineKind.TheVariants.{Rl, Fk, Pr, St, Lo, Br, El, En, Li}
use Rattle.spec_text.specs.declared.StatementKind.{StatementKind}
use Rattle.spec_text.specs.Reading as R
use Rattle.spec_graph.specs.Program.{Item, Run, Parsed, run_lines, item_lines, run_of, in_front_of, statement_of}
use Rattle.spec_graph.specs.Program.Item.{statement, loop, branch}
use Rattle.node_laws.specs.Bodies.{Body, Stops, Ended, run_stops, run_statement, run_loop, run_branch}
use Rattle.node_laws.specs.Bodies.{body_statement, body_loop, body_branch, body_closed, body_second}
use Rattle.unfold_laws.specs.declared.Counted.{Counted}
use Rattle.unfold_laws.specs.Cap.{cap_small}
use Rattle.unfold_laws.specs.Choosing.{count_run, count_item}
use Rattle.unfold_laws.specs.ChoosingLaws.{run_counts, item_counts}
use Rattle.unfold_laws.specs.Codes.{code_of, codes_of, after, nothing_at, statement_at, item_at, count_at, next_counted, loop_counted, branch_counted}
use Rattle.unfold_laws.specs.CodesLaws.{counts_run, count_past, count_stop, count_next, item_statement, item_loop, item_branch}
use Rattle.unfold_laws.specs.CodesLaws.{length_codes, tail_drop, first_line_lem}
use Rattle.unfold_choice.specs.ChoiceWord.{choice_word}
use Rattle.unfold_choice.specs.Telling.{tell_loop, tell_branch, tell_run, tell_item, tell_block, tell_at}

-- ---- the paths through the telling of a run

module _ (codes : List ℕ) (at k : ℕ) where
  pub tell_past : (n : ℕ) → length codes ≤ at → tell_at n codes at k ≡ []
  unfolding tell_at
  tell_past zero h = refl
  tell_past (suc n) h = simp (le-leb (length codes) at h)

  pub tell_stop : (n : ℕ) → at < length codes → 2 < get_or codes at 0 → tell_at n codes at k ≡ []
  unfolding tell_at
  tell_stop zero h c = refl
  tell_stop (suc n) h c = simp (lt-leb (length codes) at h, lt-ltb 2 (get_or codes at 0) c)

  pub tell_statement : (n : ℕ) → at < length codes → get_or codes at 0 ≡ 0 → tell_at (suc n) codes at k ≡ tell_at n codes (at + 1) k
  unfolding tell_at
  tell_statement n h c =
      simp (lt-leb (length codes) at h, le-ltb 2 (get_or codes at 0) (omega arith), eq-eqb (get_or codes at 0) 0 c)

  pub tell_block_lem : (n : ℕ) → at < length codes → get_or codes at 0 ≤ 2 → (get_or codes at 0 ≡ 0 → ⊥) → tell_at (suc n) codes at k
      ≡ tell_block (tell_at n codes) (count_at n codes) codes at (k / (count_at n codes (item_at (count_at n codes) codes at).end).count)
      ++ tell_at n codes (item_at (count_at n codes) codes at).end (k % (count_at n codes (item_at (count_at n codes) codes at).end).count)
  unfolding tell_at
  tell_block_lem n h c b =
      simp (lt-leb (length codes) at h, le-ltb 2 (get_or codes at 0) c, ne_eqb (get_or codes at 0) 0 b)

  pub tell_loop_lem : (tell : ℕ → ℕ → List ℕ) (count : ℕ → Counted) → get_or codes at 0 ≡ 1
      → tell_block tell count codes at k ≡ tell_loop (tell (at + 1)) (count (at + 1)).count at k
  unfolding tell_block
  tell_loop_lem tell count c = simp (eq-eqb (get_or codes at 0) 1 c)

  pub tell_branch_lem : (tell : ℕ → ℕ → List ℕ) (count : ℕ → Counted) → (get_or codes at 0 ≡ 1 → ⊥)
      → tell_block tell count codes at k
      ≡ tell_branch (tell (at + 1)) (tell (after (length codes) (count (at + 1)).end)) (count (at + 1)).count at k
  unfolding tell_block
  tell_branch_lem tell count c = simp (ne_eqb (get_or codes at 0) 1 c)

-- bodies that are told alike below their counts
loop_same : (f g : ℕ → List ℕ) (n at k : ℕ) → 1 ≤ n → k < 1 + (n + n * n) → ((j : ℕ) → j < n → f j ≡ g j) → tell_loop f n at k ≡ tell_loop g n at k
unfolding tell_loop
loop_same f g n at k p less h = go (eqb k 0) refl (leb k n) refl
  where
    go : (s : Bool) → eqb k 0 ≡ s → (t : Bool) → leb k n ≡ t
        → cond s (choice_word at 0 ∷ []) (cond t (choice_word at 1 ∷ f (k - 1)) (choice_word at 2 ∷ (f ((k - 1 - n) / n) ++ f ((k - 1 - n) % n))))
        ≡ cond s (choice_word at 0 ∷ []) (cond t (choice_word at 1 ∷ g (k - 1)) (choice_word at 2 ∷ (g ((k - 1 - n) / n) ++ g ((k - 1 - n) % n))))
    go true a t b = refl
    go false a true b = rw (h (k - 1) (omega (arith, leb-true k n b, eqb-false k 0 a))) refl
    go false a false b =
        let turns : k - 1 - n < n * n = omega (arith, leb-false k n b, eqb-false k 0 a) in
        rw (h ((k - 1 - n) / n) ((div-lt_iff_lt-mul p).1 turns), h ((k - 1 - n) % n) (mod-lt (k - 1 - n) p)) refl

branch_same : (f g one two : ℕ → List ℕ) (m n at k : ℕ) → k < m + n → ((j : ℕ) → j < m → f j ≡ one j) → ((j : ℕ) → j < n → g j ≡ two j)
    → tell_branch f g m at k ≡ tell_branch one two m at k
unfolding tell_branch
branch_same f g one two m n at k less h q = go (ltb k m) refl
  where
    go : (t : Bool) → ltb k m ≡ t
        → cond t (choice_word at 1 ∷ f k) (choice_word at 2 ∷ g (k - m)) ≡ cond t (choice_word at 1 ∷ one k) (choice_word at 2 ∷ two (k - m))
    go true e = rw (h k (ltb-true k m e)) refl
    go false e = rw (q (k - m) (omega (arith, ltb-false k m e))) refl

-- ---- over the lines of a program

module _ (lines : List Line) where
  abbrev run_at : ℕ → ℕ → Run
  run_at n at = (run_of n (drop at lines)).run

  abbrev rest_at : ℕ → ℕ → List Line
  rest_at n at = (run_of n (drop at lines)).rest

  -- a run that is read off at a place, where blocks of these parts are open: it ends after its own lines, with the same blocks open, and is told
  record ToldAs (n at : ℕ) (parts : List ℕ) (p : Parsed) : Type 0 where
    number : ℕ
    ends : (count_at n (codes_of lines) at).end ≡ at + run_lines p.run
    onward : Body parts number p.rest
    ended : Ended p.rest
    tells : (k : ℕ) → count_run p.run ≤ 512 → k < count_run p.run → tell_at n (codes_of lines) at k ≡ tell_run p.run at k

  abbrev Told : ℕ → ℕ → List ℕ → Type 0
  Told n at parts = ToldAs n at parts (run_of n (drop at lines))

  -- a small count is exact
  exact : (n at : ℕ) → count_run (run_at n at) ≤ 512 → (count_at n (codes_of lines) at).count ≡ count_run (run_at n at)
  exact n at h = (counts_run lines n at).counts ∙ cap_small (omega arith)

  -- past the line that closes a block
  closing : (n from : ℕ) (l : Line) → (count_at n (codes_of lines) from).end ≡ from + run_lines (run_at n from)
      → rest_at n from ≡ l ∷ tail (rest_at n from)
      → (after (length (codes_of lines)) (count_at n (codes_of lines) from).end ≡ from + run_lines (run_at n from) + 1)
      × (tail (rest_at n from) ≡ drop (from + run_lines (run_at n from) + 1) lines)
  unfolding after
  closing n from l ends split =
      let e = (count_at n (codes_of lines) from).end in
      let leaves : rest_at n from ≡ drop e lines = (counts_run lines n from).leaves in
      let inside : e < length lines = omega (arith, ap length (sym leaves ∙ split), length-drop e lines) in
      let next : after (length lines) e ≡ from + run_lines (run_at n from) + 1 = rw (lt-ltb e (length lines) inside) (omega (arith, ends)) in
      (rw (length_codes lines) next, ap tail leaves ∙ tail_drop lines e ∙ ap (λ (i : ℕ). drop i lines) next)

  -- an item in front of a run that is told
  told_front : (n at : ℕ) (parts : List ℕ) (x : Item) (more : ℕ) → at < length (codes_of lines) → get_or (codes_of lines) at 0 ≤ 2
      → run_of (suc n) (drop at lines) ≡ in_front_of x (run_of n (drop more lines))
      → (item_at (count_at n (codes_of lines)) (codes_of lines) at).end ≡ more → more ≡ at + item_lines x → Told n more parts
      → ((k : ℕ) → count_item x * count_run (run_at n more) ≤ 512 → k < count_item x * count_run (run_at n more)
      → tell_at (suc n) (codes_of lines) at k
      ≡ tell_item x at (k / count_run (run_at n more)) ++ tell_run (run_at n more) more (k % count_run (run_at n more)))
      → Told (suc n) at parts
  unfolding in_front_of next_counted run_lines count_run tell_run
  told_front n at parts x more p c run next place t tells =
      let ends : (count_at (suc n) (codes_of lines) at).end ≡ (count_at n (codes_of lines) more).end =
      rw (count_next (codes_of lines) at n p c, next) refl in
      subst (ToldAs (suc n) at parts) (sym run) (record {
        number = t.number;
        ends = omega (arith, ends, t.ends, place);
        onward = t.onward;
        ended = t.ended;
        tells = λ k small less. tells k small less ∙ rw place refl;
      })

  -- a block in front of it: the block is told where it has at most 512 unfoldings
  block_front : (n at : ℕ) (parts : List ℕ) (x : Item) (more : ℕ) → at < length (codes_of lines) → get_or (codes_of lines) at 0 ≤ 2
      → (get_or (codes_of lines) at 0 ≡ 0 → ⊥) → run_of (suc n) (drop at lines) ≡ in_front_of x (run_of n (drop more lines))
      → (item_at (count_at n (codes_of lines)) (codes_of lines) at).end ≡ more → more ≡ at + item_lines x → Told n more parts
      → ((j : ℕ) → count_item x ≤ 512 → j < count_item x
      → tell_block (tell_at n (codes_of lines)) (count_at n (codes_of lines)) (codes_of lines) at j ≡ tell_item x at j)
      → Told (suc n) at parts
  block_front n at parts x more p c b run next place t block =
      told_front n at parts x more p c run next place t (λ k small less.
      let m = count_item x in
      let r = run_at n more in
      let rest : count_run r ≤ 512 = omega (arith, le-mul_of_pos_right {m = m} (count_run r) (item_counts x), mul_comm m (count_run r)) in
      let item : m ≤ 512 = omega (arith, le-mul_of_pos_right {m = count_run r} m (run_counts r)) in
      tell_block_lem (codes_of lines) at k n p c b ∙ rw (next, exact n more rest)
      (ap₂ (λ (s u : List ℕ). s ++ u) (block (k / count_run r) item ((div-lt_iff_lt-mul (run_counts r)).1 less))
      (t.tells (k % count_run r) rest (mod-lt k (run_counts r)))))

  -- nothing is read
  told_none : (n at : ℕ) (parts : List ℕ) (m : ℕ) → run_of n (drop at lines) ≡ record { run = Run.done; rest = drop at lines }
      → count_at n (codes_of lines) at ≡ nothing_at at → ((k : ℕ) → tell_at n (codes_of lines) at k ≡ []) → Ended (drop at lines)
      → Body parts m (drop at lines) → Told n at parts
  unfolding nothing_at run_lines tell_run
  told_none n at parts m run counted tells ended body =
      subst (ToldAs n at parts) (sym run)
      (record { number = m; ends = rw counted (sym (add-zero at)); onward = body; ended = ended; tells = λ k small less. tells k })

  -- the runs at later places are told
  abbrev Again : ℕ → Type 0
  Again n = (at : ℕ) (parts : List ℕ) (m : ℕ) → length lines ≤ n + at → Body parts m (drop at lines) → Told n at parts

  statement_told : (n at : ℕ) (parts : List ℕ) (m : ℕ) (l : Line) (k : StatementKind) → l.kind ≡ St k → drop at lines ≡ l ∷ drop (at + 1) lines
      → get_or (codes_of lines) at 0 ≡ 0 → at < length (codes_of lines) → length lines ≤ suc n + at → Body parts m (drop at lines) → Again n
      → Told (suc n) at parts
  unfolding statement_at run_lines count_run tell_run
  statement_told n at parts m l k e d c p less body again =
      let codes = codes_of lines in
      let x = statement (statement_of k l) in
      let onward = again (at + 1) parts (suc m) (omega arith) (body_statement parts m l (drop (at + 1) lines) k e (rw d at body)).1 in
      told_front n at parts x (at + 1) p (omega arith) (rw d (run_statement n l (drop (at + 1) lines) k e))
      (rw (item_statement codes at (count_at n codes) c) refl) refl onward (λ j small inside.
      let r = run_at n (at + 1) in
      let own : j < count_run r = omega (arith, one-mul (count_run r)) in
      tell_statement codes at j n p c ∙ onward.tells j (omega (arith, one-mul (count_run r))) own ∙ rw (mod-eq_of_lt own) refl)

  loop_told : (n at : ℕ) (parts : List ℕ) (m : ℕ) (l : Line) → l.kind ≡ Lo → drop at lines ≡ l ∷ drop (at + 1) lines
      → get_or (codes_of lines) at 0 ≡ 1 → at < length (codes_of lines) → length lines ≤ suc n + at → Body parts m (drop at lines) → Again n
      → Told (suc n) at parts
  unfolding loop_counted run_lines count_run tell_run
  loop_told n at parts m l e d c p less body again =
      let codes = codes_of lines in
      let inner = again (at + 1) (R.loop ∷ parts) m (omega arith) (body_loop parts m l (drop (at + 1) lines) e (rw d at body)) in
      let b = run_at n (at + 1) in
      let end = body_closed R.loop parts inner.number (rest_at n (at + 1)) (λ z. omega arith) inner.ended inner.onward in
      let past = closing n (at + 1) end.0 inner.ends end.1 in
      let more = at + 1 + run_lines b + 1 in
      let onward = again more parts inner.number (omega arith) (rw (← past.1) end.3) in
      block_front n at parts (loop b) more p (omega arith) (λ z. omega arith)
      (rw (d, ← past.1) (run_loop n l (drop (at + 1) lines) e)) (rw (item_loop codes at (count_at n codes) c) past.0) (omega arith) onward
      (λ j small inside.
      let few : count_run b ≤ 512 = omega arith in
      rw (tell_loop_lem codes at j (tell_at n codes) (count_at n codes) c, exact n (at + 1) few)
      (loop_same (tell_at n codes (at + 1)) (λ i. tell_run b (at + 1) i) (count_run b) at j (run_counts b) inside (λ i h. inner.tells i few h)))

  branch_told : (n at : ℕ) (parts : List ℕ) (m : ℕ) (l : Line) → l.kind ≡ Br → drop at lines ≡ l ∷ drop (at + 1) lines
      → get_or (codes_of lines) at 0 ≡ 2 → at < length (codes_of lines) → length lines ≤ suc n + at → Body parts m (drop at lines) → Again n
      → Told (suc n) at parts
  unfolding branch_counted run_lines count_run tell_run
  branch_told n at parts m l e d c p less body again =
      let codes = codes_of lines in
      let one = again (at + 1) (R.first_arm ∷ parts) m (omega arith) (body_branch parts m l (drop (at + 1) lines) e (rw d at body)) in
      let a = run_at n (at + 1) in
      let middle = body_second parts one.number (rest_at n (at + 1)) one.ended one.onward in
      let past = closing n (at + 1) middle.0 one.ends middle.1 in
      let second = at + 1 + run_lines a + 1 in
      let there : second ≡ at + run_lines a + 2 = omega arith in
      let two = again second (R.second_arm ∷ parts) one.number (omega arith) (rw (← past.1) middle.3) in
      let b = run_at n second in
      let end = body_closed R.second_arm parts two.number (rest_at n second) (λ z. omega arith) two.ended two.onward in
      let after_both = closing n second end.0 two.ends end.1 in
      let more = second + run_lines b + 1 in
      let onward = again more parts two.number (omega arith) (rw (← after_both.1) end.3) in
      let not_zero : get_or codes at 0 ≡ 0 → ⊥ = λ z. omega arith in
      let not_one : get_or codes at 0 ≡ 1 → ⊥ = λ z. omega arith in
      block_front n at parts (branch a b) more p (omega arith) not_zero
      (ap (run_of (suc n)) d
      ∙ run_branch n l (drop (at + 1) lines) e
      ∙ ap (λ (t : List Line). in_front_of (branch a (run_of n t).run) (run_of n (tail (run_of n t).rest))) past.1
      ∙ ap (λ (t : List Line). in_front_of (branch a b) (run_of n t)) after_both.1)
      (rw (item_branch codes at (count_at n codes) not_zero not_one, past.0) after_both.0) (omega arith) onward
      (λ j small inside.
      let few_one : count_run a ≤ 512 = omega arith in
      let few_two : count_run b ≤ 512 = omega arith in
      rw (tell_branch_lem codes at j (tell_at n codes) (count_at n codes) not_one, past.0, exact n (at + 1) few_one)
      (branch_same (tell_at n codes (at + 1)) (tell_at n codes second) (λ i. tell_run a (at + 1) i) (λ i. tell_run b (at + run_lines a + 2) i)
      (count_run a) (count_run b) at j inside (λ i h. one.tells i few_one h)
      (λ i h. two.tells i few_two h ∙ ap (λ (q : ℕ). tell_run b q i) there)))

  -- one line more
  line_told : (n at : ℕ) (parts : List ℕ) (m : ℕ) (l : Line) (c : LineKind) → l.kind ≡ c → drop at lines ≡ l ∷ drop (suc at) lines
      → get_or (codes_of lines) at 0 ≡ code_of c → at < length (codes_of lines) → length lines ≤ suc n + at → Body parts m (drop at lines) → Again n
      → Told (suc n) at parts
  unfolding code_of Stops
  line_told n at parts m l c e d g p less body again = go c e g
    where
      run : drop at lines ≡ l ∷ drop (at + 1) lines
      run = rw add-one d

      stop : (c : LineKind) → l.kind ≡ c → get_or (codes_of lines) at 0 ≡ code_of c → 2 < code_of c → Stops c → Told (suc n) at parts
      stop c e g more s =
          told_none (suc n) at parts m (rw d (run_stops n l (drop (suc at) lines) c e s)) (count_stop (codes_of lines) at (suc n) p (omega arith))
          (λ k. tell_stop (codes_of lines) at k (suc n) p (omega arith)) (subst Ended (sym d) (subst Stops (sym e) s)) body

      go : (c : LineKind) → l.kind ≡ c → get_or (codes_of lines) at 0 ≡ code_of c → Told (suc n) at parts
      go (St k) e g = statement_told n at parts m l k e run g p less body again
      go Lo e g = loop_told n at parts m l e run g p less body again
      go Br e g = branch_told n at parts m l e run g p less body again
      go Pr e g = stop Pr e g (omega arith) _
      go Rl e g = stop Rl e g (omega arith) _
      go Fk e g = stop Fk e g (omega arith) _
      go El e g = stop El e g (omega arith) _
      go En e g = stop En e g (omega arith) _
      go Li e g = stop Li e g (omega arith) _

  -- past the last line
  past_told : (n at : ℕ) (parts : List ℕ) (m : ℕ) → length lines ≤ at → Body parts m (drop at lines) → Told n at parts
  unfolding run_of
  past_told n at parts m h body =
      let empty : drop at lines ≡ [] = drop_of_length-le lines h in
      told_none n at parts m (nothing n (drop at lines) empty) (count_past (codes_of lines) at n (omega (arith, length_codes lines)))
      (λ k. tell_past (codes_of lines) at k n (omega (arith, length_codes lines))) (subst Ended (sym empty) _) body
    where
      nothing : (n : ℕ) (l : List Line) → l ≡ [] → run_of n l ≡ record { run = Run.done; rest = l }
      nothing zero l e = refl
      nothing (suc n) [] e = refl
      nothing (suc n) (x ∷ l) e = let z = ap length e in absurd (omega arith)

  told_run : (n : ℕ) → Again n
  told_run zero at parts m less body = past_told zero at parts m (omega arith) body
  told_run (suc n) at parts m less body = go (leb (length lines) at) refl (λ at parts m less body. told_run n at parts m less body)
    where
      go : (t : Bool) → leb (length lines) at ≡ t → Again n → Told (suc n) at parts
      go true h again = past_told (suc n) at parts m (leb-true (length lines) at h) body
      go false h again =
          let inside : at < length lines = leb-false (length lines) at h in
          let l = first_line_lem lines at inside in
          line_told n at parts m l.0 l.0.kind refl l.1 l.2 (omega (arith, length_codes lines)) less body again

  -- what is told over the numbers of the lines of a program is told of its run, wherever the run has at most 512 unfoldings
  pub lines_tell : (n at k : ℕ) → length lines ≤ n + at → Body [] 0 (drop at lines) → count_run (run_at n at) ≤ 512 → k < count_run (run_at n at)
      → tell_at n (codes_of lines) at k ≡ tell_run (run_of n (drop at lines)).run at k
  lines_tell n at k less body small inside = (told_run n at [] 0 less body).tells k small inside
