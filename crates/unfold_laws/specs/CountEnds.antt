-- Where counted runs end, and that a number of lines that is large enough counts what any larger one counts.
use Rattle.std.specs.Prelude.{Bool, cond, List, ◌≡◌, length, get_or, eqb}
use Rattle.std.proofs.Math.Bool.{true, false}
use Rattle.std.proofs.Math.Path.{refl}
use Rattle.std.proofs.Common.{sym, ap, ap₂, ◌∙◌}
use Prim.Native.Nat.{ℕ, zero, suc, ◌+◌, ◌-◌, ◌<◌, ◌≤◌}
use native.Mathlib.Omega.{arith}
use Rattle.std.proofs.Math.Dec.{leb, ltb}
use borrow.Author.Tests.{ltb-true, ltb-false, leb-true, leb-false}
use Rattle.unfold_laws.specs.declared.Counted.{Counted}
use Rattle.unfold_laws.specs.Codes.{
  after,
  nothing_at,
  statement_at,
  loop_counted,
  branch_counted,
  next_counted,
  item_at,
  count_at,
}
use Rattle.unfold_laws.specs.CodesLaws.{count_past, count_stop, count_next}

-- a place from this one on that is no further than the lines reach, where this one is not
pub record Onward (codes : List ℕ) (at end : ℕ) : Type 0 where
  pub on : at ≤ end
  pub inside : at ≤ length codes → end ≤ length codes

-- the run at a place with as many lines as there are from it on
unfoldable pub count_from : List ℕ → ℕ → Counted
count_from codes at = count_at (length codes - at) codes at

module _ (codes : List ℕ) where
  here : (at end : ℕ) → end ≡ at → Onward codes at end
  here at end e = record { on = omega arith; inside = λ h. omega arith }

  pub after_onward : (at end : ℕ) → Onward codes at end → Onward codes at (after (length codes) end)
  unfolding after
  after_onward at end o = go (ltb end (length codes)) refl
    where
      go : (b : Bool) → ltb end (length codes) ≡ b → Onward codes at (cond (ltb end (length codes)) (end + 1) end)
      go true h = rw h (record { on = omega (arith, o.on); inside = λ i. omega (arith, ltb-true end (length codes) h) })
      go false h = rw h o

  onward_from : (at next end : ℕ) → Onward codes at next → Onward codes next end → Onward codes at end
  onward_from at next end o p = record { on = omega (arith, o.on, p.on); inside = λ h. p.inside (o.inside h) }

  module _ (at : ℕ) (inner : at < length codes) (run : ℕ → Counted) (ends : (e : ℕ) → Onward codes e (run e).end) where
    -- an item ends after the line that it begins at
    pub item_onward : Onward codes (at + 1) (item_at run codes at).end
    unfolding item_at statement_at loop_counted branch_counted
    item_onward = go (eqb (get_or codes at 0) 0) (eqb (get_or codes at 0) 1)
      where
        body : Onward codes (at + 1) (after (length codes) (run (at + 1)).end)
        body = after_onward (at + 1) _ (ends (at + 1))

        go : (s t : Bool) → Onward codes (at + 1) (cond s (statement_at at) (cond t (loop_counted (length codes) (run (at + 1)))
            (branch_counted (length codes) (run (at + 1)) (run (after (length codes) (run (at + 1)).end))))).end
        go true t = here (at + 1) (at + 1) refl
        go false true = body
        go false false = after_onward (at + 1) _ (onward_from (at + 1) _ _ body (ends _))

  count_none : (at : ℕ) → count_at 0 codes at ≡ nothing_at at
  unfolding count_at
  count_none at = refl

  pub count_onward : (n at : ℕ) → Onward codes at (count_at n codes at).end
  unfolding nothing_at next_counted
  count_onward zero at = rw (count_none at) (here at at refl)
  count_onward (suc n) at = go (leb (length codes) at) refl (ltb 2 (get_or codes at 0)) refl (λ e. count_onward n e)
    where
      go : (s : Bool) → leb (length codes) at ≡ s → (t : Bool) → ltb 2 (get_or codes at 0) ≡ t → ((e : ℕ) → Onward codes e (count_at n codes e).end)
          → Onward codes at (count_at (suc n) codes at).end
      go true p t q h = rw (count_past codes at (suc n) (leb-true (length codes) at p)) (here at at refl)
      go false p true q h =
          rw (count_stop codes at (suc n) (leb-false (length codes) at p) (ltb-true 2 (get_or codes at 0) q)) (here at at refl)
      go false p false q h =
          let inner = leb-false (length codes) at p in
          let item = item_onward at inner (count_at n codes) h in
          let next : Onward codes at (at + 1) = record { on = omega arith; inside = λ i. omega arith } in
          rw (count_next codes at n inner (ltb-false 2 (get_or codes at 0) q))
          (onward_from at _ _ next (onward_from (at + 1) _ _ item (h _)))

  -- items over runs that are counted alike from the next line on
  pub item_alike : (at : ℕ) (f g : ℕ → Counted) → ((e : ℕ) → Onward codes e (f e).end) → ((e : ℕ) → at + 1 ≤ e → f e ≡ g e)
      → item_at f codes at ≡ item_at g codes at
  unfolding item_at
  item_alike at f g ends h =
      let first = h (at + 1) (omega arith) in
      let second = h (after (length codes) (f (at + 1)).end) (after_onward (at + 1) _ (ends (at + 1))).on in
      rw (second, first)

  -- what is counted with lines enough
  pub count_enough : (n m at : ℕ) → length codes ≤ at + n → length codes ≤ at + m → count_at n codes at ≡ count_at m codes at
  count_enough zero m at p q = count_past codes at 0 (omega arith) ∙ sym (count_past codes at m (omega arith))
  count_enough (suc n) zero at p q = count_past codes at (suc n) (omega arith) ∙ sym (count_past codes at 0 (omega arith))
  count_enough (suc n) (suc m) at p q =
      go (leb (length codes) at) refl (ltb 2 (get_or codes at 0)) refl (λ e h. count_enough n m e (omega arith) (omega arith))
    where
      go : (s : Bool) → leb (length codes) at ≡ s → (t : Bool) → ltb 2 (get_or codes at 0) ≡ t
          → ((e : ℕ) → at + 1 ≤ e → count_at n codes e ≡ count_at m codes e) → count_at (suc n) codes at ≡ count_at (suc m) codes at
      go true a t b h =
          let past = leb-true (length codes) at a in count_past codes at (suc n) past ∙ sym (count_past codes at (suc m) past)
      go false a true b h =
          let inner = leb-false (length codes) at a in
          let stop = ltb-true 2 (get_or codes at 0) b in
          count_stop codes at (suc n) inner stop ∙ sym (count_stop codes at (suc m) inner stop)
      go false a false b h =
          let inner = leb-false (length codes) at a in
          let few = ltb-false 2 (get_or codes at 0) b in
          let item = item_alike at (count_at n codes) (count_at m codes) (count_onward n) h in
          let more = h (item_at (count_at n codes) codes at).end (item_onward at inner (count_at n codes) (count_onward n)).on in
          count_next codes at n inner few
          ∙ ap₂ next_counted item (more ∙ ap (λ (x : Counted). count_at m codes x.end) item)
          ∙ sym (count_next codes at m inner few)

  pub from_enough : (n at : ℕ) → length codes ≤ at + n → count_from codes at ≡ count_at n codes at
  unfolding count_from
  from_enough n at h = count_enough (length codes - at) n at (omega arith) h
