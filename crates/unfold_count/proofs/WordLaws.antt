-- Words for runs: what a word says is what is counted, so a run is put together from the words behind it; and totals summed from the last line
-- on.
use mathlib.Core.Bool.{Bool, true, false, cond}
use mathlib.Core.List.{List}
use mathlib.Core.Path.{◌≡◌, refl, sym, ap, ap₂, ◌∙◌}
use Prim.Native.Nat.{ℕ, zero, suc, ◌+◌, ◌-◌, ◌*◌, ◌/◌, ◌%◌, ◌≤◌, ◌<◌}
use native.Mathlib.Decide.{dec_lt, ℕ_discrete}
use native.Mathlib.Omega.{arith}
use lib.Dec.{eqb, leb, ltb}
use lib.ListN.{length, get_or, set, length-set}
use lib.Seq.{ext_get_or, get_or-set_same, get_or-set_other}
use borrow.Author.Tests.{ltb-true, ltb-false, leb-true, leb-false}
use Rattle.unfold_laws.specs.declared.Counted.{Counted}
use Rattle.unfold_laws.specs.declared.UnfoldingTotals.{UnfoldingTotals}
use Rattle.unfold_laws.specs.Cap.{cap, plus, times, cap_le}
use Rattle.unfold_laws.specs.Codes.{after, nothing_at, next_counted, item_at, count_at}
use Rattle.unfold_laws.specs.CodesLaws.{count_positive, count_past, count_stop, count_next}
use Rattle.unfold_laws.specs.CountEnds.{count_from, after_onward, item_onward, count_onward, from_enough}
use Rattle.unfold_laws.specs.Pieces.{line_totals, totals_before}
use Rattle.value_tables.specs.TableLaws.{told_length, told_at}
use Rattle.unfold_count.specs.Counted.{Counting, RunCounted, Totalled}
use Rattle.unfold_count.specs.CountWords.{count_word, counted_in, count_words, Held, Usable, Behind, Looked, Filled}
use Rattle.unfold_count.proofs.RunLaws.{counted_run, run_next}
use Rattle.unfold_count.proofs.AllLaws.{lines_all}

-- what is counted is small
count_none : (codes : List ℕ) (at : ℕ) → count_at 0 codes at ≡ nothing_at at
unfolding count_at
count_none codes at = refl

count_small : (codes : List ℕ) (n at : ℕ) → ((count_at n codes at).count ≤ 513) × ((count_at n codes at).statements ≤ 513)
unfolding nothing_at next_counted
count_small codes n at = go n (leb (length codes) at) refl (ltb 2 (get_or codes at 0)) refl
  where
    none : (c : Counted) → c ≡ nothing_at at → (c.count ≤ 513) × (c.statements ≤ 513)
    none c e = rw e (omega arith, omega arith)

    next : (x more c : Counted) → c ≡ next_counted x more → (c.count ≤ 513) × (c.statements ≤ 513)
    next x more c e =
        rw e (cap_le (x.count * more.count), cap_le (times x.statements more.count + times x.count more.statements))

    go : (n : ℕ) (s : Bool) → leb (length codes) at ≡ s → (t : Bool) → ltb 2 (get_or codes at 0) ≡ t
        → ((count_at n codes at).count ≤ 513) × ((count_at n codes at).statements ≤ 513)
    go n true p t q = none (count_at n codes at) (count_past codes at n (leb-true (length codes) at p))
    go n false p true q = none (count_at n codes at) (count_stop codes at n (leb-false (length codes) at p) (ltb-true 2 (get_or codes at 0) q))
    go zero false p false q = none (count_at 0 codes at) (count_none codes at)
    go (suc n) false p false q =
        let x = item_at (count_at n codes) codes at in
        next x (count_at n codes x.end) (count_at (suc n) codes at)
        (count_next codes at n (leb-false (length codes) at p) (ltb-false 2 (get_or codes at 0) q))

-- a word says what it was made of
counted_back : (c : Counted) → c.count ≤ 513 → c.statements ≤ 513 → counted_in (count_word c) ≡ c
unfolding counted_in count_word
counted_back c few short =
    let word = c.count + c.statements * 1024 + c.end * 1024 * 1024 in
    let a : word % 1024 ≡ c.count = omega arith in
    let q : word / 1024 ≡ c.statements + c.end * 1024 = omega arith in
    let b : (c.statements + c.end * 1024) % 1024 ≡ c.statements = omega arith in
    let d : (c.statements + c.end * 1024) / 1024 ≡ c.end = omega arith in
    rw (a, q, b, d)

counted_self : (codes : List ℕ) (left at : ℕ) (r : Counted) → r ≡ count_at left codes at → RunCounted left codes at r
counted_self codes left at r e =
    counted_run codes at left r (record {
      same = e;
      positive = rw e (count_positive left codes at);
      few = rw e (count_small codes left at).0;
      short = rw e (count_small codes left at).1;
    })

-- what is found at a place is what is counted there
module _ (codes counts : List ℕ) (from at left : ℕ) (h : Held codes counts from) (on : from ≤ at) (enough : length codes ≤ at + left) where
  pub looked_run : (r : Counted) → Looked left codes counts at r → RunCounted left codes at r
  looked_run r l = go (dec_lt at (length counts))
    where
      go : Dec (at < length counts) → RunCounted left codes at r
      go (yes p) =
          let same = from_enough codes left at enough in
          let c = count_at left codes at in
          counted_self codes left at r
          (l.word p
          ∙ ap counted_in (h.told at on p ∙ ap count_word same)
          ∙ counted_back c (count_small codes left at).0 (count_small codes left at).1)
      go (no p) = l.past (omega (arith, p))

-- words that may be used at a place may be used further on
module _ (codes counts : List ℕ) (at left : ℕ) (u : Usable codes counts at left) where
  usable_on : (e : ℕ) → at ≤ e → Usable codes counts e left
  usable_on e on =
      record {
        enough = λ less. omega (arith, u.enough (omega (arith, less)));
        told = λ k far less. u.told k (omega arith) less;
      }

  -- the word at the place says what is counted there
  pub usable_run : at < length counts → (r : Counted) → r ≡ counted_in (get_or counts at 0) → RunCounted left codes at r
  usable_run less r e =
      let same = from_enough codes left at (u.enough less) in
      let c = count_at left codes at in
      counted_self codes left at r
      (e
      ∙ ap counted_in (u.told at (omega arith) less ∙ ap count_word same)
      ∙ counted_back c (count_small codes left at).0 (count_small codes left at).1)

-- past the words any number of lines may be left
pub usable_past : (codes counts : List ℕ) (at left : ℕ) → length counts ≤ at → Usable codes counts at left
usable_past codes counts at left past =
    record { enough = λ less. absurd (omega arith); told = λ e on less. absurd (omega arith) }

pub behind_past : (codes counts : List ℕ) (at left : ℕ) → at < length codes → length counts ≤ at → Behind codes counts at left
behind_past codes counts at left inside past =
    record { inside = inside; usable = usable_past codes counts (at + 1) left (omega arith) }

-- the places behind a line
module _ (codes counts : List ℕ) (at left : ℕ) (b : Behind codes counts at left) where
  pub behind_second : (body : Counted) → RunCounted left codes (at + 1) body → (other : ℕ) → other ≡ after (length codes) body.end
      → Usable codes counts other left
  behind_second body p other o =
      let end = count_onward codes left (at + 1) in
      let same : body.end ≡ (count_at left codes (at + 1)).end = ap (λ (x : Counted). x.end) p.counting.same in
      usable_on codes counts (at + 1) left b.usable other (omega (arith, (after_onward codes (at + 1) _ end).on, ap (after (length codes)) same, o))

  pub behind_onward : (x : Counted) → Counting (item_at (count_at left codes) codes at) x → Usable codes counts x.end left
  behind_onward x p =
      let end = item_onward codes at b.inside (count_at left codes) (count_onward codes left) in
      let same : x.end ≡ (item_at (count_at left codes) codes at).end = ap (λ (y : Counted). y.end) p.same in
      usable_on codes counts (at + 1) left b.usable x.end (omega (arith, end.on))

  pub behind_next : (x : Counted) → Counting (item_at (count_at left codes) codes at) x → (more r : Counted) → get_or codes at 0 ≤ 2
      → RunCounted left codes x.end more → r ≡ next_counted x more → RunCounted (left + 1) codes at r
  behind_next x p more r few q e =
      let sub : left + 1 - 1 ≡ left = omega arith in
      run_next codes at (left + 1) x more r (λ z. omega arith) b.inside few (rw sub p) (rw sub q) e

-- ---- from the last line to the first

pub record Filling (codes : List ℕ) (i : ℕ) (counts : List ℕ) (t : UnfoldingTotals) : Type 0 where
  pub inside : i ≤ length codes
  pub size : length counts ≡ length codes
  pub held : Held codes counts i
  pub few : t.count ≤ 513
  pub short : t.statements ≤ 513
  pub nodes : plus (totals_before codes i).count t.count ≡ (totals_before codes (length codes)).count
  pub states : plus (totals_before codes i).statements t.statements ≡ (totals_before codes (length codes)).statements

-- a line's totals over stopped totals are stopped; a line's part may be added to what stands before it or to what stands after
line_small : (codes : List ℕ) (i : ℕ) (t : UnfoldingTotals) → t.count ≤ 513 → t.statements ≤ 513
    → ((line_totals codes i t).count ≤ 513) × ((line_totals codes i t).statements ≤ 513)
unfolding line_totals
line_small codes i t p q = go (eqb (get_or codes i 0) 3) _ _
  where
    go : (b : Bool) (a d : ℕ) → ((cond b (record { count = plus t.count a; statements = plus t.statements d }) t).count ≤ 513)
        × ((cond b (record { count = plus t.count a; statements = plus t.statements d }) t).statements ≤ 513)
    go true a d = (cap_le (t.count + a), cap_le (t.statements + d))
    go false a d = (p, q)

totals_small : (codes : List ℕ) (i : ℕ) → ((totals_before codes i).count ≤ 513) × ((totals_before codes i).statements ≤ 513)
unfolding totals_before
totals_small codes zero = (omega arith, omega arith)
totals_small codes (suc i) = let h = totals_small codes i in line_small codes i (totals_before codes i) h.0 h.1

plus_moves : (a b c : ℕ) → plus (plus a b) c ≡ plus a (plus c b)
unfolding cap
plus_moves a b c = omega arith

line_moves : (codes : List ℕ) (i : ℕ) (s t : UnfoldingTotals)
    → (plus (line_totals codes i s).count t.count ≡ plus s.count (line_totals codes i t).count)
    × (plus (line_totals codes i s).statements t.statements ≡ plus s.statements (line_totals codes i t).statements)
unfolding line_totals
line_moves codes i s t = go (eqb (get_or codes i 0) 3) _ _
  where
    go : (b : Bool) (x y : ℕ)
        → (plus (cond b (record { count = plus s.count x; statements = plus s.statements y }) s).count t.count
        ≡ plus s.count (cond b (record { count = plus t.count x; statements = plus t.statements y }) t).count)
        × (plus (cond b (record { count = plus s.count x; statements = plus s.statements y }) s).statements t.statements
        ≡ plus s.statements (cond b (record { count = plus t.count x; statements = plus t.statements y }) t).statements)
    go true x y = (plus_moves s.count x t.count, plus_moves s.statements y t.statements)
    go false x y = (refl, refl)

abbrev totals_made : ℕ → ℕ → UnfoldingTotals
totals_made n m = record { count = n; statements = m }

plus_none : (a : ℕ) → a ≤ 513 → plus a 0 ≡ a
unfolding cap
plus_none a h = omega arith

none_plus : (a b : ℕ) → a ≤ 513 → plus 0 a ≡ b → a ≡ b
unfolding cap
none_plus a b h e = omega arith

pub filling_start : (codes counts : List ℕ) (i : ℕ) → i ≡ length counts → length counts ≡ length codes → length counts < 2048
    → Filling codes i counts (record { count = 0; statements = 0 })
filling_start codes counts i e size short =
    let d : i ≡ length codes = e ∙ size in
    let h = totals_small codes (length codes) in
    record {
      inside = omega arith;
      size = size;
      held = record { short = short; few = omega arith; told = λ at on less. absurd (omega arith) };
      few = omega arith;
      short = omega arith;
      nodes = rw d (plus_none _ h.0);
      states = rw d (plus_none _ h.1);
    }

module _ (codes : List ℕ) (i : ℕ) (counts : List ℕ) (t : UnfoldingTotals) (g : Filling codes i counts t) where
  module _ (at left : ℕ) (next : i ≡ at + 1) (q : length codes ≡ i + left) where
    pub filling_behind : Behind codes counts at left
    filling_behind =
        record {
          inside = omega (arith, g.inside);
          usable = record {
            enough = λ less. omega arith;
            told = λ e on less. g.held.told e (omega arith) less;
          };
        }

    module _ (c : Counted) (counted : RunCounted (left + 1) codes at c) where
      from_here : c ≡ count_from codes at
      from_here = counted.counting.same ∙ sym (from_enough codes (left + 1) at (omega (arith, g.inside)))

      pub filling_end : c.end < 2048
      filling_end =
          let end = count_onward codes (left + 1) at in
          omega (
            arith,
            end.inside (omega (arith, g.inside)),
            ap (λ (x : Counted). x.end) counted.counting.same,
            g.size,
            g.held.short,
          )

      pub filling_next : (u : UnfoldingTotals) → Totalled (line_totals codes at t) u → (word : ℕ) → word ≡ count_word c
          → Filling codes at (set counts at word) u
      unfolding totals_before
      filling_next u s word w =
          let up : i ≡ suc at = omega arith in
          let moved = line_moves codes at (totals_before codes at) t in
          record {
            inside = omega (arith, g.inside);
            size = length-set counts at word ∙ g.size;
            held = record {
              short = omega (arith, length-set counts at word, g.held.short);
              few = omega (arith, length-set counts at word, g.held.few);
              told = λ e on less. told e on (omega (arith, length-set counts at word)) (ℕ_discrete e at);
            };
            few = s.few;
            short = s.short;
            nodes = rw s.same (sym moved.0) ∙ sum_nodes up;
            states = rw s.same (sym moved.1) ∙ sum_states up;
          }
        where
          told : (e : ℕ) → at ≤ e → e < length counts → Dec (e ≡ at) → get_or (set counts at word) e 0 ≡ count_word (count_from codes e)
          told e on less (yes d) = rw d (get_or-set_same counts at word 0 (omega arith) ∙ w ∙ ap count_word from_here)
          told e on less (no d) =
              get_or-set_other counts at e word 0 d ∙ g.held.told e (omega (arith, d)) less

          sum_nodes : i ≡ suc at → plus (line_totals codes at (totals_before codes at)).count t.count ≡ (totals_before codes (length codes)).count
          sum_nodes z = rw z at g.nodes

          sum_states : i ≡ suc at
              → plus (line_totals codes at (totals_before codes at)).statements t.statements ≡ (totals_before codes (length codes)).statements
          sum_states z = rw z at g.states

  pub filling_all : i ≤ 0 → Filled codes t counts
  unfolding count_words totals_before
  filling_all z =
      let none : i ≡ 0 = omega arith in
      record {
        totals = lines_all codes (length codes) t (omega arith) (omega arith)
            (record { same = same (rw none at g.nodes) (rw none at g.states); few = g.few; short = g.short });
        words = ext_get_or 0 counts (count_words codes)
            (g.size ∙ sym (told_length (λ at. count_word (count_from codes at)) (length codes)))
            (λ e less. g.held.told e (omega arith) less
            ∙ sym (told_at (λ at. count_word (count_from codes at)) 0 (length codes) e (omega (arith, g.size))));
      }
    where
      same : plus (totals_before codes 0).count t.count ≡ (totals_before codes (length codes)).count
          → plus (totals_before codes 0).statements t.statements ≡ (totals_before codes (length codes)).statements
          → t ≡ totals_before codes (length codes)
      same a b =
          let x = none_plus t.count _ g.few a in
          let y = none_plus t.statements _ g.short b in
          ap₂ totals_made x y

  pub filling_length : length counts ≡ length codes
  filling_length = g.size

-- all words of a table that is filled are those for its runs
pub words_held : (codes counts : List ℕ) → counts ≡ count_words codes → length codes < 2048 → Held codes counts 0
unfolding count_words
words_held codes counts e short =
    let many = ap length e ∙ told_length (λ at. count_word (count_from codes at)) (length codes) in
    record {
      short = omega arith;
      few = omega arith;
      told = λ at on less.
          ap (λ (l : List ℕ). get_or l at 0) e ∙ told_at (λ j. count_word (count_from codes j)) 0 (length codes) at (omega (arith, many));
    }

pub none_held : (codes counts : List ℕ) → length counts ≡ 0 → Held codes counts 0
none_held codes counts e = record { short = omega arith; few = omega arith; told = λ at on less. absurd (omega arith) }
