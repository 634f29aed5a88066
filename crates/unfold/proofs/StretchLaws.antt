-- Statement after statement: the steps of `write_stretch`, and what a stretch is to the run that it begins.
use mathlib.Core.Bool.{Bool, true, false}
use Rattle.std.specs.Prelude.{Option, Some, None}
use Rattle.std.specs.Bool.{then_some}
use mathlib.Core.List.{List, [], ◌∷◌, ◌++◌, append_assoc}
use mathlib.Core.Path.{◌≡◌, refl, sym, ap, ◌∙◌}
use Prim.Native.Nat.{ℕ, suc, ◌+◌, ◌-◌, ◌/◌, ◌%◌, ◌≤◌, ◌<◌}
use native.Mathlib.Nat.{add-zero, sub-zero}
use native.Mathlib.Numerals.{add-one}
use native.Mathlib.Omega.{arith}
use lib.Bits.{bit_or}
use lib.ListN.{length, get_or, take, drop, set, length-set, length-take, take-append-drop}
use lib.Seq.{take-suc-set, drop-set-lt, drop-drop}
use borrow.Rule.Slice.PartMut.{put_mid}
use Rattle.unfold_laws.specs.declared.Counted.{Counted}
use Rattle.unfold_laws.specs.Codes.{item_at, count_at}
use Rattle.unfold_laws.specs.CountEnds.{item_onward, count_onward}
use Rattle.unfold_laws.specs.WordCode.{packed}
use Rattle.unfold_laws.specs.Writing.{write_block, write_at}
use Rattle.unfold_laws.specs.WritingLaws.{write_past, write_stop, write_statement, write_block_lem}
use Rattle.unfold_count.specs.Counted.{RunCounted}
use Rattle.unfold.specs.declared.Stretch.{Stretch}
use Rattle.unfold.specs.Laid.{Laid, Stretching, BlockAt, Stretched, Known}
use Rattle.unfold.proofs.LaidLaws.{laid_fits, lays_nothing, lays_length, lays_full, lays_end, lays_both}

-- a run ends at a line where no statement or block begins
pub ends_told : (item : Bool) (n : ℕ) → (n ≤ 2 → item ≡ true) → item ≡ false → 2 < n
ends_told item n back e = let over : n ≤ 2 → ⊥ = λ few. let is = back few in cc in omega (arith, over)

-- no block is next
pub no_block : (o : Option ℕ) → ((there : ℕ) → o ≡ Some there → ⊥) → o ≡ None
no_block None never = refl
no_block (Some there) never = absurd (never there refl)

module _ (codes words marks : List ℕ) (seen at : ℕ) (before : List ℕ) where
  pub stretch_none : Stretching codes words marks seen at before 0 seen before
  stretch_none =
      record { reach = omega arith; inside = omega arith; many = refl; rest = refl; first = λ left k h. rw (sub-zero, add-zero) refl }

  pub stretch_next : (m sees : ℕ) (area : List ℕ) → Stretching codes words marks seen at before m sees area
      → at + m < length codes → get_or codes (at + m) 0 ≡ 0 → m < length area
      → (word mark : ℕ) → word ≡ packed (get_or words (at + m) 0) sees → mark ≡ get_or marks (at + m) 0
      → Stretching codes words marks seen at before (m + 1) (bit_or sees mark) (set area m word)
  stretch_next m sees area s inside c room word mark e d =
      record {
        reach = omega (arith, s.reach);
        inside = omega (arith, s.many);
        many = length-set area m word ∙ s.many;
        rest = drop-set-lt (m + 1) area m word (omega arith) ∙ sym (drop-drop 1 m area) ∙ ap (drop 1) s.rest ∙ drop-drop 1 m before;
        first = first;
      }
    where
      stored : take (m + 1) (set area m word) ≡ take m area ++ (word ∷ [])
      stored = rw add-one (take-suc-set area m word room)

      first : (left k : ℕ) → m + 1 ≤ left
          → write_at left codes words marks seen at k
          ≡ take (m + 1) (set area m word) ++ write_at (left - (m + 1)) codes words marks (bit_or sees mark) (at + (m + 1)) k
      first left k h =
          let one : left - m ≡ suc (left - (m + 1)) = omega arith in
          let on : at + (m + 1) ≡ at + m + 1 = omega arith in
          s.first left k (omega arith)
          ∙ rw (one, stored, append_assoc, on, d, e, write_statement codes words marks sees (at + m) k (left - (m + 1)) inside c) refl

  -- the words of a stretch are laid over the area
  stretch_laid : (m sees : ℕ) (area : List ℕ) → Stretching codes words marks seen at before m sees area → Laid (take m area) before m area
  stretch_laid m sees area s =
      let many : length (take m area) ≡ m = omega (arith, length-take m area, s.many, s.inside) in
      record {
        many = omega (arith, many, s.inside);
        inside = s.inside;
        stands = sym (laid_fits (take m area) before (omega (arith, many, s.inside)) ∙ rw (many, ← s.rest) (take-append-drop m area));
      }

  -- where a stretch ends
  module _ (m sees : ℕ) (area : List ℕ) (s : Stretching codes words marks seen at before m sees area) where
    abbrev told : Bool → Stretch
    told goes = record { many = m; block = then_some goes sees }

    ended : ((left k : ℕ) → length codes ≤ at + left → Laid (write_at left codes words marks seen at k) before m area)
        → Stretched codes words marks seen at before (told false) area
    ended whole = record {
      sees = sees;
      laid = s;
      whole = λ _. whole;
      block = λ there e. let never : ⊥ = cc in absurd never;
    }

    first_words : (left k : ℕ) → length codes ≤ at + left
        → write_at left codes words marks seen at k ≡ take m area ++ write_at (left - m) codes words marks sees (at + m) k
    first_words left k enough = s.first left k (omega (arith, s.reach))

    -- the area is full
    pub stretched_full : length area ≤ m → Stretched codes words marks seen at before (told false) area
    stretched_full h =
        ended (λ left k enough.
        lays_full _ _ _ before m area (first_words left k enough) (stretch_laid m sees area s) (omega (arith, s.many)))

    -- no line is left
    pub stretched_past : length codes ≤ at + m → Stretched codes words marks seen at before (told false) area
    stretched_past h =
        ended (λ left k enough.
        lays_end _ _ _ before m area (first_words left k enough) (write_past codes words marks sees (at + m) k (left - m) h)
        (stretch_laid m sees area s))

    -- the next line begins no statement: a block, or none either
    pub stretched_at : at + m < length codes → (get_or codes (at + m) 0 ≡ 0 → ⊥) → (goes : Bool)
        → (goes ≡ false → 2 < get_or codes (at + m) 0) → (goes ≡ true → get_or codes (at + m) 0 ≤ 2)
        → Stretched codes words marks seen at before (told goes) area
    stretched_at inside some true none block =
        record {
          sees = sees;
          laid = s;
          whole = λ stop. let never : ⊥ = cc in absurd never;
          block = λ there e. let same : there ≡ sees = cc in (same, record { inside = inside; some = some; few = block refl });
        }
    stretched_at inside some false none block =
        ended (λ left k enough.
        lays_end _ _ _ before m area (first_words left k enough)
        (write_stop codes words marks sees (at + m) k (left - m) inside (none refl)) (stretch_laid m sees area s))

-- ---- a stretch, and the run after it

module _ (codes words marks counts : List ℕ) (seen at left k : ℕ) (before : List ℕ) (known : Known codes counts at left) (r : Stretch)
    (area : List ℕ) (s : Stretched codes words marks seen at before r area) where
  pub turn_left : r.many ≤ left
  turn_left = omega (arith, s.laid.reach, known.enough)

  pub turn_whole : r.block ≡ None → Laid (write_at left codes words marks seen at k) before r.many area
  turn_whole e = s.whole e left k known.enough

  pub turn_known : Known codes counts (at + r.many) (left - r.many)
  turn_known = record { held = known.held; enough = omega (arith, known.enough, turn_left) }

  pub turn_on : (sees : ℕ) → r.block ≡ Some sees → (n : ℕ) (end : List ℕ)
      → Laid (write_at (left - r.many) codes words marks sees (at + r.many) k) (take (length area - r.many) (drop r.many area)) n end
      → Laid (write_at left codes words marks seen at k) before (r.many + n) (put_mid r.many (length area - r.many) area end)
  turn_on sees goes n end l =
      lays_both _ _ _ before r.many area n end (s.laid.first left k turn_left)
      (stretch_laid codes words marks seen at before r.many s.sees area s.laid) (rw (s.block sees goes).0 at l)

-- ---- stretch, block, stretch, block: a run

-- what holds at each turn of a run w: its words so far are laid, and the run at `here` is what is left of it
pub record Running (codes words marks counts w before area : List ℕ) (m here sees rest number : ℕ) : Type 0 where
  pub done : List ℕ
  pub parts : w ≡ done ++ write_at rest codes words marks sees here number
  pub laid : Laid done before m area
  pub known : Known codes counts here rest

module _ (codes words marks counts : List ℕ) where
  pub running_start : (seen at left k : ℕ) (before : List ℕ) → Known codes counts at left
      → Running codes words marks counts (write_at left codes words marks seen at k) before before 0 at seen left k
  running_start seen at left k before known = record { done = []; parts = refl; laid = lays_nothing [] before refl; known = known }

  module _ (w before area : List ℕ) (m here sees rest number : ℕ) (g : Running codes words marks counts w before area m here sees rest number) where
    pub running_many : length area ≡ length before
    running_many = lays_length _ before m area g.laid

    pub running_end : length area ≤ m → Laid w before m area
    running_end h = lays_full _ _ w before m area g.parts g.laid (omega (arith, running_many))

    module _ (r : Stretch) (part : List ℕ)
        (s : Stretched codes words marks sees here (take (length area - m) (drop m area)) r part) where
      abbrev line : ℕ
      line = here + r.many

      abbrev over : List ℕ
      over = put_mid m (length area - m) area part

      abbrev left : ℕ
      left = rest - r.many - 1

      first : Laid (g.done ++ take r.many part) before (m + r.many) over
      first =
          lays_both g.done (take r.many part) _ before m area r.many part refl g.laid
          (stretch_laid codes words marks sees here (take (length area - m) (drop m area)) r.many s.sees part s.laid)

      words_then : w ≡ (g.done ++ take r.many part) ++ write_at (rest - r.many) codes words marks s.sees line number
      words_then =
          g.parts
          ∙ ap (λ (l : List ℕ). g.done ++ l) (s.laid.first rest number (omega (arith, s.laid.reach, g.known.enough)))
          ∙ sym (append_assoc g.done (take r.many part) _)

      pub over_many_lem : length over ≡ length before
      over_many_lem = lays_length _ before (m + r.many) over first

      pub stretch_inside : m + r.many ≤ length before
      stretch_inside = first.inside

      -- the run ends, or the area
      pub stretch_whole : r.block ≡ None → Laid w before (m + r.many) over
      stretch_whole e =
          lays_both g.done (write_at rest codes words marks sees here number) w before m area r.many part g.parts g.laid
          (s.whole e rest number g.known.enough)

      -- a block is next
      module _ (there : ℕ) (goes : r.block ≡ Some there) where
        abbrev at_block : BlockAt codes line
        at_block = (s.block there goes).1

        pub stretch_left : r.many < rest
        stretch_left = omega (arith, g.known.enough, at_block.inside)

        pub stretch_known : Known codes counts (line + 1) left
        stretch_known = record { held = g.known.held; enough = omega (arith, g.known.enough, at_block.inside) }

        pub block_ends : (next : ℕ) → next ≡ (item_at (count_at left codes) codes line).end → next ≤ length codes
        block_ends next e =
            let end = (item_onward codes line at_block.inside (count_at left codes) (count_onward codes left)).inside (omega
            (arith, at_block.inside)) in
            omega (arith, e)

        module _ (next : ℕ) (more : Counted) (e : next ≡ (item_at (count_at left codes) codes line).end)
            (q : RunCounted left codes next more) (onward : Known codes counts next left) (j : ℕ) (mid : List ℕ)
            (block : Laid (write_block (write_at left codes words marks there) (count_at left codes) codes line (number / more.count))
            (take (length over - (m + r.many)) (drop (m + r.many) over)) j mid) where
          abbrev words_of : List ℕ
          words_of = write_block (write_at left codes words marks there) (count_at left codes) codes line (number / more.count)

          pub running_next : Running codes words marks counts w before (put_mid (m + r.many) (length over - (m + r.many)) over mid)
              (m + r.many + j) next there left (number % more.count)
          running_next =
              record {
                done = (g.done ++ take r.many part) ++ words_of;
                parts = words_then
                    ∙ ap (λ (l : List ℕ). (g.done ++ take r.many part) ++ l) next_block
                    ∙ sym (append_assoc (g.done ++ take r.many part) words_of _);
                laid = lays_both (g.done ++ take r.many part) words_of _ before (m + r.many) over j mid refl first block;
                known = onward;
              }
            where
              one : rest - r.many ≡ suc left
              one = omega (arith, stretch_left)

              next_block : write_at (rest - r.many) codes words marks s.sees line number
                  ≡ write_block (write_at left codes words marks there) (count_at left codes) codes line (number / more.count)
                  ++ write_at left codes words marks there next (number % more.count)
              next_block =
                  ap (λ (v : ℕ). write_at (rest - r.many) codes words marks v line number) (sym (s.block there goes).0)
                  ∙ ap (λ (n : ℕ). write_at n codes words marks there line number) one
                  ∙ write_block_lem codes words marks there line number left at_block.inside at_block.few at_block.some
                  ∙ rw (← e, ← q.counting.same) refl
